-- What the public functions answer, in the words of the model's `step`, `power_up` and `stored`.
pub mod Answers
pub mod Parts
