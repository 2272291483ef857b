-- What a C caller gets of each call, in the words of the model's `step`, `power_up` and `stored`.
pub mod Codes
