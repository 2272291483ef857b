-- What a write of the box answers and leaves, whole and in two steps, beside its questions and effects in the model.
pub mod Accepted
pub mod Begun
