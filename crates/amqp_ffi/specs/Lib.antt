-- What the exported functions answer.
pub mod Reply
pub mod Frames
