-- The specification of frames, the walk and the two senders.
pub mod Frame
pub mod Step
pub mod Walk
pub mod Writing
pub mod Senders
pub mod AnswerOf
pub mod Bench
