-- The specification of the readers of frames.
pub mod Walking
pub mod FixedSize
pub mod Words
pub mod AnswerOf
