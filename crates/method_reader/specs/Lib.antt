-- The specification of the readers of commands and content headers.
pub mod Fields
pub mod AnswerOf
pub mod OnePass
