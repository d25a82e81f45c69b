-- The specification of the writers of commands and content headers.
pub mod Sizes
pub mod Emitting
pub mod Calls
pub mod AnswerOf
