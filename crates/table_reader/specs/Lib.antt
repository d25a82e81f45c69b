-- The specification of the readers of field tables.
pub mod Counting
pub mod AnswerOf
pub mod Filling
pub mod Ending
