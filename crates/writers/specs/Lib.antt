-- The specification of the writers.
pub mod Writers
pub mod AnswerOf
