-- The specification of the reply readers.
pub mod Replies
pub mod AnswerOf
