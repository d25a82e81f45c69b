-- The specification of commands and content headers as words.
pub mod Words
pub mod Properties
pub mod InWords
pub mod AnswerOf
