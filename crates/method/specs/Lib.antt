-- The specification of commands and content headers.
pub mod Kinds
pub mod Fields
pub mod Commands
pub mod Properties
pub mod Writing
pub mod Reading
pub mod Pooled
pub mod Words
pub mod Layout
pub mod AnswerOf
pub mod Present
