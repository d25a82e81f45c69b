-- The specification of UTF-8, from the grammar of RFC 3629, section 4.
pub mod Utf8
pub mod AnswerOf
mod Examples
