-- The specification of the wire types.
pub mod Answer
pub mod Octets
pub mod Judgement
pub mod Strings
pub mod Floats
pub mod Lookup
pub mod Memory
pub mod Records
pub mod AnswerOf
mod Examples
