-- The specification of payloads as words.
pub mod Words
