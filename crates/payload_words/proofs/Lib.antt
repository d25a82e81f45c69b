-- Laws of payloads as words.
pub mod PayloadLaws
