-- Laws of the readers of commands and content headers.
pub mod ReaderLaws
pub mod FieldLaws
pub mod PropertyLaws
pub mod OnePassLaws
pub mod CommandLaws
pub mod KeptLaws
pub mod LoginLaws
