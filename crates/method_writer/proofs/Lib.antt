-- Laws of the writers of commands and content headers.
pub mod SizeLaws
pub mod EmitLaws
pub mod WriteLaws
