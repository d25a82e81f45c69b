-- Laws of the two passes of the writers of field tables.
pub mod RecordLaws
pub mod KindLaws
pub mod SizeLaws
pub mod PassLaws
pub mod WholeLaws
pub mod EmitLaws
pub mod EmitSteps
pub mod WriteLaws
