-- Laws of the specification of commands and content headers.
pub mod FieldsLeft
pub mod Kind
pub mod NumberLaws
pub mod ShortStrLaws
pub mod BitsLaws
pub mod LoginLaws
pub mod TableLaws
pub mod KindLaws
pub mod FieldLaws
pub mod LayoutLaws
pub mod WordLaws
pub mod MethodLaws
pub mod Bounds
pub mod FixedLaws
pub mod CommandLaws
pub mod PresentLaws
