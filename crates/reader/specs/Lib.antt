-- The specification of the reader.
pub mod Reading
