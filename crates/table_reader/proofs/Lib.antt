-- Laws of the two passes of the readers of field tables.
pub mod CountingLaws
pub mod LeafLaws
pub mod FillLaws
pub mod ReaderLaws
