-- Laws of the frame writers.
pub mod EncodeLaws
pub mod PayloadLaws
pub mod KindLaws
