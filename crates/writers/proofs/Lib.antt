-- Laws of the writers, for the proofs of this crate and of those above it.
pub mod WriterLaws
