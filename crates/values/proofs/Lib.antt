-- Laws of leaf values and their words, for the proofs of this crate and of those above it.
pub mod ValueLaws
