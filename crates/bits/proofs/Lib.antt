-- Laws of values as bits, for the proofs of this crate and of those above it.
pub mod SignedLaws
pub mod FlagLaws
