-- Laws of the specification's definitions, for the proofs of this crate and of those above it.
pub mod Tests
pub mod Chain
pub mod Arms
pub mod NumberLaws
pub mod FloatLaws
pub mod StringLaws
pub mod Splice
pub mod Standing
pub mod RoundTrip
