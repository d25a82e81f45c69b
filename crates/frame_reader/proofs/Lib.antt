-- Laws of the readers of frames.
pub mod DecodeLaws
pub mod StepLaws
pub mod WordLaws
pub mod WalkStepLaws
pub mod WalkInvariant
pub mod FixedSizeLaws
