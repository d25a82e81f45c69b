-- Laws of the specification of frames, the walk and the two senders.
pub mod ListLaws
pub mod FrameLaws
pub mod WalkLaws
pub mod TwoSenders
pub mod BenchSheet
