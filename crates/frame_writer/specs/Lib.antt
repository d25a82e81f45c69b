-- The specification of the frame writers' own parts.
pub mod Parts
