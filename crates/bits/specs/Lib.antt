-- The specification of values as bits.
pub mod Signed
pub mod Flags
