-- The specification of leaf values.
pub mod Values
mod Examples
