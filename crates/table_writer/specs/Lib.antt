-- The specification of the two passes of the writers of field tables.
pub mod Sizes
pub mod Emitting
