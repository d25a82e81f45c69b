-- Laws of the calendar, for the proofs of this crate.
pub mod YearLaws
pub mod MonthLaws
pub mod Unique
