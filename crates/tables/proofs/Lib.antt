-- Laws of the specification of field tables.
pub mod LetterLaws
pub mod Fit
pub mod ReadingLaws
pub mod Room
pub mod RoundTrip
pub mod TapeLaws
pub mod JudgeLaws
pub mod AccessLaws
pub mod Relay
pub mod TableLaws
