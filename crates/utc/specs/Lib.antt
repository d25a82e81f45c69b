-- The specification of dates and times in UTC.
pub mod Calendar
pub mod Parts
pub mod Text
mod Examples
