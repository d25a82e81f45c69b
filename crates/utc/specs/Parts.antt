-- What the code's steps answer: a day by its year, and by its month.
use Rattle.std.specs.Prelude.{◌≡◌, ℕ, ◌+◌, ◌-◌, ◌≤◌, ◌<◌}
use Rattle.utc.specs.Calendar.{days_of_year, days_of_month, days_before_year, days_before_month}
use Rattle.utc.specs.declared.YearDay.{YearDay}
use Rattle.utc.specs.declared.MonthDay.{MonthDay}

-- The day is so many days after 1970-01-01, and of the year
pub record YearOf (r : YearDay) (days : ℕ) : Type 0 where
  pub from : 1970 ≤ r.year
  pub whole : days_before_year (r.year - 1970) + r.before ≡ days
  pub within : r.before < days_of_year r.year

-- The day has so many days of the year before it, and is of the month
pub record MonthOf (r : MonthDay) (year before : ℕ) : Type 0 where
  pub month : (1 ≤ r.month) × (r.month ≤ 12)
  pub day : (1 ≤ r.day) × (r.day ≤ days_of_month year r.month)
  pub whole : days_before_month year r.month + (r.day - 1) ≡ before
