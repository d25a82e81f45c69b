-- Dates and times in UTC: years and months of the Gregorian calendar, and the seconds since the Epoch of POSIX.1.
use Rattle.std.specs.Prelude.{◌≡◌, Bool, not, ◌&&◌, ◌||◌, cond, [], ◌∷◌, ℕ, zero, suc, ◌+◌, ◌-◌, ◌*◌, ◌%◌, ◌≤◌, ◌<◌, eqb, get_or}
use Rattle.utc.specs.declared.DateTime.{DateTime}

-- The Gregorian calendar's leap years: those divisible by 4, but not those divisible by 100 unless by 400
unfoldable pub leap_year : ℕ → Bool
leap_year y = eqb (y % 4) 0 && (not (eqb (y % 100) 0) || eqb (y % 400) 0)

unfoldable pub days_of_year : ℕ → ℕ
days_of_year y = cond (leap_year y) 366 365

-- The Gregorian calendar's months, from the first, January; the 0 before it stands for no month
unfoldable pub days_of_month : ℕ → ℕ → ℕ
days_of_month y m = get_or (0 ∷ 31 ∷ cond (leap_year y) 29 28 ∷ 31 ∷ 30 ∷ 31 ∷ 30 ∷ 31 ∷ 31 ∷ 30 ∷ 31 ∷ 30 ∷ 31 ∷ []) m 0

-- The days from 1970-01-01 to the first day of the year 1970 + k
unfoldable pub days_before_year : ℕ → ℕ
days_before_year zero = 0
days_before_year (suc k) = days_before_year k + days_of_year (1970 + k)

-- The days from the first day of the year y to the first day of its month m
unfoldable pub days_before_month : ℕ → ℕ → ℕ
days_before_month y zero = 0
days_before_month y (suc m) = days_before_month y m + days_of_month y m

-- The days from 1970-01-01 to the moment's day
unfoldable pub days_of : DateTime → ℕ
days_of t = days_before_year (t.year - 1970) + days_before_month t.year t.month + (t.day - 1)

-- POSIX.1, "Seconds Since the Epoch": 1970-01-01 00:00:00 is 0, and every day has 86,400 seconds: no leap second is counted
unfoldable pub seconds_of : DateTime → ℕ
seconds_of t = ((days_of t * 24 + t.hour) * 60 + t.minute) * 60 + t.second

-- A day of the calendar from 1970 on, and a time of that day
pub record Valid (t : DateTime) : Type 0 where
  pub year : 1970 ≤ t.year
  pub month : (1 ≤ t.month) × (t.month ≤ 12)
  pub day : (1 ≤ t.day) × (t.day ≤ days_of_month t.year t.month)
  pub hour : t.hour < 24
  pub minute : t.minute < 60
  pub second : t.second < 60

-- The moment t is the one that a number of seconds stands for
pub record Shows (t : DateTime) (seconds : ℕ) : Type 0 where
  pub valid : Valid t
  pub since : seconds_of t ≡ seconds
