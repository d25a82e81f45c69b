-- Moments and their seconds, as `date -u` has them.
use Rattle.std.specs.Prelude.{◌≡◌, refl, ℕ}
use Rattle.utc.specs.Calendar.{leap_year, days_of_year, days_of_month, days_before_year, days_before_month, days_of, seconds_of}
use Rattle.utc.specs.declared.DateTime.{DateTime}

at : ℕ → ℕ → ℕ → ℕ → ℕ → ℕ → DateTime
at y m d h min s = record { year = y; month = m; day = d; hour = h; minute = min; second = s }

epoch : seconds_of (at 1970 1 1 0 0 0) ≡ 0
unfolding seconds_of days_of days_before_year days_before_month days_of_year days_of_month leap_year at
epoch = refl

-- 2000 is divisible by 400: a leap year
leap-2000 : seconds_of (at 2000 2 29 0 0 0) ≡ 951782400
unfolding seconds_of days_of days_before_year days_before_month days_of_year days_of_month leap_year at
leap-2000 = refl

leap-2024 : seconds_of (at 2024 2 29 12 34 56) ≡ 1709210096
unfolding seconds_of days_of days_before_year days_before_month days_of_year days_of_month leap_year at
leap-2024 = refl

in-2026 : seconds_of (at 2026 11 16 0 0 1) ≡ 1794787201
unfolding seconds_of days_of days_before_year days_before_month days_of_year days_of_month leap_year at
in-2026 = refl

-- 2100 is divisible by 100 and not by 400: no leap year
no-leap-2100 : seconds_of (at 2100 3 1 0 0 0) ≡ 4107542400
unfolding seconds_of days_of days_before_year days_before_month days_of_year days_of_month leap_year at
no-leap-2100 = refl
