-- A number of seconds stands for one moment: two valid moments with the same seconds are the same.
use mathlib.Core.Path.{◌≡◌, sym, ap, ◌∙◌}
use Prim.Native.Nat.{ℕ, suc, ◌+◌, ◌-◌, ◌≤◌, ◌<◌}
use native.Mathlib.Decide.{le_ind}
use native.Mathlib.Omega.{arith}
use Rattle.utc.specs.Calendar.{days_before_year, days_before_month, days_of, seconds_of, Valid, Shows}
use Rattle.utc.specs.declared.DateTime.{DateTime}
use Rattle.utc.proofs.YearLaws.{year-step}
use Rattle.utc.proofs.MonthLaws.{month-step, year-months}

-- f says where each of a row of parts begins, one behind the other: what lies within a part lies within no other
module _ (f : ℕ → ℕ) (up : (k : ℕ) → f k ≤ f (suc k)) where
  rises : (a b : ℕ) → a ≤ b → f a ≤ f b
  rises a b h = le_ind (λ (m : ℕ). f a ≤ f m) (omega arith) (λ m l p. omega (arith, p, up m)) b h

  same-part : (a b x y : ℕ) → f a + x < f (suc a) → f b + y < f (suc b) → f a + x ≡ f b + y → a ≡ b
  same-part a b x y p q e =
      let low : a < b → ⊥ = λ l. omega (arith, rises (suc a) b l) in
      let high : b < a → ⊥ = λ l. omega (arith, rises (suc b) a l) in
      omega (arith, low, high)

year-up : (k : ℕ) → days_before_year k ≤ days_before_year (suc k)
unfolding days_before_year
year-up k = omega arith

month-up : (y m : ℕ) → days_before_month y m ≤ days_before_month y (suc m)
month-up y m = omega (arith, month-step y m)

module _ (t : DateTime) (v : Valid t) where
  -- the days of the year before the moment's day
  abbrev of_year : ℕ
  of_year = days_before_month t.year t.month + (t.day - 1)

  in-month : of_year < days_before_month t.year (suc t.month)
  in-month = omega (arith, month-step t.year t.month)

  in-year : days_before_year (t.year - 1970) + of_year < days_before_year (suc (t.year - 1970))
  in-year =
      let last = rises (days_before_month t.year) (month-up t.year) (suc t.month) 13 (omega arith) in
      omega (arith, in-month, year-months t.year, year-step t.year v.year)

module _ (a b : DateTime) (v : Valid a) (w : Valid b) where
  same-year : days_of a ≡ days_of b → a.year ≡ b.year
  unfolding days_of
  same-year e =
      let k = same-part days_before_year year-up _ _ (of_year a v) (of_year b w) (in-year a v) (in-year b w) (omega arith) in
      omega arith

  -- in one year, the days before the moment's day are the same, and so are the month and the day
  same-day : days_of a ≡ days_of b → a.year ≡ b.year → (a.month ≡ b.month) × (a.day ≡ b.day)
  unfolding days_of
  same-day e y =
      let f = days_before_month a.year in
      let there : f b.month + (b.day - 1) < f (suc b.month) = rw y (in-month b w) in
      let days : f a.month + (a.day - 1) ≡ f b.month + (b.day - 1) =
      omega (arith, ap (λ (n : ℕ). days_before_year (n - 1970)) y, ap (λ (n : ℕ). days_before_month n b.month) y) in
      let m = same-part f (month-up a.year) _ _ (a.day - 1) (b.day - 1) (in-month a v) there days in
      (m, omega (arith, ap f m))

  pub unique : seconds_of a ≡ seconds_of b → a ≡ b
  unfolding seconds_of
  unique e =
      let days : days_of a ≡ days_of b = omega arith in
      let y = same-year days in
      let d = same-day days y in
      let h : a.hour ≡ b.hour = omega arith in
      let m : a.minute ≡ b.minute = omega arith in
      let s : a.second ≡ b.second = omega arith in
      λ i. record { year = y i; month = d.0 i; day = d.1 i; hour = h i; minute = m i; second = s i }

-- so the contract of `date_time` leaves it one answer
pub one_answer : (a b : DateTime) (seconds : ℕ) → Shows a seconds → Shows b seconds → a ≡ b
one_answer a b seconds p q = unique a b p.valid q.valid (p.since ∙ sym q.since)
