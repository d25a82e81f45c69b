-- Laws of years: the days before a year, by 400 years and by one.
use mathlib.Core.Path.{◌≡◌, refl, ap, ◌∙◌}
use Prim.Native.Nat.{ℕ, zero, suc, ◌+◌, ◌-◌, ◌*◌, ◌%◌, ◌≤◌}
use native.Mathlib.Omega.{arith}
use Rattle.utc.specs.Calendar.{leap_year, days_of_year, days_before_year}

-- the leap rule comes again after 400 years, so 400 years have as many days wherever they start
again : (y : ℕ) → days_of_year (400 + y) ≡ days_of_year y
unfolding days_of_year leap_year
again y =
    let four : (400 + y) % 4 ≡ y % 4 = omega arith in
    let hundred : (400 + y) % 100 ≡ y % 100 = omega arith in
    let all : (400 + y) % 400 ≡ y % 400 = omega arith in
    rw (four, hundred, all)

cycle : (k : ℕ) → days_before_year (400 + k) ≡ 146097 + days_before_year k
unfolding days_before_year days_of_year leap_year
cycle zero = refl
cycle (suc k) =
    let one : 400 + suc k ≡ suc (400 + k) = omega arith in
    let same : 1970 + (400 + k) ≡ 400 + (1970 + k) = omega arith in
    ap days_before_year one ∙ omega (arith, cycle k, ap days_of_year same, again (1970 + k))

pub cycles : (c : ℕ) → days_before_year (400 * c) ≡ 146097 * c
unfolding days_before_year
cycles zero = refl
cycles (suc c) =
    let one : 400 * suc c ≡ 400 + 400 * c = omega arith in
    ap days_before_year one ∙ omega (arith, cycle (400 * c), cycles c)

-- the days before a year that lies k years behind so many times 400
pub behind-cycles : (c k : ℕ) → days_before_year (400 * c + k) ≡ 146097 * c + days_before_year k
behind-cycles zero k =
    let none : 400 * zero + k ≡ k = omega arith in omega (arith, ap days_before_year none)
behind-cycles (suc c) k =
    let one : 400 * suc c + k ≡ 400 + (400 * c + k) = omega arith in
    ap days_before_year one ∙ omega (arith, cycle (400 * c + k), behind-cycles c k)

pub again-cycles : (c y : ℕ) → days_of_year (400 * c + y) ≡ days_of_year y
again-cycles zero y =
    let none : 400 * zero + y ≡ y = omega arith in ap days_of_year none
again-cycles (suc c) y =
    let one : 400 * suc c + y ≡ 400 + (400 * c + y) = omega arith in
    ap days_of_year one ∙ omega (arith, again (400 * c + y), again-cycles c y)

pub year-step : (y : ℕ) → 1970 ≤ y → days_before_year (suc (y - 1970)) ≡ days_before_year (y - 1970) + days_of_year y
unfolding days_before_year
year-step y h =
    let same : 1970 + (y - 1970) ≡ y = omega arith in
    ap (λ (n : ℕ). days_before_year (y - 1970) + days_of_year n) same

pub next-year : (y : ℕ) → 1970 ≤ y → days_before_year ((y + 1) - 1970) ≡ days_before_year (y - 1970) + days_of_year y
next-year y h =
    let one : (y + 1) - 1970 ≡ suc (y - 1970) = omega arith in
    ap days_before_year one ∙ year-step y h
