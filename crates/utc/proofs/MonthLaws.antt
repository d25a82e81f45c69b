-- Laws of months: their lengths in the code's form, and the days before a month.
use mathlib.Core.Path.{◌≡◌, refl, ap, ◌∙◌}
use mathlib.Core.Bool.{Bool, true, false, cond}
use mathlib.Core.Logic.{◌⊎◌, inl, inr}
use Prim.Native.Nat.{ℕ, suc, ◌+◌, ◌≤◌, ◌<◌}
use native.Mathlib.Omega.{arith}
use borrow.Author.Count.{below_none, below_more}
use Rattle.utc.specs.Calendar.{leap_year, days_of_year, days_of_month, days_before_month}

pub february : (y m : ℕ) {b : Bool} → m ≡ 2 → leap_year y ≡ b → cond b 29 28 ≡ days_of_month y m
unfolding days_of_month
february y m e l = rw (e, l)

pub thirty : (y m : ℕ) → (m ≡ 4) ⊎ ((m ≡ 6) ⊎ ((m ≡ 9) ⊎ (m ≡ 11))) → days_of_month y m ≡ 30
unfolding days_of_month
thirty y m (inl e) = rw e
thirty y m (inr (inl e)) = rw e
thirty y m (inr (inr (inl e))) = rw e
thirty y m (inr (inr (inr e))) = rw e

-- every month that the code does not name, one month after the other
module _ (y : ℕ) where
  abbrev Other : ℕ → Type 0
  Other m = 1 ≤ m → (m ≡ 2 → ⊥) → ((m ≡ 4) ⊎ ((m ≡ 6) ⊎ ((m ≡ 9) ⊎ (m ≡ 11))) → ⊥) → 31 ≡ days_of_month y m

  pub thirty-one : (m : ℕ) → m < 13 → Other m
  unfolding days_of_month
  thirty-one =
      let none = below_more Other 0 (below_none Other) (λ l f t. absurd (omega arith)) in
      let january = below_more Other 1 none (λ l f t. refl) in
      let two = below_more Other 2 january (λ l f t. absurd (f refl)) in
      let march = below_more Other 3 two (λ l f t. refl) in
      let april = below_more Other 4 march (λ l f t. absurd (t (inl refl))) in
      let may = below_more Other 5 april (λ l f t. refl) in
      let june = below_more Other 6 may (λ l f t. absurd (t (inr (inl refl)))) in
      let july = below_more Other 7 june (λ l f t. refl) in
      let august = below_more Other 8 july (λ l f t. refl) in
      let september = below_more Other 9 august (λ l f t. absurd (t (inr (inr (inl refl))))) in
      let october = below_more Other 10 september (λ l f t. refl) in
      let november = below_more Other 11 october (λ l f t. absurd (t (inr (inr (inr refl))))) in
      below_more Other 12 november (λ l f t. refl)

pub year-months : (y : ℕ) → days_before_month y 13 ≡ days_of_year y
unfolding days_before_month days_of_month days_of_year
year-months y = go (leap_year y) refl
  where
    go : (b : Bool) → leap_year y ≡ b → days_before_month y 13 ≡ days_of_year y
    go true e = rw e
    go false e = rw e

pub first-month : (y : ℕ) → days_before_month y 1 ≡ 0
unfolding days_before_month days_of_month
first-month y = refl

pub month-step : (y m : ℕ) → days_before_month y (suc m) ≡ days_before_month y m + days_of_month y m
unfolding days_before_month
month-step y m = refl

pub next-month : (y m : ℕ) → days_before_month y (m + 1) ≡ days_before_month y m + days_of_month y m
next-month y m =
    let one : m + 1 ≡ suc m = omega arith in
    ap (days_before_month y) one ∙ month-step y m
