-- The fields present, one behind another: the first flag is taken off, and the others move one place up.
use mathlib.Core.Path.{◌≡◌, refl, ap, ◌∙◌}
use mathlib.Core.Bool.{Bool, true, false, not}
use mathlib.Core.Logic.{◌⊎◌, inl, inr}
use mathlib.Core.List.{List, [], ◌∷◌, ◌++◌, map}
use Prim.Native.Nat.{ℕ, zero, suc, ◌-◌, ◌*◌, ◌^◌, ◌%◌, ◌≤◌, ◌<◌}
use native.Mathlib.Omega.{arith}
use native.Mathlib.Nat.{mod-eq_of_lt, mod-eq-sub-mod, two-pow-succ}
use lib.Dec.{leb}
use lib.ListN.{length}
use Rattle.types.proofs.Standing.{length-zero}
use Rattle.types.proofs.Tests.{leb_yes, leb_no, yes_leb, no_leb, decide, true-T}
use Rattle.method.specs.Fields.{Field}
use Rattle.method.specs.Properties.{select, flags_of}
use Rattle.method.specs.Layout.{field_of}
use Rattle.method.proofs.LayoutLaws.{every}
use Rattle.method.specs.declared.layout.Field.{Field as CodeField}

doubled : (w m : ℕ) → m < 2 ^ w → flags_of (suc w) (m * 2) ≡ flags_of w m ++ false ∷ []
unfolding flags_of
doubled zero m h = let z : m ≡ 0 = omega arith in rw z refl
doubled (suc w) m h =
    let p = two-pow-succ w in
    decide (leb (2 ^ w) m)
    (λ y.
    let l = yes_leb (2 ^ w) m y in
    let a : m % 2 ^ w ≡ m - 2 ^ w = mod-eq-sub-mod {n = m} {m = 2 ^ w} l ∙ mod-eq_of_lt (omega (arith, p)) in
    let b : m * 2 % 2 ^ suc w ≡ (m - 2 ^ w) * 2 = mod-eq-sub-mod {n = m * 2} {m = 2 ^ suc w} (omega (arith, p)) ∙ mod-eq_of_lt (omega (arith, p)) ∙ (omega (arith, p)) in
    rw (leb_yes (2 ^ suc w) (m * 2) (omega (arith, p)), y, a, b) (ap (λ (l : List Bool). true ∷ l) (doubled w (m - 2 ^ w) (omega (arith, p)))))
    (λ n.
    let l = no_leb (2 ^ w) m n in
    let a : m % 2 ^ w ≡ m = mod-eq_of_lt l in
    let b : m * 2 % 2 ^ suc w ≡ m * 2 = mod-eq_of_lt (omega (arith, p)) in
    rw (leb_no (2 ^ suc w) (m * 2) (omega (arith, p)), n, a, b) (ap (λ (l : List Bool). false ∷ l) (doubled w m l)))

-- a last flag that is not set selects nothing
select-end : (ps : List Bool) (fs : List Field) → select (ps ++ false ∷ []) fs ≡ select ps fs
unfolding select
select-end [] [] = refl
select-end [] (f ∷ fs) = refl
select-end (p ∷ ps) [] = refl
select-end (true ∷ ps) (f ∷ fs) = ap (λ (l : List Field). f ∷ l) (select-end ps fs)
select-end (false ∷ ps) (f ∷ fs) = select-end ps fs

pub select-none : (ps : List Bool) (fs : List Field) → every not ps ≡ true → select ps fs ≡ []
unfolding select
select-none [] fs e = refl
select-none (p ∷ ps) [] e = refl
select-none (true ∷ ps) (f ∷ fs) e = absurd (true-T e)
select-none (false ∷ ps) (f ∷ fs) e = select-none ps fs e

module _ (n : ℕ) (layout others : List CodeField) (first : CodeField) (cut : layout ≡ first ∷ others) where
  others-left : select (flags_of 13 (n % 4096 * 2)) (map field_of others) ≡ select (flags_of 12 (n % 4096)) (map field_of others)
  others-left = ap (λ (ps : List Bool). select ps (map field_of others)) (doubled 12 (n % 4096) (omega arith)) ∙ select-end (flags_of 12 (n % 4096)) (map field_of others)

  pub first-present : 4096 ≤ n → select (flags_of 13 n) (map field_of layout) ≡ field_of first ∷ select (flags_of 13 (n % 4096 * 2)) (map field_of others)
  first-present h = rw (cut, others-left) (unfold flags_of select in (rw (leb_yes 4096 n h) refl))

  pub first-absent : n < 4096 → select (flags_of 13 n) (map field_of layout) ≡ select (flags_of 13 (n % 4096 * 2)) (map field_of others)
  first-absent h = rw (cut, others-left) (unfold flags_of select in (rw (leb_no 4096 n h) refl))

pub nothing-left : (n : ℕ) (layout : List CodeField) → (length layout ≡ 0) ⊎ (n ≡ 0) → select (flags_of 13 n) (map field_of layout) ≡ []
nothing-left n layout (inl h) = rw (length-zero layout h) (unfold flags_of select in refl)
nothing-left n layout (inr h) = rw h (select-none (flags_of 13 0) (map field_of layout) (unfold flags_of in refl))
