-- No letter is past the octets.
use mathlib.Core.Path.{◌≡◌, refl, sym, ap}
use mathlib.Core.Bool.{Bool, true, false, ◌&&◌}
use mathlib.Core.List.{List, [], ◌∷◌}
use Prim.Native.Nat.{ℕ, suc, ◌<◌}
use native.Mathlib.Omega.{arith}
use lib.Dec.{ltb, eqb, eqb→eq}
use Rattle.types.specs.Lookup.{Row, lookup}
use Rattle.types.proofs.Tests.{true-T, yes_leb, decide}
use Rattle.types.proofs.Arms.{Rest, rest}
use Rattle.std.specs.Prelude.{None}
use Rattle.values.specs.Values.{FromWords, leaf, leaf_letters, value_of}
use Rattle.tables.specs.Letters.{unknown, errata, kind_of}
use Rattle.tables.proofs.JudgeLaws.{and-true}

no_eqb : (m n : ℕ) → (m ≡ n → ⊥) → eqb m n ≡ false
no_eqb m n h = decide (eqb m n) (λ y. absurd (h (eqb→eq m n (true-T y)))) (λ x. x)

abbrev octet_rows : {A : Type 0} → List (Row A) → Bool
octet_rows [] = true
octet_rows (r ∷ rs) = ltb r.octet 256 && octet_rows rs

pub lookup-past : {A : Type 0} (other : A) (rs : List (Row A)) (c : ℕ) → octet_rows rs ≡ true → 255 < c → lookup other rs c ≡ other
lookup-past other [] c t h = refl
lookup-past other (r ∷ rs) c t h =
    let both = and-true (ltb r.octet 256) (octet_rows rs) t in
    let small = yes_leb (suc r.octet) 256 both.0 in
    rw (no_eqb c r.octet (λ e. omega arith)) (lookup-past other rs c both.1 h)

-- an octet that no arm of kind_of names
pub no_letter : (c : ℕ) → Rest ((65 ∷ []) ∷ (70 ∷ []) ∷ (86 ∷ []) ∷ (83 ∷ 120 ∷ []) ∷ (68 ∷ []) ∷ (84 ∷ 100 ∷ 108 ∷ []) ∷ (73 ∷ 102 ∷ 105 ∷ []) ∷ (115 ∷ 117 ∷ []) ∷ (66 ∷ 98 ∷ []) ∷ (116 ∷ []) ∷ []) c → unknown ≡ kind_of errata c
unfolding kind_of
no_letter c r = sym (rest unknown ((65 ∷ []) ∷ (70 ∷ []) ∷ (86 ∷ []) ∷ (83 ∷ 120 ∷ []) ∷ (68 ∷ []) ∷ (84 ∷ 100 ∷ 108 ∷ []) ∷ (73 ∷ 102 ∷ 105 ∷ []) ∷ (115 ∷ 117 ∷ []) ∷ (66 ∷ 98 ∷ []) ∷ (116 ∷ []) ∷ []) c errata r tt)

-- a number that is no octet has no kind
pub no_octet : (c : ℕ) → (c < 256 → ⊥) → unknown ≡ kind_of errata c
unfolding kind_of
no_octet c h = sym (lookup-past unknown errata c refl (omega (arith, h)))

-- nor a value
pub no_value : (c a b : ℕ) → (c < 256 → ⊥) → None ≡ value_of (leaf c a b)
unfolding value_of
no_value c a b h = sym (ap (λ (f : FromWords). f a b) (lookup-past (λ a b. None) leaf_letters c refl (omega (arith, h))))
