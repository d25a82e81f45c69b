-- Laws of the fixed fields: when octets are the same, and what is read of octets that must stand.
use mathlib.Core.Path.{◌≡◌, refl, sym, ap, ◌∙◌}
use mathlib.Core.Bool.{Bool, true, false, ◌&&◌, cond}
use mathlib.Core.List.{List, [], ◌∷◌}
use Prim.Native.Nat.{ℕ, ◌-◌}
use native.Mathlib.Omega.{arith}
use lib.Dec.{eqb}
use lib.ListN.{length, take, drop}
use lib.Pointwise.{pointwise}
use Rattle.types.specs.Answer.{Answer, given, not_written, and_then, need}
use Rattle.types.specs.Strings.{octets_of, span_at}
use Rattle.types.specs.declared.Span.{Span}
use Rattle.types.proofs.StringLaws.{span_at-read}
use Rattle.method.specs.Reading.{same, fixed_at}

-- the same octets, as slices compare
pub same_is : (a b : List ℕ) → pointwise eqb a b ≡ same a b
unfolding same
same_is [] [] = refl
same_is [] (y ∷ ys) = refl
same_is (x ∷ xs) [] = refl
same_is (x ∷ xs) (y ∷ ys) = go (eqb x y) (same_is xs ys)
  where
    go : (t : Bool) → pointwise eqb xs ys ≡ same xs ys → t && pointwise eqb xs ys ≡ cond t (same xs ys) false
    go true e = e
    go false e = refl

-- octets that must stand at a position
abbrev checked : List ℕ → List ℕ → ℕ → Span → ℕ → Answer Unit
checked xs s p v q = need (same (octets_of s v) xs) (not_written p) (given tt q)

module _ (xs s : List ℕ) (p : ℕ) where
  pub fixed-checked : (v : Span) (q : ℕ) (t : Bool) → given v q ≡ span_at (length xs) s p → t ≡ same (take (q - p) (drop p s)) xs → need t (not_written p) (given tt q) ≡ fixed_at xs s p
  unfolding fixed_at
  fixed-checked v q t e f =
      let r = span_at-read (length xs) s p e in
      let n : q - p ≡ v.len = omega (arith, r) in
      let o : take (q - p) (drop p s) ≡ octets_of s v = ap (λ (k : ℕ). take k (drop p s)) n ∙ ap (λ (k : ℕ). take v.len (drop k s)) (sym r.start) in
      ap (λ (u : Bool). need u (not_written p) (given tt q)) (f ∙ ap (λ (z : List ℕ). same z xs) o) ∙ ap (λ (x : Answer Span). and_then x (checked xs s p)) e
