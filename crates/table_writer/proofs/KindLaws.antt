-- The judgement of a record's words.
use mathlib.Core.Path.{◌≡◌, refl, sym, ◌∙◌}
use mathlib.Core.Bool.{Bool, true, ◌&&◌}
use mathlib.Core.Logic.{inl}
use Rattle.std.specs.Prelude.{None}
use Prim.Native.Nat.{ℕ, suc}
use native.Mathlib.Omega.{arith}
use lib.Dec.{ltb, eqb}
use borrow.Author.Tests.{eq-eqb, ne_eqb}
use Rattle.types.specs.Answer.{Refusal}
use Rattle.types.specs.Judgement.{test}
use Rattle.types.proofs.Tests.{yes_leb, no_leb, decide}
use Rattle.types.specs.Octets.{number_width}
use Rattle.types.specs.declared.Number.{Number}
use Rattle.types.specs.declared.Number.TheVariants.{U8, U16, U32, U64}
use Rattle.table_writer.specs.Sizes.{capped, sized}

-- a word below one is zero
pub below_one : (n : ℕ) → ltb n 1 ≡ eqb n 0
below_one n = decide (ltb n 1) (λ y. y ∙ sym (eq-eqb n 0 (omega (arith, yes_leb (suc n) 1 y)))) (λ x. x ∙ sym (ne_eqb n 0 (λ e. omega (arith, no_leb (suc n) 1 x))))

-- no width is above the cap
pub width-capped : (w : Number) → number_width w ≡ capped (number_width w)
unfolding capped
width-capped U8 = refl
width-capped U16 = refl
width-capped U32 = refl
width-capped U64 = refl

-- Two tests of words

module _ (a b : Bool) (r : Refusal) (n : ℕ) where
  pub both-pass : a ≡ true → b ≡ true → inl n ≡ sized (test (a && b) r None) n
  both-pass e f = sym (rw (e, f))
