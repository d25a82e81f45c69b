-- Bits and floats, over the format: the code's test is that of a NaN's pattern, and every pattern comes back.
use mathlib.Core.Path.{◌≡◌, refl, sym, ap, ◌∙◌, subst⁻¹}
use mathlib.Core.Bool.{Bool, true, false, not, cond}
use mathlib.Core.List.{List}
use Prim.Native.Nat.{ℕ, ◌*◌, ◌%◌, ◌≤◌, ◌<◌}
use borrow.Author.Tests.{lt-ltb, le-ltb}
use lib.Dec.{T}
use lib.Ieee.{Format, Float, hid, ones, top, fits, is_nan, nan_bits, of_bits, to_bits}
use lib.Ieee.Bits.{nan_bits_above, nan_bits_is, to_bits-of_bits, of_bits-to_bits, is_false}
use Rattle.types.specs.Answer.{Answer, given, and_then}
use Rattle.types.specs.Octets.{uint_at}
use Rattle.types.specs.Floats as value
use Rattle.types.specs.Floats.{FloatValue, float, float_of, bits_of, float_at}

module _ (f : Format) (n : ℕ) where
  nan_pattern : ones f * hid f < n % top f → nan_bits f n ≡ true
  nan_pattern h = nan_bits_above f n ∙ lt-ltb _ _ h

  no-nan-pattern : n % top f ≤ ones f * hid f → nan_bits f n ≡ false
  no-nan-pattern h = nan_bits_above f n ∙ le-ltb _ _ h

  -- the code's test tells the two cases apart
  pub above-is-nan : ones f * hid f < n % top f → float_of f n ≡ value.nan n
  above-is-nan h = rw (nan_pattern h)

  pub below-is-float : n % top f ≤ ones f * hid f → float_of f n ≡ float (of_bits f n)
  below-is-float h = rw (no-nan-pattern h)

  pub below-is-no-nan : n % top f ≤ ones f * hid f → T (not (nan_bits f n))
  below-is-no-nan h = subst⁻¹ (λ (b : Bool). T (not b)) (no-nan-pattern h) tt

-- read and written again: the bits, a NaN's too
by-pattern : (f : Format) (n : ℕ) (b : Bool) → n < 2 * top f → nan_bits f n ≡ b → bits_of f (cond b (value.nan n) (float (of_bits f n))) ≡ n
by-pattern f n true h e = refl
by-pattern f n false h e = to_bits-of_bits f n h (subst⁻¹ (λ (b : Bool). T (not b)) (sym (nan_bits_is f n) ∙ e) tt)

pub bits_back : (f : Format) (n : ℕ) → n < 2 * top f → bits_of f (float_of f n) ≡ n
bits_back f n h = by-pattern f n (nan_bits f n) h refl

-- written and read again: the float, where it is no NaN, and a NaN's bits
pub float_back : (f : Format) (x : Float) → T (fits f x) → T (not (is_nan x)) → float_of f (to_bits f x) ≡ float x
float_back f x h k =
    let e : nan_bits f (to_bits f x) ≡ false = nan_bits_is f (to_bits f x) ∙ ap is_nan (of_bits-to_bits f x h) ∙ is_false (is_nan x) k in
    rw e (ap float (of_bits-to_bits f x h))

pub nan-back : (f : Format) (n : ℕ) → nan_bits f n ≡ true → float_of f n ≡ value.nan n
nan-back f n e = rw e

-- a float of k octets
module _ (f : Format) (k : ℕ) (s : List ℕ) (at : ℕ) where
  pub float_at-given : {n next : ℕ} {v : FloatValue} → float_of f n ≡ v → given n next ≡ uint_at k s at → given v next ≡ float_at f k s at
  unfolding float_at
  float_at-given {n} {next} {v} q e = ap (λ (x : FloatValue). given x next) (sym q) ∙ ap (λ (a : Answer ℕ). and_then a (λ m p. given (float_of f m) p)) e
