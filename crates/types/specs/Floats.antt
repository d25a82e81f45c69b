-- Floats by their bits (document 01, "types.rs: octets and strings"). A NaN is its bits: the language and the logic know one NaN.
use Rattle.std.specs.Prelude.{cond, ℕ, List, Float}
use Rattle.std.specs.Float.{Format}
use Rattle.std.specs.Float.Ieee.{of_bits, to_bits, nan_bits}
use Rattle.types.specs.Answer.{Answer, given, and_then}
use Rattle.types.specs.Octets.{uint_at}

pub data FloatValue : Type 0 where
  float : Float → FloatValue
  nan : ℕ → FloatValue

-- what some bits are in a format, and the bits again
abbrev pub float_of : Format → ℕ → FloatValue
float_of f n = cond (nan_bits f n) (nan n) (float (of_bits f n))

abbrev pub bits_of : Format → FloatValue → ℕ
bits_of f (float x) = to_bits f x
bits_of f (nan n) = n

-- a float of k octets
unfoldable pub float_at : Format → ℕ → List ℕ → ℕ → Answer FloatValue
float_at f k s at = and_then (uint_at k s at) (λ n next. given (float_of f n) next)
