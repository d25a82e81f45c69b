-- Values at some words: today's date, a number below zero, NaNs with their bits.
use Rattle.std.specs.Prelude.{◌≡◌, refl, negsuc}
use Rattle.std.specs.Prelude.{Some}
use Rattle.std.specs.Float.Ieee.{nan_bits}
use Rattle.values.specs.Values.{leaf, words_of, f32_value, f64_value, value_of}
use Rattle.values.specs.declared.FieldValue.TheVariants.{I16, Timestamp}

-- T, 2026-11-15 00:00:01 as POSIX seconds
timestamp : value_of (leaf 84 1794700801 0) ≡ Some (Timestamp 1794700801)
unfolding value_of
timestamp = refl

-- a tilt of -2: FF FE
below-zero : (words_of (I16 (negsuc 1)) ≡ leaf 115 0xFFFE 0) × (value_of (leaf 115 0xFFFE 0) ≡ Some (I16 (negsuc 1)))
unfolding value_of
below-zero = (refl, refl)

-- a quiet and a signalling NaN keep their bits
quiet : words_of (f32_value 0x7FC00001) ≡ leaf 102 0x7FC00001 0
unfolding nan_bits
quiet = refl

signalling : words_of (f64_value 0xFFF0000000000001) ≡ leaf 100 0xFFF0000000000001 0
unfolding nan_bits
signalling = refl
