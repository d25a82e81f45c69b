-- Leaf values and their words on the tape: document 01, "types.rs: tables and the tape", letters by the RabbitMQ errata.
-- Signed numbers are two's complement at their own width, floats their bits, unused words 0.
use Rattle.std.specs.Prelude.{ℕ, ◌^◌, cond, List, [], ◌∷◌, ltb, eqb}
use Rattle.std.specs.Prelude.{Option, None, Some}
use Rattle.std.specs.Float.{binary32, binary64}
use Rattle.std.specs.Float.Ieee.{to_bits}
use Rattle.bits.specs.Signed.{twos, signed}
use Rattle.bits.specs.Flags.{bit}
use Rattle.types.specs.Floats.{FloatValue, float, nan, float_of}
use Rattle.types.specs.Lookup.{Row, row, lookup}
use Rattle.types.specs.declared.Span.{Span}
use Rattle.values.specs.declared.LeafWords.{LeafWords}
use Rattle.values.specs.declared.FieldValue.{FieldValue}
use Rattle.values.specs.declared.FieldValue.TheVariants as value

abbrev pub leaf : ℕ → ℕ → ℕ → LeafWords
leaf l a b = record { letter = l; first = a; second = b }

abbrev pub span : ℕ → ℕ → Span
span start len = record { start = start; len = len }

-- letter, first and second word of every case
abbrev pub words_of : FieldValue → LeafWords
words_of (value.Bool b) = leaf 116 (bit b) 0  -- t
words_of (value.I8 z) = leaf 98 (twos 8 z) 0  -- b
words_of (value.U8 n) = leaf 66 n 0  -- B
words_of (value.I16 z) = leaf 115 (twos 16 z) 0  -- s
words_of (value.U16 n) = leaf 117 n 0  -- u
words_of (value.I32 z) = leaf 73 (twos 32 z) 0  -- I
words_of (value.U32 n) = leaf 105 n 0  -- i
words_of (value.I64 z) = leaf 108 (twos 64 z) 0  -- l
words_of (value.F32 x) = leaf 102 (to_bits binary32 x) 0  -- f
words_of (value.F32Nan n) = leaf 102 n 0
words_of (value.F64 x) = leaf 100 (to_bits binary64 x) 0  -- d
words_of (value.F64Nan n) = leaf 100 n 0
words_of (value.Decimal scale z) = leaf 68 scale (twos 32 z)  -- D
words_of (value.LongStr v) = leaf 83 v.start v.len  -- S
words_of (value.Bytes v) = leaf 120 v.start v.len  -- x
words_of (value.Timestamp n) = leaf 84 n 0  -- T
words_of value.Void = leaf 86 0 0  -- V

-- And back

abbrev pub as_f32 : FloatValue → FieldValue
as_f32 (float x) = value.F32 x
as_f32 (nan n) = value.F32Nan n

abbrev pub as_f64 : FloatValue → FieldValue
as_f64 (float x) = value.F64 x
as_f64 (nan n) = value.F64Nan n

abbrev pub f32_value : ℕ → FieldValue
f32_value n = as_f32 (float_of binary32 n)

abbrev pub f64_value : ℕ → FieldValue
f64_value n = as_f64 (float_of binary64 n)

-- a value whose second word is unused, and one whose first word is also below a limit
abbrev pub unused : ℕ → FieldValue → Option FieldValue
unused b v = cond (eqb b 0) (Some v) None

abbrev pub within : ℕ → ℕ → ℕ → FieldValue → Option FieldValue
within limit a b v = cond (ltb a limit) (unused b v) None

abbrev pub decimal_of : ℕ → ℕ → Option FieldValue
decimal_of a b = cond (ltb a (2 ^ 8)) (cond (ltb b (2 ^ 32)) (Some (value.Decimal a (signed 32 b))) None) None

-- from the two words to the value
abbrev pub FromWords : Type 0
FromWords = ℕ → ℕ → Option FieldValue

abbrev pub leaf_letters : List (Row FromWords)
leaf_letters =
    row 116 (λ a b. within 2 a b (value.Bool (eqb a 1)))  -- t
    ∷ row 98 (λ a b. within (2 ^ 8) a b (value.I8 (signed 8 a)))  -- b
    ∷ row 66 (λ a b. within (2 ^ 8) a b (value.U8 a))  -- B
    ∷ row 115 (λ a b. within (2 ^ 16) a b (value.I16 (signed 16 a)))  -- s
    ∷ row 117 (λ a b. within (2 ^ 16) a b (value.U16 a))  -- u
    ∷ row 73 (λ a b. within (2 ^ 32) a b (value.I32 (signed 32 a)))  -- I
    ∷ row 105 (λ a b. within (2 ^ 32) a b (value.U32 a))  -- i
    ∷ row 108 (λ a b. unused b (value.I64 (signed 64 a)))  -- l
    ∷ row 102 (λ a b. within (2 ^ 32) a b (f32_value a))  -- f
    ∷ row 100 (λ a b. unused b (f64_value a))  -- d
    ∷ row 68 decimal_of  -- D
    ∷ row 83 (λ a b. Some (value.LongStr (span a b)))  -- S
    ∷ row 120 (λ a b. Some (value.Bytes (span a b)))  -- x
    ∷ row 84 (λ a b. unused b (value.Timestamp a))  -- T
    ∷ row 86 (λ a b. within 1 a b value.Void)  -- V
    ∷ []

-- none where the letter has no leaf value, a number is outside its range or an unused word is not 0
unfoldable pub value_of : LeafWords → Option FieldValue
value_of w = lookup (λ a b. None) leaf_letters w.letter w.first w.second
