-- Leaf values and their words: the ways through `value_of`, and that value and words are inverse to each other.
use mathlib.Core.Path.{◌≡◌, refl, sym, ap, ◌∙◌, subst}
use mathlib.Core.Bool.{Bool, true, false, not, cond}
use Rattle.std.specs.Prelude.{Option, None, Some, Result, Ok, Err}
use Rattle.std.specs.Option.{MatchOption, IsSomeAnd}
use Rattle.std.specs.Result.{OkIff, result_ok}
use mathlib.Core.List.{List, [], ◌∷◌}
use Prim.Native.Nat.{ℕ, zero, suc, ◌<◌, ◌^◌}
use native.Mathlib.Omega.{arith}
use borrow.Author.Tests.{ltb-true, lt-ltb, eqb-true}
use lib.Dec.{T, ltb, eqb}
use lib.IntN.{ℤ}
use lib.Signed.{mag}
use lib.Ieee.{Format, Float, binary32, binary64, fits, is_nan, nan_bits, to_bits}
use lib.Ieee.Bits.{to_bits-lt}
use mir.Syntax.{Width, w8, w16, w32, w64, w128}
use mir.Val.{bits, hbits, of_z, to_z}
use mir.ValLaws.{to_z-of_z}
use Rattle.bits.specs.Signed.{twos, signed}
use Rattle.bits.specs.Flags.{bit}
use Rattle.types.specs.Floats.{FloatValue, float, nan, float_of, bits_of}
use Rattle.types.specs.Lookup.{Row, row, lookup}
use Rattle.values.specs.Values.{leaf, span, words_of, as_f32, as_f64, f32_value, f64_value, unused, within, decimal_of, FromWords, leaf_letters, value_of}
use Rattle.types.specs.declared.Span.{Span}
use Rattle.values.specs.declared.LeafWords.{LeafWords}
use Rattle.values.specs.declared.FieldValue.{FieldValue}
use Rattle.values.specs.declared.FieldValue.TheVariants as value
use Rattle.bits.proofs.SignedLaws.{twos-lt, signed-twos, twos-signed}
use Rattle.types.proofs.FloatLaws.{bits_back, float_back, nan-back}

-- what the row of a letter says
pub at-letter : (l : ℕ) (w : LeafWords) → w.letter ≡ l → lookup (λ a b. None) leaf_letters l w.first w.second ≡ value_of w
unfolding value_of
at-letter l w e = sym (ap (λ (c : ℕ). lookup (λ a b. None) leaf_letters c w.first w.second) e)

-- the library's conversion, of a number kept in an enum
to_z_is : (w : Width) (n : ℕ) → to_z w n ≡ signed (bits w) n
to_z_is w8 n = refl
to_z_is w16 n = refl
to_z_is w32 n = refl
to_z_is w64 n = refl
to_z_is w128 n = refl

pub cast-signed : (w : Width) (z : ℤ) (n : ℕ) → mag z < 2 ^ hbits w → z ≡ to_z w n → to_z w (of_z w z) ≡ signed (bits w) n
cast-signed w z n f e = to_z-of_z w z (record { sfits = f }) ∙ e ∙ to_z_is w n

positive : (b : ℕ) → eqb b 0 ≡ false → 0 < b
positive zero q = let z : ◌≡◌ {A = ℕ} 0 1 = cc in absurd (omega arith)
positive (suc b) q = omega arith

-- a number that a conversion gives below a limit, where the second word is unused, and what is made of it
abbrev Made : Option ℕ → Option FieldValue → (ℕ → FieldValue) → Type 0
Made o A make = MatchOption o (A ≡ None) (λ x. IsSomeAnd A (λ v. v ≡ make x))

module _ (limit a b : ℕ) (make : ℕ → FieldValue) (A : Option FieldValue) where
  some-made : (x : ℕ) (B : Option FieldValue) → IsSomeAnd B (λ v. v ≡ make x) → B ≡ Some (make x)
  some-made x None m = absurd m
  some-made x (Some v) m = ap Some m

  none-above : (a < limit → ⊥) → A ≡ None → A ≡ within limit a b (make a)
  none-above h e = go (ltb a limit) refl
    where
      go : (t : Bool) → ltb a limit ≡ t → A ≡ cond t (unused b (make a)) None
      go true q = absurd (h (ltb-true a limit q))
      go false q = e

  none-used : 0 < b → A ≡ None → A ≡ within limit a b (make a)
  none-used h e = go (ltb a limit) (eqb b 0) refl
    where
      go : (t u : Bool) → eqb b 0 ≡ u → A ≡ cond t (cond u (Some (make a)) None) None
      go true true q = let z : b ≡ 0 = eqb-true b 0 q in absurd (omega arith)
      go true false q = e
      go false u q = e

  by_result : {E : Type 0} (r : Result ℕ E) {o : Option ℕ} → b ≡ 0 → OkIff r (a < limit) a → o ≡ result_ok r → Made o A make → A ≡ within limit a b (make a)
  by_result (Ok x) {o} z k e m =
      rw (z, lt-ltb a limit k.0) (some-made x A (subst (λ (p : Option ℕ). Made p A make) e m) ∙ ap (λ (y : ℕ). Some (make y)) k.1)
  by_result (Err d) {o} z k e m = none-above k (subst (λ (p : Option ℕ). Made p A make) e m)

  by_second : {E : Type 0} {o : Option ℕ} → (0 < b → o ≡ None) → (b ≡ 0 → (r : Result ℕ E) × OkIff r (a < limit) a × (o ≡ result_ok r)) → Made o A make
      → A ≡ within limit a b (make a)
  by_second {E} {o} u n m = go (eqb b 0) refl
    where
      go : (t : Bool) → eqb b 0 ≡ t → A ≡ within limit a b (make a)
      go true q = let z : b ≡ 0 = eqb-true b 0 q in by_result (n z).0 z (n z).1 (n z).2 m
      go false q = let h = positive b q in none-used h (subst (λ (p : Option ℕ). Made p A make) (u h) m)

-- a signed number is made of one in two steps
cast-made : (w : Width) (make : ℤ → FieldValue) (o : Option ℕ) (S : Option ℤ) (A : Option FieldValue) → MatchOption o (S ≡ None) (λ x. IsSomeAnd S (λ z. z ≡ to_z w x))
    → MatchOption S (A ≡ None) (λ z. IsSomeAnd A (λ v. v ≡ make z)) → Made o A (λ n. make (signed (bits w) n))
cast-made w make None S A q r = subst (λ (s : Option ℤ). MatchOption s (A ≡ None) (λ z. IsSomeAnd A (λ v. v ≡ make z))) q r
cast-made w make (Some x) None A q r = absurd q
cast-made w make (Some x) (Some z) None q r = absurd r
cast-made w make (Some x) (Some z) (Some v) q r = r ∙ ap make (q ∙ to_z_is w x)

-- the rows of numbers of w bits, unsigned and signed
module _ (w : Width) (l : ℕ) (words : LeafWords) {E : Type 0} {o : Option ℕ} {A : Option FieldValue} (u : 0 < words.second → o ≡ None)
    (n : words.second ≡ 0 → (r : Result ℕ E) × OkIff r (words.first < 2 ^ bits w) words.first × (o ≡ result_ok r)) where
  pub unsigned-row : (make : ℕ → FieldValue) → Made o A make → words.letter ≡ l
      → lookup (λ a b. None) leaf_letters l words.first words.second ≡ within (2 ^ bits w) words.first words.second (make words.first) → A ≡ value_of words
  unsigned-row make m k r = by_second (2 ^ bits w) words.first words.second make A u n m ∙ sym r ∙ at-letter l words k

  pub signed-row : (make : ℤ → FieldValue) (S : Option ℤ) → MatchOption o (S ≡ None) (λ x. IsSomeAnd S (λ z. z ≡ to_z w x)) → MatchOption S (A ≡ None) (λ z. IsSomeAnd A (λ v. v ≡ make z))
      → words.letter ≡ l → lookup (λ a b. None) leaf_letters l words.first words.second ≡ within (2 ^ bits w) words.first words.second (make (signed (bits w) words.first))
      → A ≡ value_of words
  signed-row make S q m k r = unsigned-row (λ x. make (signed (bits w) x)) (cast-made w make o S A q m) k r

-- Value and words are inverse to each other. A value has the ranges of its types, and its float cases are apart: a float is no NaN,
-- and the bits of a NaN are a NaN's

abbrev pub Bits : Width → ℕ → Type 0
Bits w n = n < 2 ^ bits w

abbrev pub Signed : Width → ℤ → Type 0
Signed w z = mag z < 2 ^ hbits w

abbrev pub NoNan : Format → Float → Type 0
NoNan f x = T (fits f x) × T (not (is_nan x))

pub data Proper : FieldValue → Type 0 where
  bool : {b : Bool} → Proper (value.Bool b)
  i8 : {z : ℤ} → Signed w8 z → Proper (value.I8 z)
  u8 : {n : ℕ} → Bits w8 n → Proper (value.U8 n)
  i16 : {z : ℤ} → Signed w16 z → Proper (value.I16 z)
  u16 : {n : ℕ} → Bits w16 n → Proper (value.U16 n)
  i32 : {z : ℤ} → Signed w32 z → Proper (value.I32 z)
  u32 : {n : ℕ} → Bits w32 n → Proper (value.U32 n)
  i64 : {z : ℤ} → Signed w64 z → Proper (value.I64 z)
  f32 : {x : Float} → NoNan binary32 x → Proper (value.F32 x)
  f32_nan : {n : ℕ} → Bits w32 n → nan_bits binary32 n ≡ true → Proper (value.F32Nan n)
  f64 : {x : Float} → NoNan binary64 x → Proper (value.F64 x)
  f64_nan : {n : ℕ} → Bits w64 n → nan_bits binary64 n ≡ true → Proper (value.F64Nan n)
  decimal : {n : ℕ} {z : ℤ} → Bits w8 n → Signed w32 z → Proper (value.Decimal n z)
  long_str : {v : Span} → Proper (value.LongStr v)
  bytes : {v : Span} → Proper (value.Bytes v)
  timestamp : {n : ℕ} → Proper (value.Timestamp n)
  void : Proper value.Void

-- in range, and nothing else stands in the way
in-range : (limit a : ℕ) {v u : FieldValue} → a < limit → v ≡ u → within limit a 0 v ≡ Some u
in-range limit a h e = rw (lt-ltb a limit h) (ap Some e)

bool-again : (b : Bool) → within 2 (bit b) 0 (value.Bool (eqb (bit b) 1)) ≡ Some (value.Bool b)
bool-again true = refl
bool-again false = refl

-- the value of a value's words is the value
pub value-words : {v : FieldValue} → Proper v → value_of (words_of v) ≡ Some v
unfolding value_of
value-words (bool {b}) = bool-again b
value-words (i8 {z} h) = in-range (2 ^ 8) (twos 8 z) (twos-lt w8 z h) (ap value.I8 (signed-twos w8 z h))
value-words (u8 {n} h) = in-range (2 ^ 8) n h refl
value-words (i16 {z} h) = in-range (2 ^ 16) (twos 16 z) (twos-lt w16 z h) (ap value.I16 (signed-twos w16 z h))
value-words (u16 {n} h) = in-range (2 ^ 16) n h refl
value-words (i32 {z} h) = in-range (2 ^ 32) (twos 32 z) (twos-lt w32 z h) (ap value.I32 (signed-twos w32 z h))
value-words (u32 {n} h) = in-range (2 ^ 32) n h refl
value-words (i64 {z} h) = ap (λ (y : ℤ). Some (value.I64 y)) (signed-twos w64 z h)
value-words (f32 {x} h) = in-range (2 ^ 32) (to_bits binary32 x) (to_bits-lt binary32 x h.0) (ap as_f32 (float_back binary32 x h.0 h.1))
value-words (f32_nan {n} h e) = in-range (2 ^ 32) n h (ap as_f32 (nan-back binary32 n e))
value-words (f64 {x} h) = ap (λ (y : FloatValue). Some (as_f64 y)) (float_back binary64 x h.0 h.1)
value-words (f64_nan {n} h e) = ap (λ (y : FloatValue). Some (as_f64 y)) (nan-back binary64 n e)
value-words (decimal {n} {z} h k) =
    rw (lt-ltb n (2 ^ 8) h, lt-ltb (twos 32 z) (2 ^ 32) (twos-lt w32 z k)) (ap (λ (y : ℤ). Some (value.Decimal n y)) (signed-twos w32 z k))
value-words long_str = refl
value-words bytes = refl
value-words timestamp = refl
value-words void = refl

-- and the words of the value that some words stand for are those words: row by row, a and b being 64-bit words

abbrev Back : Row FromWords → Type 0
Back r = (a b : ℕ) (v : FieldValue) → Bits w64 a → Bits w64 b → r.value a b ≡ Some v → words_of v ≡ leaf r.octet a b

data AllBack : List (Row FromWords) → Type 0 where
  end : AllBack []
  also : {r : Row FromWords} {rs : List (Row FromWords)} → Back r → AllBack rs → AllBack (r ∷ rs)

no_value : {G : Type 0} {v : FieldValue} → None ≡ Some v → G
no_value e = let z : ◌≡◌ {A = ℕ} 0 1 = cc in absurd (omega arith)

unused-some : (b : ℕ) {v u : FieldValue} → unused b v ≡ Some u → (b ≡ 0) × (v ≡ u)
unused-some b {v} {u} e = go (eqb b 0) refl e
  where
    go : (t : Bool) → eqb b 0 ≡ t → cond t (Some v) None ≡ Some u → (b ≡ 0) × (v ≡ u)
    go true q h = (eqb-true b 0 q, cc)
    go false q h = no_value h

within-some : (limit a b : ℕ) {v u : FieldValue} → within limit a b v ≡ Some u → (a < limit) × (b ≡ 0) × (v ≡ u)
within-some limit a b {v} {u} e = go (ltb a limit) refl e
  where
    go : (t : Bool) → ltb a limit ≡ t → cond t (unused b v) None ≡ Some u → (a < limit) × (b ≡ 0) × (v ≡ u)
    go true q h = let s = unused-some b h in (ltb-true a limit q, s.0, s.1)
    go false q h = no_value h

-- a row whose first word is in range, and one whose first word is any
ranged : (l limit : ℕ) (make : ℕ → FieldValue) → ((a : ℕ) → a < limit → words_of (make a) ≡ leaf l a 0) → Back (row l (λ a b. within limit a b (make a)))
ranged l limit make h a b v fa fb e =
    let s = within-some limit a b e in
    sym (ap words_of s.2) ∙ h a s.0 ∙ ap (leaf l a) (sym s.1)

any : (l : ℕ) (make : ℕ → FieldValue) → ((a : ℕ) → Bits w64 a → words_of (make a) ≡ leaf l a 0) → Back (row l (λ a b. unused b (make a)))
any l make h a b v fa fb e =
    let s = unused-some b e in
    sym (ap words_of s.1) ∙ h a fa ∙ ap (leaf l a) (sym s.0)

spanned : (l : ℕ) (make : Span → FieldValue) → ((v : Span) → words_of (make v) ≡ leaf l v.start v.len) → Back (row l (λ a b. Some (make (span a b))))
spanned l make h a b v fa fb e = let s : make (span a b) ≡ v = cc in sym (ap words_of s) ∙ h (span a b)

truth : (a : ℕ) → a < 2 → bit (eqb a 1) ≡ a
truth zero h = refl
truth (suc zero) h = refl
truth (suc (suc a)) h = absurd (omega arith)

decimal-back : Back (row 68 decimal_of)
decimal-back a b v fa fb e = go (ltb a (2 ^ 8)) (ltb b (2 ^ 32)) refl refl e
  where
    go : (t u : Bool) → ltb a (2 ^ 8) ≡ t → ltb b (2 ^ 32) ≡ u → cond t (cond u (Some (value.Decimal a (signed 32 b))) None) None ≡ Some v → words_of v ≡ leaf 68 a b
    go true true p q h = let s : value.Decimal a (signed 32 b) ≡ v = cc in sym (ap words_of s) ∙ ap (leaf 68 a) (twos-signed w32 b (ltb-true b (2 ^ 32) q))
    go true false p q h = no_value h
    go false u p q h = no_value h

f32-words : (x : FloatValue) → words_of (as_f32 x) ≡ leaf 102 (bits_of binary32 x) 0
f32-words (float x) = refl
f32-words (nan n) = refl

f64-words : (x : FloatValue) → words_of (as_f64 x) ≡ leaf 100 (bits_of binary64 x) 0
f64-words (float x) = refl
f64-words (nan n) = refl

all_back : AllBack leaf_letters
all_back =
    also (ranged 116 2 (λ a. value.Bool (eqb a 1)) (λ a h. ap (λ (m : ℕ). leaf 116 m 0) (truth a h)))
    (also (ranged 98 (2 ^ 8) (λ a. value.I8 (signed 8 a)) (λ a h. ap (λ (m : ℕ). leaf 98 m 0) (twos-signed w8 a h)))
    (also (ranged 66 (2 ^ 8) value.U8 (λ a h. refl))
    (also (ranged 115 (2 ^ 16) (λ a. value.I16 (signed 16 a)) (λ a h. ap (λ (m : ℕ). leaf 115 m 0) (twos-signed w16 a h)))
    (also (ranged 117 (2 ^ 16) value.U16 (λ a h. refl))
    (also (ranged 73 (2 ^ 32) (λ a. value.I32 (signed 32 a)) (λ a h. ap (λ (m : ℕ). leaf 73 m 0) (twos-signed w32 a h)))
    (also (ranged 105 (2 ^ 32) value.U32 (λ a h. refl))
    (also (any 108 (λ a. value.I64 (signed 64 a)) (λ a h. ap (λ (m : ℕ). leaf 108 m 0) (twos-signed w64 a h)))
    (also (ranged 102 (2 ^ 32) f32_value (λ a h. f32-words (float_of binary32 a) ∙ ap (λ (m : ℕ). leaf 102 m 0) (bits_back binary32 a h)))
    (also (any 100 f64_value (λ a h. f64-words (float_of binary64 a) ∙ ap (λ (m : ℕ). leaf 100 m 0) (bits_back binary64 a h)))
    (also decimal-back
    (also (spanned 83 value.LongStr (λ v. refl))
    (also (spanned 120 value.Bytes (λ v. refl))
    (also (any 84 value.Timestamp (λ a h. refl))
    (also (ranged 86 1 (λ a. value.Void) (λ a h. ap (λ (m : ℕ). leaf 86 m 0) (omega arith)))
    end))))))))))))))

by_rows : (rs : List (Row FromWords)) → AllBack rs → (c a b : ℕ) (v : FieldValue) → Bits w64 a → Bits w64 b → lookup (λ a b. None) rs c a b ≡ Some v → words_of v ≡ leaf c a b
by_rows [] h c a b v fa fb e = no_value e
by_rows (r ∷ rs) (also h hs) c a b v fa fb e = go (eqb c r.octet) refl e (λ later. by_rows rs hs c a b v fa fb later)
  where
    go : (t : Bool) → eqb c r.octet ≡ t → cond t r.value (lookup (λ a b. None) rs c) a b ≡ Some v → (lookup (λ a b. None) rs c a b ≡ Some v → words_of v ≡ leaf c a b)
        → words_of v ≡ leaf c a b
    go true q s later = h a b v fa fb s ∙ ap (λ (l : ℕ). leaf l a b) (sym (eqb-true c r.octet q))
    go false q s later = later s

pub words-value : (w : LeafWords) {v : FieldValue} → Bits w64 w.first → Bits w64 w.second → value_of w ≡ Some v → words_of v ≡ w
unfolding value_of
words-value w {v} fa fb e = by_rows leaf_letters all_back w.letter w.first w.second v fa fb e
