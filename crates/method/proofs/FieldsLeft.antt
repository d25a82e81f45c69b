-- The fields that are left in a loop over a layout. And bounds that hold of every field of the code's.
use mathlib.Core.Path.{◌≡◌, refl, sym, ap, ◌∙◌}
use mathlib.Core.Bool.{true}
use mathlib.Core.List.{List, [], ◌∷◌, map}
use Prim.Native.Nat.{ℕ, zero, suc, ◌+◌, ◌-◌, ◌^◌, ◌/◌, ◌%◌, ◌≤◌, ◌<◌}
use native.Mathlib.Omega.{arith}
use native.Mathlib.Nat.{mod-eq_of_lt, mod-eq-sub-mod, two-pow-succ}
use native.Mathlib.Numerals.{add-one}
use lib.ListN.{length, drop, get_or, drop_of_length-le}
use lib.Seq.{drop-cons}
use Rattle.tables.specs.Letters.{Letters}
use Rattle.types.proofs.Tests.{leb_yes, leb_no}
use Rattle.method.specs.Fields.{Field, fixed, arg}
use Rattle.method.specs.Properties.{select, flags_of}
use Rattle.method.specs.Layout.{field_of}
use Rattle.types.specs.declared.Number.TheVariants.{U8, U16, U32, U64}
use Rattle.method.specs.declared.layout.Bits.TheVariants.{Lowest, Second, Both}
use Rattle.method.specs.declared.fixed.Fixed.TheVariants.{Zero, TwoZeros, FourZeros, ClientProperties, Plain, EnUs}
use Rattle.method.specs.declared.layout.Field.{Field as CodeField}
use Rattle.method.specs.declared.layout.Field.TheVariants as code
use Rattle.method.proofs.KindLaws.{laws}

-- Fixed fields have few octets, and the kinds of the others are sound
abbrev pub Few : Letters → Field → Type 0
Few letters (fixed xs) = length xs ≤ 40
Few letters (arg k) = (laws letters k).sound ≡ true

pub few-octets : (letters : Letters) (f : CodeField) → Few letters (field_of f)
few-octets letters (code.Number U8) = refl
few-octets letters (code.Number U16) = refl
few-octets letters (code.Number U32) = refl
few-octets letters (code.Number U64) = refl
few-octets letters code.ShortStr = refl
few-octets letters (code.Bits Lowest) = refl
few-octets letters (code.Bits Second) = refl
few-octets letters (code.Bits Both) = refl
few-octets letters code.Login = refl
few-octets letters code.Table = refl
few-octets letters (code.Fixed Zero) = omega arith
few-octets letters (code.Fixed TwoZeros) = omega arith
few-octets letters (code.Fixed FourZeros) = omega arith
few-octets letters (code.Fixed ClientProperties) = omega arith
few-octets letters (code.Fixed Plain) = omega arith
few-octets letters (code.Fixed EnUs) = omega arith

-- The fields fs of a layout that are left from place i on: a bit of the flags for each place, the first one highest of w, with its weight
pub record Left (layout : List CodeField) (weight flags i : ℕ) (fs : List Field) : Type 0 where
  pub w : ℕ
  pub enough : length layout ≤ i + w
  pub highest : weight ≡ 2 ^ w / 2
  pub within : flags < 2 ^ w
  pub fields : fs ≡ select (flags_of w flags) (map field_of (drop i layout))

-- the field at place i is the first of them (there is one, whatever stands for none)
pub record Present (layout : List CodeField) (weight flags i : ℕ) (fs : List Field) (other : CodeField) : Type 0 where
  pub others : List Field
  pub first : fs ≡ field_of (get_or layout i other) ∷ others
  pub left : Left layout (weight / 2) (flags - weight) (i + 1) others

pub all_left : (layout : List CodeField) (flags : ℕ) → flags < 8192 → length layout ≤ 13 → Left layout 4096 flags 0 (select (flags_of 13 flags) (map field_of layout))
all_left layout flags h l = record { w = 13; enough = omega arith; highest = refl; within = h; fields = refl }

module _ (layout : List CodeField) (weight flags i : ℕ) (fs : List Field) where
  pub none_left : Left layout weight flags i fs → length layout ≤ i → fs ≡ []
  unfolding flags_of select
  none_left x h = x.fields ∙ (rw (drop_of_length-le layout {i = i} h) (no_fields x.w flags))
    where
      no_fields : (w n : ℕ) → select (flags_of w n) [] ≡ []
      no_fields zero n = refl
      no_fields (suc w) n = refl

  module _ (h : i < length layout) where
    next_field : (other : CodeField) → map field_of (drop i layout) ≡ field_of (get_or layout i other) ∷ map field_of (drop (i + 1) layout)
    next_field other = ap (map field_of) (drop-cons layout i other h) ∙ (rw (add-one i))

    half : (w : ℕ) → weight ≡ 2 ^ suc w / 2 → weight ≡ 2 ^ w
    half w e = omega (arith, two-pow-succ w)

    pub present-left : {other : CodeField} → Left layout weight flags i fs → weight ≤ flags → Present layout weight flags i fs other
    unfolding flags_of select
    present-left {other} x y = go x.w x.enough x.highest x.within x.fields
      where
        go : (w : ℕ) → length layout ≤ i + w → weight ≡ 2 ^ w / 2 → flags < 2 ^ w → fs ≡ select (flags_of w flags) (map field_of (drop i layout)) → Present layout weight flags i fs other
        go zero l p q e = absurd (omega arith)
        go (suc w) l p q e =
            let one : weight ≡ 2 ^ w = half w p in
            let low : flags - 2 ^ w < 2 ^ w = omega (arith, two-pow-succ w) in
            let m : flags % 2 ^ w ≡ flags - weight = mod-eq-sub-mod {n = flags} {m = 2 ^ w} (omega arith) ∙ mod-eq_of_lt low ∙ ap (λ (n : ℕ). flags - n) (sym one) in
            record {
              others = select (flags_of w (flags - weight)) (map field_of (drop (i + 1) layout));
              first = e ∙ (rw (next_field other, leb_yes (2 ^ w) flags (omega arith), m));
              left = record { w = w; enough = omega arith; highest = ap (λ (n : ℕ). n / 2) one; within = omega arith; fields = refl };
            }

    pub absent-left : Left layout weight flags i fs → flags < weight → Left layout (weight / 2) flags (i + 1) fs
    unfolding flags_of select
    absent-left x y = go x.w x.enough x.highest x.within x.fields
      where
        go : (w : ℕ) → length layout ≤ i + w → weight ≡ 2 ^ w / 2 → flags < 2 ^ w → fs ≡ select (flags_of w flags) (map field_of (drop i layout)) → Left layout (weight / 2) flags (i + 1) fs
        go zero l p q e = absurd (omega arith)
        go (suc w) l p q e =
            let one : weight ≡ 2 ^ w = half w p in
            let m : flags % 2 ^ w ≡ flags = mod-eq_of_lt {n = flags} {m = 2 ^ w} (omega arith) in
            record {
              w = w;
              enough = omega arith;
              highest = ap (λ (n : ℕ). n / 2) one;
              within = omega arith;
              fields = e ∙ (rw (next_field code.Table, leb_no (2 ^ w) flags (omega arith), m));
            }
