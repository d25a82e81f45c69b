-- A field list is read back as it was written, and cut short it is Truncated: once, over the list.
use mathlib.Core.Path.{◌≡◌, refl, ◌∙◌}
use mathlib.Core.Bool.{Bool, true, false}
use Rattle.std.specs.Prelude.{None}
use mathlib.Core.List.{List, [], ◌∷◌}
use Prim.Native.Nat.{ℕ, ◌+◌, ◌-◌, ◌≤◌, ◌<◌}
use native.Mathlib.Omega.{arith}
use native.Mathlib.Nat.{add_assoc, add-zero}
use lib.ListN.{length, length-append}
use lib.Seq.{drop-append_seam}
use Rattle.types.specs.Answer.{given, refused, truncated, not_written}
use Rattle.types.specs.Octets.{octets}
use Rattle.types.proofs.Tests.{eqb_yes}
use Rattle.types.proofs.Standing.{Stands, Cut, stands-left, stands-right, cut-split}
use Rattle.types.proofs.RoundTrip.{number-here, span-here, span-past}
use Rattle.tables.specs.Letters.{Letters}
use Rattle.method.specs.Fields.{bits, Field, fixed, arg, Meaning, Located, Args, AllArgs}
use Rattle.method.specs.Writing.{arg_octets, field_octets, values_in}
use Rattle.method.specs.Reading.{same, arg_at, arg_tape, tape_of, fixed_at, fields_at, pooled_args, args_meaning}
use Rattle.method.specs.Kinds.Bits.{flags_in}
use Rattle.method.proofs.KindLaws.{laws}

pub same_refl : (xs : List ℕ) → same xs xs ≡ true
unfolding same
same_refl [] = refl
same_refl (x ∷ xs) = rw (eqb_yes x) (same_refl xs)

module _ (letters : Letters) where
  -- what the argument's type and the writer's judgement promise, and that a user has no NUL
  abbrev pub Fits : (fs : List Field) → Args Meaning fs → Type 0
  Fits fs vs = AllArgs (λ k v. (laws letters k).Fit v) fs vs

  -- where the arguments stand
  unfoldable pub place_all : (fs : List Field) → ℕ → Args Meaning fs → Args Located fs
  place_all [] p vs = tt
  place_all (fixed xs ∷ fs) p vs = place_all fs (p + length xs) vs
  place_all (arg k ∷ fs) p vs = ((laws letters k).place p vs.0, place_all fs (p + length (arg_octets letters k vs.0)) vs.1)

  pub fields-here : {s : List ℕ} {p : ℕ} (fs : List Field) (vs : Args Meaning fs) (room : ℕ) → Fits fs vs → values_in fs vs ≤ room → Stands s p (field_octets letters fs vs)
      → fields_at letters fs s p room ≡ given (place_all fs p vs) (p + length (field_octets letters fs vs))
  unfolding fields_at fixed_at arg_at field_octets place_all
  fields-here {s} {p} [] vs room f r h = rw (add-zero p)
  fields-here {s} {p} (fixed xs ∷ fs) vs room f r h =
      let a = stands-left xs (field_octets letters fs vs) h in
      rw (
        span-here (length xs) s p a.fits,
        a.same,
        same_refl xs,
        fields-here {p = p + length xs} fs vs room f r (stands-right xs (field_octets letters fs vs) h),
        length-append xs (field_octets letters fs vs),
        ← (add_assoc p (length xs) (length (field_octets letters fs vs))),
      )
  fields-here {s} {p} (arg k ∷ fs) vs room f r h =
      let c = arg_octets letters k vs.0 in
      let x = field_octets letters fs vs.1 in
      rw (
        (laws letters k).here vs.0 room f.0 (omega arith) (stands-left c x h),
        fields-here {p = p + length c} fs vs.1 (room - length (arg_tape k ((laws letters k).place p vs.0))) f.1 (omega (arith, (laws letters k).tape-size vs.0 p)) (stands-right c x h),
        length-append c x,
        ← (add_assoc p (length c) (length x)),
      )

  pub fields-cut : {s : List ℕ} {p : ℕ} (fs : List Field) (vs : Args Meaning fs) (room : ℕ) → Fits fs vs → values_in fs vs ≤ room → Cut s p (field_octets letters fs vs)
      → fields_at letters fs s p room ≡ refused truncated
  unfolding fields_at fixed_at arg_at field_octets
  fields-cut {s} {p} [] vs room f r c = absurd (omega (arith, c.less, c.inside))
  fields-cut {s} {p} (fixed x ∷ fs) vs room f r c =
      cut-split x (field_octets letters fs vs) c
      (λ a. rw (span-past (length x) s p a.less))
      (λ a b. rw (span-here (length x) s p a.fits, a.same, same_refl x, fields-cut {p = p + length x} fs vs room f r b))
  fields-cut {s} {p} (arg k ∷ fs) vs room f r c =
      cut-split (arg_octets letters k vs.0) (field_octets letters fs vs.1) c
      (λ a. rw ((laws letters k).cut vs.0 room f.0 a))
      (λ a b.
      rw (
        (laws letters k).here vs.0 room f.0 (omega arith) a,
        fields-cut {p = p + length (arg_octets letters k vs.0)} fs vs.1 (room - length (arg_tape k ((laws letters k).place p vs.0))) f.1 (omega (arith, (laws letters k).tape-size vs.0 p)) b,
      ))

  pub tape-sizes : (fs : List Field) (vs : Args Meaning fs) (p : ℕ) → length (tape_of fs (place_all fs p vs)) ≡ values_in fs vs
  unfolding tape_of place_all
  tape-sizes [] vs p = refl
  tape-sizes (fixed xs ∷ fs) vs p = tape-sizes fs vs (p + length xs)
  tape-sizes (arg k ∷ fs) vs p =
      length-append (arg_tape k ((laws letters k).place p vs.0)) (tape_of fs (place_all fs (p + length (arg_octets letters k vs.0)) vs.1))
      ∙ (rw ((laws letters k).tape-size vs.0 p, tape-sizes fs vs.1 (p + length (arg_octets letters k vs.0))))

  pub args-meaning : {s : List ℕ} {p : ℕ} (fs : List Field) (vs : Args Meaning fs) → Fits fs vs → Stands s p (field_octets letters fs vs)
      → args_meaning letters fs s (pooled_args fs (place_all fs p vs)) (tape_of fs (place_all fs p vs)) ≡ vs
  unfolding args_meaning pooled_args tape_of field_octets place_all
  args-meaning [] vs f h = refl
  args-meaning {s} {p} (fixed xs ∷ fs) vs f h = args-meaning {p = p + length xs} fs vs f (stands-right xs (field_octets letters fs vs) h)
  args-meaning {s} {p} (arg k ∷ fs) vs f h =
      let c = arg_octets letters k vs.0 in
      let x = field_octets letters fs vs.1 in
      let ts = tape_of fs (place_all fs (p + length c) vs.1) in
      rw (
        (laws letters k).back vs.0 ts f.0 (stands-left c x h),
        (laws letters k).used-tape ((laws letters k).place p vs.0),
        drop-append_seam (arg_tape k ((laws letters k).place p vs.0)) ts,
        args-meaning fs vs.1 f.1 (stands-right c x h),
      )

  -- a fixed field that differs is NotWritten at its first octet, and a set bit without an argument at the bit octet
  pub fields-differ : {s : List ℕ} {p : ℕ} (c xs : List ℕ) (fs : List Field) (room : ℕ) → Stands s p xs → length xs ≡ length c → same xs c ≡ false
      → fields_at letters (fixed c ∷ fs) s p room ≡ refused (not_written p)
  unfolding fields_at fixed_at
  fields-differ {s} {p} c xs fs room h l d = rw (← l, span-here (length xs) s p h.fits, h.same, d)

  pub flags-spare : {s : List ℕ} {p : ℕ} (places : List Bool) (n : ℕ) (fs : List Field) (room : ℕ) → n < 256 → Stands s p (octets 1 n) → flags_in places n ≡ None
      → fields_at letters (arg (bits places) ∷ fs) s p room ≡ refused (not_written p)
  unfolding fields_at arg_at
  flags-spare {s} {p} places n fs room l h e = rw (number-here 1 n l h, e)
