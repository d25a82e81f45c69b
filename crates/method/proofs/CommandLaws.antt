-- The laws of commands and content headers, for any list of letters. What a writer accepts, with no NUL in a login's user, is read back with
-- the same meaning and to its last octet, and every strict prefix of it is Truncated. A changed fixed field, a set bit without an argument and
-- a spare octet are NotWritten at their places, wherever they stand in a command.
use mathlib.Core.Path.{◌≡◌}
use mathlib.Core.Bool.{Bool, true, false}
use Rattle.std.specs.Prelude.{None}
use mathlib.Core.List.{List, [], ◌∷◌, ◌++◌}
use Prim.Native.Nat.{ℕ, ◌+◌, ◌-◌, ◌*◌, ◌^◌, ◌≤◌, ◌<◌}
use native.Mathlib.Omega.{arith}
use native.Mathlib.Nat.{add-zero}
use lib.ListN.{length, length-append}
use Rattle.types.specs.Answer.{Refusal, given, refused, truncated, not_written}
use Rattle.types.specs.Octets.{octets}
use Rattle.types.proofs.Tests.{leb_no}
use Rattle.types.proofs.Standing.{Stands, Cut, stands-left, stands-right, cut-split}
use Rattle.types.proofs.RoundTrip.{number-here, number_past, span-here}
use Rattle.tables.specs.Letters.{Letters}
use Rattle.tables.proofs.JudgeLaws.{Octets}
use Rattle.method.specs.Fields.{Field, fixed, arg, bits, Meaning, Located, Pooled, Args}
use Rattle.method.specs.Commands.{known, fields_of, Command, call}
use Rattle.method.specs.Properties.{properties, select, flags_number, Header, header}
use Rattle.method.specs.Writing.{values, values_in, command_values, header_values, arg_octets, field_octets, command_octets, header_octets, TypedCommand, TypedHeader, NoNulCommand}
use Rattle.method.specs.Pooled.{command_refusal, header_refusal, pooled_command_meaning, pooled_header_meaning}
use Rattle.method.specs.Reading.{same, arg_at, arg_tape, fixed_at, fields_at, command_at, header_at, command_with_tape, header_with_tape, command_meaning, header_meaning}
use Rattle.method.specs.Kinds.Bits.{flags_in}
use Rattle.method.proofs.FieldLaws.{Fits, same_refl, fields-here, fields-cut, fields-differ, flags-spare}
use Rattle.method.proofs.MethodLaws.{FitCommand, FitHeader, place_command, place_header, command-here, header-here, command-meaning, header-meaning, command-fit, header-fit, flags-octets, flags-read}
use Rattle.method.proofs.KindLaws.{laws}

module _ (letters : Letters) where
  -- Fields that stand are passed over: what is refused behind them is refused of all
  pub fields-later : {s : List ℕ} {p : ℕ} (gs hs : List Field) (vs : Args Meaning gs) (room : ℕ) (r : Refusal) → Fits letters gs vs → values_in gs vs ≤ room
      → Stands s p (field_octets letters gs vs) → fields_at letters hs s (p + length (field_octets letters gs vs)) (room - values_in gs vs) ≡ refused r
      → fields_at letters (gs ++ hs) s p room ≡ refused r
  unfolding fields_at fixed_at arg_at field_octets
  fields-later {s} {p} [] hs vs room r f k h e = let z : room - 0 ≡ room = omega arith in rw (add-zero p, z) at e
  fields-later {s} {p} (fixed xs ∷ gs) hs vs room r f k h e =
      let a = stands-left xs (field_octets letters gs vs) h in
      let l : p + length xs + length (field_octets letters gs vs) ≡ p + length (xs ++ field_octets letters gs vs) = omega (arith, length-append xs (field_octets letters gs vs)) in
      rw (
        span-here (length xs) s p a.fits,
        a.same,
        same_refl xs,
      )
      (fields-later {p = p + length xs} gs hs vs room r f k (stands-right xs (field_octets letters gs vs) h) (rw l e))
  fields-later {s} {p} (arg k ∷ gs) hs vs room r f v h e =
      let c = arg_octets letters k vs.0 in
      let x = field_octets letters gs vs.1 in
      let l : p + length c + length x ≡ p + length (c ++ x) = omega (arith, length-append c x) in
      let n = (laws letters k).tape-size vs.0 p in
      let m : room - length (arg_tape k ((laws letters k).place p vs.0)) - values_in gs vs.1 ≡ room - (values k vs.0 + values_in gs vs.1) = omega (arith, n) in
      rw (
        (laws letters k).here vs.0 room f.0 (omega arith) (stands-left c x h),
        fields-later {p = p + length c} gs hs vs.1 (room - length (arg_tape k ((laws letters k).place p vs.0))) r f.1 (omega (arith, n)) (stands-right c x h) (rw (l, m) e),
      )

  -- Commands

  module _ (c m : ℕ) (small : (c < 256 ^ 2) × (m < 256 ^ 2)) (is_Known : known c m ≡ true) where
    -- what is refused of the arguments is refused of the command
    pub arguments-refused : {s : List ℕ} {p : ℕ} (room : ℕ) (r : Refusal) → Stands s p (octets 2 c ++ octets 2 m)
        → fields_at letters (fields_of c m) s (p + 4) room ≡ refused r → command_at letters s p room ≡ refused r
    unfolding command_at
    arguments-refused {s} {p} room r h e =
        let h1 = stands-left (octets 2 c) (octets 2 m) h in
        let h2 : Stands s (p + 2) (octets 2 m) = stands-right (octets 2 c) (octets 2 m) h in
        let l : p + 2 + 2 ≡ p + 4 = omega arith in
        rw (number-here 2 c small.0 h1, number-here 2 m small.1 h2, is_Known, l, e)

    module _ {s : List ℕ} {p : ℕ} (room : ℕ) (ids : Stands s p (octets 2 c ++ octets 2 m)) (gs hs : List Field) (vs : Args Meaning gs) (f : Fits letters gs vs) (k : values_in gs vs ≤ room)
        (before : Stands s (p + 4) (field_octets letters gs vs)) where
      -- the place behind the fields before
      abbrev pub here : ℕ
      here = p + 4 + length (field_octets letters gs vs)

      pub fixed-changed : (xs ys : List ℕ) → fields_of c m ≡ gs ++ (fixed xs ∷ hs) → Stands s here ys → length ys ≡ length xs → same ys xs ≡ false
          → command_at letters s p room ≡ refused (not_written here)
      fixed-changed xs ys e h l d =
          arguments-refused room (not_written here) ids
          (rw e (fields-later gs (fixed xs ∷ hs) vs room (not_written here) f k before (fields-differ letters xs ys hs (room - values_in gs vs) h l d)))

      pub bit-set : (places : List Bool) (n : ℕ) → fields_of c m ≡ gs ++ (arg (bits places) ∷ hs) → n < 256 → Stands s here (octets 1 n) → flags_in places n ≡ None
          → command_at letters s p room ≡ refused (not_written here)
      bit-set places n e b h d =
          arguments-refused room (not_written here) ids
          (rw e (fields-later gs (arg (bits places) ∷ hs) vs room (not_written here) f k before (flags-spare letters places n hs (room - values_in gs vs) b h d)))

  pub octet-spare : {s : List ℕ} {p : ℕ} (x : Command Meaning) (room : ℕ) → FitCommand letters x → command_values x ≤ room → Stands s p (command_octets letters x)
      → p + length (command_octets letters x) < length s → command_at letters s p room ≡ refused (not_written (p + length (command_octets letters x)))
  unfolding command_at command_octets
  octet-spare {s} {p} (call c m vs) room f k h l =
      let w = field_octets letters (fields_of c m) vs in
      let g1 : Stands s (p + 2) (octets 2 m ++ w) = stands-right (octets 2 c) (octets 2 m ++ w) h in
      let g2 : Stands s (p + 2 + 2) w = stands-right (octets 2 m) w g1 in
      let q : p + 2 + 2 + length w ≡ p + length (octets 2 c ++ (octets 2 m ++ w)) = omega arith in
      rw (
        number-here 2 c f.0 (stands-left (octets 2 c) (octets 2 m ++ w) h),
        number-here 2 m f.1 (stands-left (octets 2 m) w g1),
        f.2,
        fields-here letters (fields_of c m) vs room f.3 k g2,
        q,
        leb_no (length s) (p + length (octets 2 c ++ (octets 2 m ++ w))) l,
      )

  command-cut : {s : List ℕ} {p : ℕ} (x : Command Meaning) (room : ℕ) → FitCommand letters x → command_values x ≤ room → Cut s p (command_octets letters x)
      → command_at letters s p room ≡ refused truncated
  unfolding command_at command_octets
  command-cut {s} {p} (call c m vs) room f k cut =
      let w = field_octets letters (fields_of c m) vs in
      cut-split (octets 2 c) (octets 2 m ++ w) cut
      (λ a. rw (number_past 2 s p a.less))
      (λ h1 a.
      cut-split (octets 2 m) w a
      (λ b. rw (number-here 2 c f.0 h1, number_past 2 s (p + 2) b.less))
      (λ h2 b. rw (number-here 2 c f.0 h1, number-here 2 m f.1 h2, f.2, fields-cut letters (fields_of c m) vs room f.3 k b)))

  header-cut : {s : List ℕ} {p : ℕ} (x : Header Meaning) (room : ℕ) → FitHeader letters x → header_values x ≤ room → Cut s p (header_octets letters x)
      → header_at letters s p room ≡ refused truncated
  unfolding header_at header_octets
  header-cut {s} {p} (header c n ps vs) room f k cut =
      let w = field_octets letters (select ps properties) vs in
      let F = octets 2 (8 * flags_number ps) in
      cut-split (octets 2 c) (octets 2 0 ++ (octets 8 n ++ (F ++ w))) cut
      (λ a. rw (number_past 2 s p a.less))
      (λ h1 a1.
      cut-split (octets 2 0) (octets 8 n ++ (F ++ w)) a1
      (λ a. rw (number-here 2 c f.0 h1, number_past 2 s (p + 2) a.less))
      (λ h2 a2.
      cut-split (octets 8 n) (F ++ w) a2
      (λ a. rw (number-here 2 c f.0 h1, number-here 2 0 (omega arith) h2, number_past 8 s (p + 2 + 2) a.less))
      (λ h3 a3.
      cut-split F w a3
      (λ a. rw (number-here 2 c f.0 h1, number-here 2 0 (omega arith) h2, number-here 8 n f.1 h3, number_past 2 s (p + 2 + 2 + 8) a.less))
      (λ h4 a4.
      rw (
        number-here 2 c f.0 h1,
        number-here 2 0 (omega arith) h2,
        number-here 8 n f.1 h3,
        number-here 2 (8 * flags_number ps) (flags-octets ps f.2) h4,
        flags-read ps f.2,
        fields-cut letters (select ps properties) vs room f.3 k a4,
      )))))

-- What a writer accepts

module _ (letters : Letters) (octet : Octets letters) (pool tape : List ℕ) where
  module _ (x : Command Pooled) (typed : TypedCommand x) (accepted : command_refusal letters pool tape x ≡ None) (no_nul : NoNulCommand (pooled_command_meaning letters pool tape x)) where
    abbrev command_is : Command Meaning
    command_is = pooled_command_meaning letters pool tape x

    pub command-returned : (s : List ℕ) (p room : ℕ) → Stands s p (command_octets letters command_is) → length s ≡ p + length (command_octets letters command_is) → command_values command_is ≤ room
        → (y : Command Located) × (command_at letters s p room ≡ given y (p + length (command_octets letters command_is)))
        × (command_meaning letters s (command_with_tape y).value (command_with_tape y).tape ≡ command_is)
    command-returned s p room h l k =
        let f = command-fit letters octet pool tape x typed accepted no_nul in
        (place_command letters p command_is, command-here letters command_is room f k h l, command-meaning letters command_is f h)

    pub command-truncated : (s : List ℕ) (p room : ℕ) → Cut s p (command_octets letters command_is) → command_values command_is ≤ room → command_at letters s p room ≡ refused truncated
    command-truncated s p room c k = command-cut letters command_is room (command-fit letters octet pool tape x typed accepted no_nul) k c

  module _ (x : Header Pooled) (typed : TypedHeader x) (accepted : header_refusal letters pool tape x ≡ None) where
    abbrev header_is : Header Meaning
    header_is = pooled_header_meaning letters pool tape x

    pub header-returned : (s : List ℕ) (p room : ℕ) → Stands s p (header_octets letters header_is) → header_values header_is ≤ room
        → (y : Header Located) × (header_at letters s p room ≡ given y (p + length (header_octets letters header_is)))
        × (header_meaning letters s (header_with_tape y).value (header_with_tape y).tape ≡ header_is)
    header-returned s p room h k =
        let f = header-fit letters octet pool tape x typed accepted in
        (place_header letters p header_is, header-here letters header_is room f k h, header-meaning letters header_is f h)

    pub header-truncated : (s : List ℕ) (p room : ℕ) → Cut s p (header_octets letters header_is) → header_values header_is ≤ room → header_at letters s p room ≡ refused truncated
    header-truncated s p room c k = header-cut letters header_is room (header-fit letters octet pool tape x typed accepted) k c
