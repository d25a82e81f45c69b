-- Fields of a fixed size are read up to the end of the octets, and so is a command that has them; a frame with one is a step of the walk.
use mathlib.Core.Path.{◌≡◌, refl, sym, ap, ◌∙◌}
use mathlib.Core.Bool.{Bool, true}
use Rattle.std.specs.Prelude.{Some}
use mathlib.Core.List.{List, [], ◌∷◌}
use Prim.Native.Nat.{ℕ, ◌+◌, ◌-◌, ◌*◌, ◌/◌, ◌%◌, ◌≤◌, ◌<◌}
use native.Mathlib.Nat.{sub-zero}
use native.Mathlib.Omega.{arith}
use borrow.Author.Tests.{eq-eqb}
use lib.Dec.{eqb}
use lib.ListN.{length, take, get_or}
use lib.Seq.{drop-cons, length-take-le, get_or-take}
use Rattle.types.specs.Answer.{given}
use Rattle.types.specs.Memory.{outcome}
use Rattle.types.specs.Octets.{number_at, uint_at}
use Rattle.types.proofs.NumberLaws.{Octets, uint_at-given}
use Rattle.types.proofs.RoundTrip.{span-here}
use Rattle.types.proofs.Splice.{splice-nil}
use Rattle.types.proofs.Tests.{leb_yes}
use Rattle.tables.specs.Letters.{errata}
use Rattle.tables.specs.Tape.{room_of, records_only}
use Rattle.method.specs.Fields.{Field, fixed, arg, bits, Located, Args}
use Rattle.method.specs.Commands.{known, fields_of}
use Rattle.method.specs.Reading.{same, arg_at, fixed_at, fields_at, tape_of, command_at, read_command}
use Rattle.method.specs.Kinds.Bits.{Flags, flags_in}
use Rattle.frame.specs.Frame.{Frame, decode_at, is_frame_type}
use Rattle.frame.proofs.FrameLaws.{decode-given}
use Rattle.frame_reader.specs.FixedSize.{FixedFields, none, zero, flag, flags, number, SizeOf, FixedFrame}
use Rattle.frame_reader.specs.declared.fixed_size.FixedSize.{FixedSize}
use Rattle.frame_reader.proofs.StepLaws.{framed, method-records}
use Rattle.frame_reader.proofs.WalkStepLaws.{payload-given}

-- fields that are read up to the end, and have no tape records
record ReadToEnd (fs : List Field) (s : List ℕ) (p room : ℕ) : Type 0 where
  args : Args Located fs
  read : fields_at errata fs s p room ≡ given args (length s)
  empty : tape_of fs args ≡ []

-- The last octet

one-flag : (n : ℕ) → n ≤ 1 → flags_in (true ∷ []) n ≡ Some (eqb (n % 2) 1, tt)
unfolding flags_in
one-flag n h = let z : n / 2 ≡ 0 = omega arith in rw z

two-flags : (n : ℕ) → n ≤ 3 → flags_in (true ∷ true ∷ []) n ≡ Some (eqb (n % 2) 1, (eqb (n / 2 % 2) 1, tt))
unfolding flags_in
two-flags n h = let z : n / 2 / 2 ≡ 0 = omega arith in rw z

module _ (s : List ℕ) (p room : ℕ) (end : p + 1 ≡ length s) where
  zero-read : get_or s p 0 ≡ 0 → ReadToEnd (fixed (0 ∷ []) ∷ []) s p room
  unfolding fields_at tape_of fixed_at same
  zero-read z = record { args = tt; read = rw (span-here 1 s p (omega arith), drop-cons s p 0 (omega arith), z) (ap (given tt) end); empty = refl }

  flags-read : (places : List Bool) (found : Flags places) → flags_in places (get_or s p 0) ≡ Some found → ReadToEnd (arg (bits places) ∷ []) s p room
  unfolding fields_at tape_of arg_at number_at
  flags-read places found f =
      let here : get_or s (p + 0) 0 ≡ get_or s p 0 = ap (λ (i : ℕ). get_or s i 0) (omega arith) in
      let n : 0 * 256 + get_or s (p + 0) 0 ≡ get_or s p 0 = omega arith in
      record { args = (found, tt); read = rw (uint_at-given 1 s p (omega arith), n, f) (ap (given (found, tt)) end); empty = refl }

  last-octet : (last : ℕ) → get_or s (length s - 1) 0 ≤ last → get_or s p 0 ≤ last
  last-octet last h = let q : length s - 1 ≡ p = omega arith in rw q at h

fixed-read : {fs : List Field} {octets last : ℕ} → FixedFields fs octets last → (s : List ℕ) (p room : ℕ) → p + octets ≡ length s
    → get_or s (length s - 1) 0 ≤ last → ReadToEnd fs s p room
unfolding fields_at tape_of arg_at
fixed-read none s p room e h = record { args = tt; read = ap (given tt) (omega arith); empty = refl }
fixed-read zero s p room e h = zero-read s p room e (omega (arith, last-octet s p room e 0 h))
fixed-read flag s p room e h = flags-read s p room e (true ∷ []) _ (one-flag _ (last-octet s p room e 1 h))
fixed-read flags s p room e h = flags-read s p room e (true ∷ true ∷ []) _ (two-flags _ (last-octet s p room e 3 h))
fixed-read (number k f) s p room e h =
    let r = fixed-read f s (p + k) room (omega arith) h in
    record { args = (number_at k s p, r.args); read = rw (uint_at-given k s p (omega arith), sub-zero room, r.read); empty = r.empty }

-- Behind class and method, which are one number of four octets

module _ (s : List ℕ) (at : ℕ) (third : get_or s (at + 2) 0 < 256) (fourth : get_or s (at + 3) 0 < 256) (within : at + 4 ≤ length s) where
  abbrev ids : ℕ
  ids = number_at 4 s at

  pair : (number_at 2 s at ≡ ids / 65536) × (number_at 2 s (at + 2) ≡ ids % 65536)
  unfolding number_at
  pair =
      let next-to : (i : ℕ) → get_or s (at + 2 + i) 0 ≡ get_or s (at + (2 + i)) 0 = λ i. ap (λ (j : ℕ). get_or s j 0) (omega arith) in
      (omega arith, omega (arith, next-to 0, next-to 1))

  class : uint_at 2 s at ≡ given (ids / 65536) (at + 2)
  class = rw (uint_at-given 2 s at (omega arith), pair.0)

  method : uint_at 2 s (at + 2) ≡ given (ids % 65536) (at + 4)
  method =
      let past : at + 2 + 2 ≡ at + 4 = omega arith in
      rw (uint_at-given 2 s (at + 2) (omega arith), pair.1, past)

  -- a command that is accepted ends with the octets and has no tape records
  no-records : (len last : ℕ) → at + len ≡ length s → get_or s (length s - 1) 0 ≤ last → known (ids / 65536) (ids % 65536) ≡ true
      → FixedFields (fields_of (ids / 65536) (ids % 65536)) (len - 4) last → (used : ℕ) (tape : List ℕ)
      → records_only (read_command errata s at used tape) ≡ outcome (given (record { value = tt; count = 0 }) (length s)) tape
  unfolding read_command command_at
  no-records len last e h k f used tape =
      let r = fixed-read f s (at + 4) (room_of used tape) (omega arith) h in
      rw (class, method, k, r.read, leb_yes (length s) (length s) (omega arith), r.empty, splice-nil)

-- The frame around it

module _
    (s : List ℕ)
    (at : ℕ)
    (octet : Octets s)
    (size : FixedSize)
    (type : get_or s at 0 ≡ 1)
    (len : number_at 4 s (at + 3) ≡ size.len)
    (there : at + size.len + 8 ≤ length s)
    (end : get_or s (at + 7 + size.len) 0 ≡ 206)
    (last : get_or s (at + 7 + size.len - 1) 0 ≤ size.last) where
  abbrev behind : ℕ
  behind = at + 7 + size.len

  abbrev here : List ℕ
  here = take behind s

  abbrev frame : Frame
  frame = record { type = get_or s at 0; channel = number_at 2 s (at + 1); payload = record { start = at + 7; len = size.len } }

  decoded : given frame (behind + 1) ≡ decode_at s at
  decoded =
      let past : behind + 1 ≡ at + size.len + 8 = omega arith in
      let known : is_frame_type (get_or s at 0) ≡ true = rw type refl in
      let ce : eqb (get_or s (at + 7 + number_at 4 s (at + 3)) 0) 206 ≡ true = rw len (eq-eqb (get_or s behind 0) 206 end) in
      sym (decode-given s at (omega arith) known (omega arith) ce ∙ rw (len, past))

  here-length : length here ≡ behind
  here-length = length-take-le behind s (omega arith)

  seen : (i : ℕ) → i < behind → get_or here i 0 ≡ get_or s i 0
  seen i h = get_or-take behind s i 0 h

  module _ (four : 4 ≤ size.len) where
    ids-here : number_at 4 here (at + 7) ≡ number_at 4 s (at + 7)
    unfolding number_at
    ids-here =
        rw (seen (at + 7 + 0) (omega arith), seen (at + 7 + 1) (omega arith), seen (at + 7 + 2) (omega arith), seen (at + 7 + 3) (omega arith))

    command-read : known (number_at 4 s (at + 7) / 65536) (number_at 4 s (at + 7) % 65536) ≡ true
        → FixedFields (fields_of (number_at 4 s (at + 7) / 65536) (number_at 4 s (at + 7) % 65536)) (size.len - 4) size.last → (used : ℕ) (tape : List ℕ)
        → records_only (read_command errata here (at + 7) used tape) ≡ outcome (given (record { value = tt; count = 0 }) (length here)) tape
    command-read =
        let third = seen (at + 7 + 2) (omega arith) in
        let fourth = seen (at + 7 + 3) (omega arith) in
        let z : get_or here (length here - 1) 0 ≤ size.last = rw (here-length, seen (behind - 1) (omega arith)) last in
        let read = no-records here (at + 7) (omega (arith, octet (at + 7 + 2), third)) (omega (arith, octet (at + 7 + 3), fourth)) (omega (arith, here-length)) size.len size.last (sym here-length) z in
        rw ids-here at read

  sized : known (number_at 4 s (at + 7) / 65536) (number_at 4 s (at + 7) % 65536) ≡ true → 4 ≤ size.len
      → FixedFields (fields_of (number_at 4 s (at + 7) / 65536) (number_at 4 s (at + 7) % 65536)) (size.len - 4) size.last → FixedFrame s at (behind + 1)
  sized k four f used n tape register free =
      payload-given errata s at used n tape register decoded free
      (sym (method-records errata s frame (behind + 1) used tape type ∙ ap (framed (λ u. u) (behind + 1)) (command-read four k f used tape))) refl

  pub fixed_frame : SizeOf (number_at 4 s (at + 7)) (Some size) → FixedFrame s at (behind + 1)
  fixed_frame z = sized z.0 z.1 z.2
