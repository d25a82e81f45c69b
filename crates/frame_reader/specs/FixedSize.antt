-- Commands of a fixed size, which are accepted by their number of octets and the last octet alone, and what the walk makes of a frame that has one.
use Rattle.std.specs.Prelude.{◌≡◌, Option, None, Some, true, List, [], ◌∷◌, ℕ, ◌+◌, ◌-◌, ◌*◌, ◌/◌, ◌%◌, ◌≤◌, ◌<◌}
use Rattle.types.specs.Answer.{given}
use Rattle.types.specs.Memory.{splice}
use Rattle.types.specs.Records.{record_count}
use Rattle.tables.specs.Letters.{errata}
use Rattle.tables.specs.Tape.{room_of}
use Rattle.method.specs.Fields as field
use Rattle.method.specs.Fields.{Field, fixed, arg, bits}
use Rattle.method.specs.Commands.{known, fields_of}
use Rattle.frame.specs.Step.{walk_step_at}
use Rattle.frame.specs.Walk.{register_records}
use Rattle.frame_reader.specs.Walking.{step_outcome, slots_of, fill_both}
use Rattle.frame_reader.specs.declared.fixed_size.FixedSize.{FixedSize}

-- numbers, then at most one octet more: the number of octets, and the greatest last octet
pub data FixedFields : List Field → ℕ → ℕ → Type 0 where
  none : {last : ℕ} → FixedFields [] 0 last
  zero : FixedFields (fixed (0 ∷ []) ∷ []) 1 0
  flag : FixedFields (arg (bits (true ∷ [])) ∷ []) 1 1
  flags : FixedFields (arg (bits (true ∷ true ∷ [])) ∷ []) 1 3
  number : {fs : List Field} {octets last : ℕ} (k : ℕ) → FixedFields fs octets last → FixedFields (arg (field.number k) ∷ fs) (k + octets) last

-- the size of the command with class and method in one number of four octets, where it has one
abbrev pub SizeOf : ℕ → Option FixedSize → Type 0
SizeOf ids None = Unit
SizeOf ids (Some r) = (known (ids / 65536) (ids % 65536) ≡ true) × (4 ≤ r.len) × FixedFields (fields_of (ids / 65536) (ids % 65536)) (r.len - 4) r.last

-- a frame stands there that the walk reads, up to `next` and with no tape records, where its register has room
abbrev pub FixedFrame : List ℕ → ℕ → ℕ → Type 0
FixedFrame s at next =
    (used k : ℕ) (tape register : List ℕ) → k < record_count register_records register
    → step_outcome (given (record { value = tt; count = 0 }) next) tape (splice (k * 3) (at ∷ used ∷ 0 ∷ []) register)
    ≡ fill_both at used k tape register (walk_step_at errata s at (slots_of k register) (room_of used tape))
