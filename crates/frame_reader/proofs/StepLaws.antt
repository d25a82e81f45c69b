-- From what the reader of a payload leaves to what the reading step leaves.
use mathlib.Core.Path.{◌≡◌, refl, ap, ◌∙◌}
use mathlib.Core.List.{List}
use Prim.Native.Nat.{ℕ, ◌+◌, ◌-◌, ◌*◌, ◌≤◌, ◌<◌}
use native.Mathlib.Omega.{arith}
use lib.ListN.{length, take}
use lib.Seq.{length-take-le}
use Rattle.types.specs.Answer.{Answer, given, refused, Refusal, not_written, and_then}
use Rattle.types.specs.Memory.{Outcome, outcome}
use Rattle.types.specs.declared.Span.{Span}
use Rattle.types.proofs.Splice.{splice-nil}
use Rattle.types.proofs.Tests.{leb_yes, leb_no}
use Rattle.tables.specs.Letters.{Letters}
use Rattle.tables.specs.Tape.{WithCount, room_of, fill_tape, records_only}
use Rattle.method.specs.Fields.{Located, Pooled}
use Rattle.method.specs.Commands.{Command}
use Rattle.method.specs.Properties.{Header}
use Rattle.method.specs.Reading.{command_at, header_at, command_with_tape, header_with_tape, read_command, read_header}
use Rattle.frame.specs.Frame.{Frame, decode_at}
use Rattle.frame.specs.Step.{command, header, body, heartbeat, FrameOf, payload_with_tape, payload_at, frame_with_payload_at, step_at, read_frame}

-- what was read of a payload, as the answer of its frame, which ends at `next`
abbrev pub framed : {A B : Type 0} → (A → B) → ℕ → Outcome (WithCount A) → Outcome (WithCount B)
framed f next (outcome (given x n) tape) = outcome (given (record { value = f x.value; count = x.count }) next) tape
framed f next (outcome (refused r) tape) = outcome (refused r) tape

-- how many records there are does not depend on the value
pub records-framed : {A B : Type 0} (f : A → B) (next : ℕ) (o : Outcome (WithCount A)) → records_only (framed f next o) ≡ framed (λ u. u) next (records_only o)
records-framed f next (outcome (given x n) tape) = refl
records-framed f next (outcome (refused r) tape) = refl

module _ (letters : Letters) (s : List ℕ) (frame : Frame) (next used : ℕ) (tape : List ℕ) where
  abbrev here : List ℕ
  here = take (frame.payload.start + frame.payload.len) s

  abbrev pub frame_read : Outcome (WithCount (FrameOf Pooled Span))
  frame_read = fill_tape used tape (frame_with_payload_at letters s frame next (room_of used tape))

  abbrev pub with_command : Command Pooled → FrameOf Pooled Span
  with_command x = record { channel = frame.channel; payload = command x }

  abbrev pub with_header : Header Pooled → FrameOf Pooled Span
  with_header x = record { channel = frame.channel; payload = header x }

  pub method-read : frame.type ≡ 1 → frame_read ≡ framed with_command next (read_command letters here frame.payload.start used tape)
  unfolding frame_with_payload_at payload_at read_command
  method-read t = rw t (go (command_at letters here frame.payload.start (room_of used tape)))
    where
      go : (a : Answer (Command Located)) → fill_tape used tape (and_then (and_then a (λ x q. given (command x) q)) (λ x q. given (payload_with_tape frame.channel x) next))
          ≡ framed with_command next (fill_tape used tape (and_then a (λ x q. given (command_with_tape x) q)))
      go (given x q) = refl
      go (refused r) = refl

  pub method-records : frame.type ≡ 1 → records_only frame_read ≡ framed (λ u. u) next (records_only (read_command letters here frame.payload.start used tape))
  method-records t = ap records_only (method-read t) ∙ records-framed with_command next (read_command letters here frame.payload.start used tape)

  pub header_read : frame.type ≡ 2 → frame_read ≡ framed with_header next (read_header letters here frame.payload.start used tape)
  unfolding frame_with_payload_at payload_at read_header
  header_read t = rw t (go (header_at letters here frame.payload.start (room_of used tape)))
    where
      go : (a : Answer (Header Located)) → fill_tape used tape (and_then (and_then a (λ x q. given (header x) q)) (λ x q. given (payload_with_tape frame.channel x) next))
          ≡ framed with_header next (fill_tape used tape (and_then a (λ x q. given (header_with_tape x) q)))
      go (given x q) = refl
      go (refused r) = refl

  module _ (fits : frame.payload.start + frame.payload.len ≤ length s) where
    here-length : length here ≡ frame.payload.start + frame.payload.len
    here-length = length-take-le (frame.payload.start + frame.payload.len) s fits

    pub body-read : frame.type ≡ 3
        → outcome (given (record { value = record { channel = frame.channel; payload = body frame.payload }; count = 0 }) next) tape ≡ frame_read
    unfolding frame_with_payload_at payload_at
    body-read t =
        let e : length here - frame.payload.start ≡ frame.payload.len = omega (arith, here-length) in
        rw (t, e, splice-nil (used * 6) tape)

    pub heartbeat-read : frame.type ≡ 8 → frame.payload.len ≡ 0
        → outcome (given (record { value = record { channel = frame.channel; payload = heartbeat }; count = 0 }) next) tape ≡ frame_read
    unfolding frame_with_payload_at payload_at
    heartbeat-read t z = rw (t, leb_yes (length here) frame.payload.start (omega (arith, here-length)), splice-nil (used * 6) tape)

    pub heartbeat-refused : frame.type ≡ 8 → 0 < frame.payload.len → outcome (refused (not_written frame.payload.start)) tape ≡ frame_read
    unfolding frame_with_payload_at payload_at
    heartbeat-refused t h = rw (t, leb_no (length here) frame.payload.start (omega (arith, here-length)))

-- Behind the decoder

module _ (letters : Letters) (s : List ℕ) (at used : ℕ) (tape : List ℕ) where
  pub step-refused : {r : Refusal} → refused r ≡ decode_at s at → outcome (refused r) tape ≡ read_frame letters s at used tape
  unfolding read_frame step_at
  step-refused e = rw (← e)

  pub step-decoded : {f : Frame} {next : ℕ} → given f next ≡ decode_at s at → frame_read letters s f next used tape ≡ read_frame letters s at used tape
  unfolding read_frame step_at
  step-decoded e = rw (← e)
