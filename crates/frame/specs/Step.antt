-- The reading step: a frame is decoded, then its payload is read as command, content header, body or heartbeat. Document 01, "frame.rs: frames
-- and the walk".
use Rattle.std.specs.Prelude.{cond, List, [], ℕ, ◌+◌, ◌-◌, length, take, leb, ltb, eqb}
use Rattle.types.specs.Answer.{Answer, given, not_written, tape_full, and_then, need}
use Rattle.types.specs.Memory.{Outcome}
use Rattle.types.specs.Strings.{octets_of}
use Rattle.types.specs.declared.Span.{Span}
use Rattle.tables.specs.Letters.{Letters}
use Rattle.tables.specs.Tape.{Record, WithTape, WithCount, room_of, fill_tape}
use Rattle.method.specs.Fields.{Kind, Meaning, Located, Pooled}
use Rattle.method.specs.Commands.{Command}
use Rattle.method.specs.Properties.{Header}
use Rattle.method.specs.Reading.{command_at, header_at, command_with_tape, header_with_tape, command_meaning, header_meaning}
use Rattle.frame.specs.Frame.{Frame, decode_at}

-- what a payload holds: X is the form of its arguments, B that of a body
pub data Payload (X : Kind → Type 0) (B : Type 0) : Type 0 where
  command : Command X → Payload X B
  header : Header X → Payload X B
  body : B → Payload X B
  heartbeat : Payload X B

pub record FrameOf (X : Kind → Type 0) (B : Type 0) : Type 0 where
  pub channel : ℕ
  pub payload : Payload X B

-- the frame returned, with its tape records

abbrev pub payload_with_tape : ℕ → Payload Located Span → WithTape (FrameOf Pooled Span)
payload_with_tape ch (command x) = record { value = record { channel = ch; payload = command (command_with_tape x).value }; tape = (command_with_tape x).tape }
payload_with_tape ch (header x) = record { value = record { channel = ch; payload = header (header_with_tape x).value }; tape = (header_with_tape x).tape }
payload_with_tape ch (body v) = record { value = record { channel = ch; payload = body v }; tape = [] }
payload_with_tape ch heartbeat = record { value = record { channel = ch; payload = heartbeat }; tape = [] }

module _ (letters : Letters) where
  -- a payload of type t, from p to the end of the octets
  unfoldable pub payload_at : ℕ → List ℕ → ℕ → ℕ → Answer (Payload Located Span)
  payload_at t s p room =
      cond (eqb t 1) (and_then (command_at letters s p room) (λ x q. given (command x) q))
      (cond (eqb t 2) (and_then (header_at letters s p room) (λ x q. given (header x) q))
      (cond (eqb t 3) (given (body (record { start = p; len = length s - p })) (length s))
      (need (leb (length s) p) (not_written p) (given heartbeat p))))

  -- the frame f with its payload read: the payload's readers are given the octets up to its end, so that places count from the first octet
  unfoldable pub frame_with_payload_at : List ℕ → Frame → ℕ → ℕ → Answer (WithTape (FrameOf Pooled Span))
  frame_with_payload_at s f next room =
      and_then (payload_at f.type (take (f.payload.start + f.payload.len) s) f.payload.start room) (λ x q. given (payload_with_tape f.channel x) next)

  unfoldable pub step_at : List ℕ → ℕ → ℕ → Answer (WithTape (FrameOf Pooled Span))
  step_at s p room = and_then (decode_at s p) (λ f next. frame_with_payload_at s f next room)

  -- the step onto the records behind the used ones, with all of the tape at exit
  unfoldable pub read_frame : List ℕ → ℕ → ℕ → List ℕ → Outcome (WithCount (FrameOf Pooled Span))
  read_frame s at used tape = fill_tape used tape (step_at s at (room_of used tape))

  -- the walk's step: its register is judged when the frame is decoded, before its payload
  unfoldable pub walk_step_at : List ℕ → ℕ → ℕ → ℕ → Answer (WithTape (FrameOf Pooled Span))
  walk_step_at s p slots room = and_then (decode_at s p) (λ f next. need (ltb 0 slots) tape_full (frame_with_payload_at s f next room))

  -- the meaning of what is returned, over the octets and its tape records

  abbrev pub frame_payload_meaning : List ℕ → Payload Pooled Span → List Record → Payload Meaning (List ℕ)
  frame_payload_meaning s (command x) rs = command (command_meaning letters s x rs)
  frame_payload_meaning s (header x) rs = header (header_meaning letters s x rs)
  frame_payload_meaning s (body v) rs = body (octets_of s v)
  frame_payload_meaning s heartbeat rs = heartbeat

  abbrev pub frame_meaning : List ℕ → FrameOf Pooled Span → List Record → FrameOf Meaning (List ℕ)
  frame_meaning s x rs = record { channel = x.channel; payload = frame_payload_meaning s x.payload rs }
