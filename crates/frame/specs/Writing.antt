-- The frame writer: document 01, "frame.rs: frames and the walk". What the reading step returns is what it takes.
use Rattle.std.specs.Prelude.{Option, None}
use Rattle.std.specs.Prelude.{List, [], ℕ, length}
use Rattle.types.specs.Answer.{Refusal, truncated}
use Rattle.types.specs.Strings.{octets_of, judge_length}
use Rattle.types.specs.Judgement.{test, or_else}
use Rattle.types.specs.Memory.{Outcome}
use Rattle.types.specs.declared.Span.{Span}
use Rattle.writers.specs.Writers.{write_at}
use Rattle.tables.specs.Letters.{Letters}
use Rattle.tables.specs.Writing.{in_pool}
use Rattle.method.specs.Fields.{Kind, Meaning, Pooled}
use Rattle.method.specs.Writing.{command_octets, header_octets}
use Rattle.method.specs.Pooled.{command_refusal, header_refusal, pooled_command_meaning, pooled_header_meaning}
use Rattle.frame.specs.Frame.{frame_octets}
use Rattle.frame.specs.Step.{Payload, command, header, body, heartbeat, FrameOf}

-- a frame as a sender hands it to the writer: its strings and its body are spans of the pool, its table is the tape
pub record SentFrame : Type 0 where
  pub channel : ℕ
  pub payload : Payload Pooled Span
  pub pool : List ℕ
  pub tape : List ℕ

abbrev pub FrameMeaning : Type 0
FrameMeaning = FrameOf Meaning (List ℕ)

-- the frame type of a payload, in whatever form its arguments are
abbrev pub type_of : {X : Kind → Type 0} {B : Type 0} → Payload X B → ℕ
type_of (command x) = 1
type_of (header x) = 2
type_of (body b) = 3
type_of heartbeat = 8

module _ (letters : Letters) where
  abbrev pub sent_payload_meaning : List ℕ → List ℕ → Payload Pooled Span → Payload Meaning (List ℕ)
  sent_payload_meaning pool tape (command x) = command (pooled_command_meaning letters pool tape x)
  sent_payload_meaning pool tape (header x) = header (pooled_header_meaning letters pool tape x)
  sent_payload_meaning pool tape (body v) = body (octets_of pool v)
  sent_payload_meaning pool tape heartbeat = heartbeat

  abbrev pub sent_frame_meaning : SentFrame → FrameMeaning
  sent_frame_meaning f = record { channel = f.channel; payload = sent_payload_meaning f.pool f.tape f.payload }

  -- a frame's payload is what the command or header writer gives, a body, or for a heartbeat nothing
  unfoldable pub frame_payload_octets : Payload Meaning (List ℕ) → List ℕ
  frame_payload_octets (command x) = command_octets letters x
  frame_payload_octets (header x) = header_octets letters x
  frame_payload_octets (body xs) = xs
  frame_payload_octets heartbeat = []

  abbrev pub octets_of_meaning : FrameMeaning → List ℕ
  octets_of_meaning f = frame_octets (type_of f.payload) f.channel (frame_payload_octets f.payload)

  abbrev pub octets_of_frame : SentFrame → List ℕ
  octets_of_frame f = octets_of_meaning (sent_frame_meaning f)

  abbrev pub payload_refusal : List ℕ → List ℕ → Payload Pooled Span → Option Refusal
  payload_refusal pool tape (command x) = command_refusal letters pool tape x
  payload_refusal pool tape (header x) = header_refusal letters pool tape x
  payload_refusal pool tape (body v) = test (in_pool pool v.start v.len) truncated None
  payload_refusal pool tape heartbeat = None

  -- what is refused of a frame, given space enough: its payload, then the payload's length
  unfoldable pub frame_refusal : SentFrame → Option Refusal
  frame_refusal f =
      or_else (payload_refusal f.pool f.tape f.payload) (judge_length (length (frame_payload_octets (sent_frame_meaning f).payload)))

  unfoldable pub write_frame : SentFrame → ℕ → List ℕ → Outcome Unit
  write_frame f at out = write_at (frame_refusal f) (octets_of_frame f) at out
