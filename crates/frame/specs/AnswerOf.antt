-- The document's frame type and payload for every case of the code's.
use Rattle.std.specs.Prelude.{ℕ, Option, None, Some}
use Rattle.types.specs.declared.Span.{Span}
use Rattle.method.specs.Fields.{Pooled}
use Rattle.method.specs.AnswerOf.{command_of, header_of}
use Rattle.frame.specs.Frame.{Frame}
use Rattle.frame.specs.Step.{Payload, command, header, body, heartbeat}
use Rattle.frame.specs.declared.FrameType.{FrameType}
use Rattle.frame.specs.declared.FrameType.TheVariants as type
use Rattle.frame.specs.declared.Frame.{Frame as CodeFrame}
use Rattle.frame.specs.declared.Payload.{Payload as CodePayload}
use Rattle.frame.specs.declared.Payload.TheVariants as payload

abbrev pub type_octet : FrameType → ℕ
type_octet type.Method = 1
type_octet type.Header = 2
type_octet type.Body = 3
type_octet type.Heartbeat = 8

abbrev pub type_of_known : Option FrameType → Option ℕ
type_of_known (Some t) = Some (type_octet t)
type_of_known None = None

abbrev pub frame_of : CodeFrame → Frame
frame_of f = record { type = type_octet f.frame_type; channel = f.channel; payload = f.payload }

abbrev pub payload_of : CodePayload → Payload Pooled Span
payload_of (payload.Command x) = command (command_of x)
payload_of (payload.Header x) = header (header_of x)
payload_of (payload.Body v) = body v
payload_of payload.Heartbeat = heartbeat
