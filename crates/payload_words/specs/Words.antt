-- A frame's payload as 26 words, the frame type first, and the payload that words stand for.
use Rattle.std.specs.Prelude.{◌⊎◌, List, [], ◌∷◌, ◌++◌, ℕ, ◌%◌, take, drop, get_or}
use Rattle.std.proofs.Common.{inl, inr}
use Rattle.std.specs.Prelude.{Option, None, Some}
use Rattle.types.specs.Answer.{Refusal, unsupported_field_type, unknown_method}
use Rattle.types.specs.Lookup.{row, lookup}
use Rattle.types.specs.declared.Span.{Span}
use Rattle.method.specs.Fields.{Pooled}
use Rattle.method.specs.Commands.{Command}
use Rattle.method.specs.Properties.{Header}
use Rattle.method.specs.Layout.{zeros}
use Rattle.method_words.specs.Words.{call_of, header_words, command_with, header_with}
use Rattle.method_words.specs.declared.Call.{Call}
use Rattle.method_words.specs.declared.HeaderWords.{HeaderWords}
use Rattle.frame.specs.Step.{Payload, command, header, body, heartbeat}

abbrev pub call_words : Call → List ℕ
call_words x = 1 ∷ x.class ∷ x.method ∷ x.words ++ zeros 15

abbrev pub content_header_words : HeaderWords → List ℕ
content_header_words x = 2 ∷ x.class ∷ x.body_size ∷ x.present ∷ x.words

abbrev pub body_words : Span → List ℕ
body_words v = 3 ∷ v.start ∷ v.len ∷ zeros 23

abbrev pub heartbeat_words : List ℕ
heartbeat_words = 8 ∷ zeros 25

abbrev pub payload_words : Payload Pooled Span → List ℕ
payload_words (command x) = call_words (call_of x)
payload_words (header x) = content_header_words (header_words x)
payload_words (body v) = body_words v
payload_words heartbeat = heartbeat_words

-- Back: numbers are cut to their width, but for class and method of a command, which then are not known

abbrev pub command_or : ℕ → ℕ → Option (Command Pooled) → Payload Pooled Span ⊎ Refusal
command_or c m None = inr (unknown_method (c % 65536) (m % 65536))
command_or c m (Some x) = inl (command x)

abbrev pub command_from : List ℕ → Payload Pooled Span ⊎ Refusal
command_from ws = command_or (get_or ws 1 0) (get_or ws 2 0) (command_with (get_or ws 1 0) (get_or ws 2 0) (take 8 (drop 3 ws)))

abbrev pub header_from : List ℕ → Header Pooled
header_from ws = header_with (get_or ws 1 0 % 65536) (get_or ws 2 0) (get_or ws 3 0 % 8192) (drop 4 ws)

abbrev pub body_from : List ℕ → Span
body_from ws = record { start = get_or ws 1 0; len = get_or ws 2 0 }

-- by the frame type; any other is refused by its lowest octet
abbrev pub payload_of_type : List ℕ → ℕ → Payload Pooled Span ⊎ Refusal
payload_of_type ws t =
    lookup (inr (unsupported_field_type (t % 256)))
    (row 1 (command_from ws) ∷ row 2 (inl (header (header_from ws))) ∷ row 3 (inl (body (body_from ws))) ∷ row 8 (inl heartbeat) ∷ [])
    t

abbrev pub payload_from : List ℕ → Payload Pooled Span ⊎ Refusal
payload_from ws = payload_of_type ws (get_or ws 0 0)
