-- Payloads by kind: what the frame with one is, and the body that is a span of the pool.
use mathlib.Core.Path.{◌≡◌, refl, sym, ◌∙◌}
use mathlib.Core.Logic.{inl, inr}
use Rattle.std.specs.Prelude.{Option, None, Some}
use mathlib.Core.List.{List}
use Prim.Native.Nat.{ℕ}
use lib.ListN.{length}
use Rattle.types.specs.Answer.{Refusal, refused, truncated}
use Rattle.types.specs.Strings.{octets_of, octets_in}
use Rattle.types.specs.Judgement.{test}
use Rattle.types.specs.Memory.{Outcome, outcome}
use Rattle.types.specs.declared.Span.{Span}
use Rattle.writers.specs.Writers.{write_at, write_octets}
use Rattle.writers.proofs.WriterLaws.{write-refused}
use Rattle.tables.specs.Letters.{errata}
use Rattle.tables.specs.Writing.{in_pool}
use Rattle.table_writer.specs.Sizes.{sized}
use Rattle.method.specs.Fields.{Pooled}
use Rattle.frame.specs.Step.{Payload, command, header, body, heartbeat}
use Rattle.frame.specs.Writing.{type_of, sent_payload_meaning, payload_refusal, frame_refusal, write_frame}
use Rattle.table_writer.proofs.SizeLaws.{octets-there, octets-missing}
use Rattle.frame_writer.specs.Parts.{payload_octets}
use Rattle.frame_writer.proofs.PayloadLaws.{Judged, write_with}

module _ (pool tape : List ℕ) where
  abbrev pub payload_judged : Payload Pooled Span → Judged
  payload_judged x = record { refusal = payload_refusal errata pool tape x; octets = payload_octets pool tape x }

  type-sent : (x : Payload Pooled Span) → type_of (sent_payload_meaning errata pool tape x) ≡ type_of x
  type-sent (command x) = refl
  type-sent (header x) = refl
  type-sent (body v) = refl
  type-sent heartbeat = refl

  pub frame-with : (x : Payload Pooled Span) {t : ℕ} (ch at : ℕ) (out : List ℕ) → t ≡ type_of x
      → write_with t ch (payload_judged x) at out ≡ write_frame errata (record { channel = ch; payload = x; pool = pool; tape = tape }) at out
  unfolding write_with write_frame frame_refusal
  frame-with x ch at out e = rw (e ∙ sym (type-sent x))

-- A body

module _ (pool : List ℕ) (v : Span) where
  abbrev judged : Option Refusal
  judged = test (in_pool pool v.start v.len) truncated None

  module _ (e : None ≡ octets_in pool v) where
    refused_body : judged ≡ Some truncated
    refused_body = rw (octets-missing pool v e)

    pub body-outside : inr truncated ≡ sized judged (length (octets_of pool v))
    body-outside = rw refused_body

    pub body-not-written : (at : ℕ) (out : List ℕ) → outcome (refused truncated) out ≡ write_at judged (octets_of pool v) at out
    body-not-written at out = rw refused_body (sym (write-refused (octets_of pool v) at out truncated))

  module _ {xs : List ℕ} (e : Some xs ≡ octets_in pool v) where
    pub body-inside : inl (length xs) ≡ sized judged (length (octets_of pool v))
    body-inside = rw ((octets-there pool xs v e).0, ← (octets-there pool xs v e).1)

    pub body-written : (at : ℕ) (out : List ℕ) {o : Outcome Unit} → o ≡ write_octets xs at out → o ≡ write_at judged (octets_of pool v) at out
    unfolding write_octets
    body-written at out w = rw ((octets-there pool xs v e).0, ← (octets-there pool xs v e).1) w
