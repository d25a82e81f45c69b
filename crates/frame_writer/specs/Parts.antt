-- The octets before a frame's payload, where in an output a payload may end, and why one that was not written there is refused.
use Rattle.std.specs.Prelude.{◌⊎◌, ◌&&◌, cond, List, ◌++◌, ℕ, ◌+◌, ◌≤◌, ◌<◌, length, leb, Option, None, Some}
use Rattle.std.proofs.Common.{inl, inr}
use Rattle.types.specs.Answer.{Refusal, too_long, no_space}
use Rattle.types.specs.Octets.{octets}
use Rattle.types.specs.Memory.{splice}
use Rattle.types.specs.declared.Span.{Span}
use Rattle.tables.specs.Letters.{errata}
use Rattle.method.specs.Fields.{Pooled}
use Rattle.frame.specs.Step.{Payload}
use Rattle.frame.specs.Writing.{sent_payload_meaning, frame_payload_octets}

-- type octet, channel and size
abbrev pub frame_head : ℕ → ℕ → ℕ → List ℕ
frame_head type channel size = octets 1 type ++ (octets 2 channel ++ octets 4 size)

-- a payload of n octets behind the first seven ends at `end` or before just where its length can be written and the frame has space
pub record PayloadPart (at : ℕ) (out : List ℕ) (end : ℕ) : Type 0 where
  pub begins : at + 7 ≤ end
  pub inside : end ≤ length out
  pub taken : (n : ℕ) → at + 7 + n ≤ end → (n ≤ 4294967295) × (at + n + 8 ≤ length out)
  pub fits : (n : ℕ) → n ≤ 4294967295 → at + n + 8 ≤ length out → at + 7 + n ≤ end

-- there is such an end, or no space for a frame at all
abbrev pub PayloadEnd : ℕ → List ℕ → Option ℕ → Type 0
PayloadEnd at out (Some end) = PayloadPart at out end
PayloadEnd at out None = length out < at + 8

-- a payload behind the first seven octets of its frame, where it has no refusal, the frame has space and its length can be written: the place
-- behind it, and the output
abbrev pub put_payload : Option Refusal → List ℕ → ℕ → List ℕ → Option ℕ × List ℕ
put_payload (Some r) xs at out = (None, out)
put_payload None xs at out = cond (leb (at + length xs + 8) (length out) && leb (length xs) 4294967295) (Some (at + 7 + length xs), splice (at + 7) xs out) (None, out)

-- its own refusal, then its length, then the space
abbrev pub why_not : ℕ ⊎ Refusal → Refusal
why_not (inl n) = cond (leb n 4294967295) no_space too_long
why_not (inr r) = r

-- the octets of a payload as they are sent
abbrev pub payload_octets : List ℕ → List ℕ → Payload Pooled Span → List ℕ
payload_octets pool tape x = frame_payload_octets errata (sent_payload_meaning errata pool tape x)
