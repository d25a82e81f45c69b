-- Two senders' lists of frames, and the theorem of the two senders, about any two lists and any cut: document 01, "frame.rs: frames and the walk".
use Rattle.std.specs.Prelude.{◌≡◌, cond, ◌↔◌, ℕ, ◌+◌, ◌^◌, ◌≤◌, ◌<◌, length, take, leb, ltb}
use Rattle.std.specs.Prelude.{None, Some}
use mathlib.Core.List.{List, [], ◌∷◌, map, IsPrefix}
use Rattle.types.specs.Answer.{truncated}
use Rattle.types.specs.Records.{concat_map, record_count}
use Rattle.types.specs.declared.Span.{Span}
use Rattle.tables.specs.Letters.{Letters}
use Rattle.tables.specs.Tape.{tape_records}
use Rattle.method.specs.Fields.{Meaning, Pooled}
use Rattle.method.specs.Writing.{command_values, header_values, TypedCommand, TypedHeader, NoNulCommand}
use Rattle.frame.specs.Step.{Payload, command, header, body, heartbeat}
use Rattle.frame.specs.Writing.{SentFrame, FrameMeaning, sent_frame_meaning, octets_of_frame, frame_refusal}
use Rattle.frame.specs.Walk.{register_records, WalkOutcome, walk, returned}

-- a tape record for each value of a frame's tables
abbrev pub values_of : Payload Meaning (List ℕ) → ℕ
values_of (command x) = command_values x
values_of (header x) = header_values x
values_of (body xs) = 0
values_of heartbeat = 0

abbrev pub All : {F : Type 0} → (F → Type 0) → List F → Type 0
All P [] = Unit {0}
All P (f ∷ fs) = P f × All P fs

abbrev pub total : {F : Type 0} → (F → ℕ) → List F → ℕ
total c [] = 0
total c (f ∷ fs) = c f + total c fs

-- the frames of a list, the first of which begins at p, that end at n or earlier
unfoldable pub up_to : {F : Type 0} → (F → List ℕ) → ℕ → ℕ → List F → List F
up_to octets_of p n [] = []
up_to octets_of p n (f ∷ fs) = cond (leb (p + length (octets_of f)) n) (f ∷ up_to octets_of (p + length (octets_of f)) n fs) []

-- in the ranges of the writer's parameter types
abbrev pub Typed : Payload Pooled Span → Type 0
Typed (command x) = TypedCommand x
Typed (header x) = TypedHeader x
Typed (body v) = Unit {0}
Typed heartbeat = Unit {0}

-- no NUL octet in a login's user
abbrev pub NoNul : Payload Meaning (List ℕ) → Type 0
NoNul (command x) = NoNulCommand x
NoNul (header x) = Unit {0}
NoNul (body xs) = Unit {0}
NoNul heartbeat = Unit {0}

module _ (letters : Letters) where
  -- the writers accept a frame when, given space enough, none of them refuses it
  pub record Accepted (f : SentFrame) : Type 0 where
    pub channel : f.channel < 256 ^ 2
    pub typed : Typed f.payload
    pub passes : frame_refusal letters f ≡ None
    pub no_nul : NoNul (sent_frame_meaning letters f).payload

  -- a list's octets are those of its frames, joined in order
  abbrev pub octets : List SentFrame → List ℕ
  octets xs = concat_map (octets_of_frame letters) xs

  -- what a list means: in each frame in turn channel and payload, whatever its pool
  abbrev pub meanings : List SentFrame → List FrameMeaning
  meanings xs = map (sent_frame_meaning letters) xs

  -- the frames that end at the cut or earlier
  abbrev pub ending_by : ℕ → List SentFrame → List SentFrame
  ending_by n xs = up_to (octets_of_frame letters) 0 n xs

  -- the tape records that the walk needs for them
  abbrev pub values_in : List SentFrame → ℕ
  values_in xs = total (λ f. values_of (sent_frame_meaning letters f).payload) xs

  -- Of a cut at n with the frames gs that end there or earlier: the walk over the octets s before it
  pub record AtCut (n : ℕ) (gs : List SentFrame) (s : List ℕ) (w : WalkOutcome) : Type 0 where
    pub list : returned letters s w ≡ map Some (meanings gs)
    pub frames : w.frames ≡ length gs
    pub consumed : w.consumed ≡ length (octets gs)
    -- Truncated exactly when a part of a frame is left, and otherwise no refusal
    pub refusal : w.refusal ≡ cond (ltb (length (octets gs)) n) (Some truncated) None

  -- The theorem of the two senders
  pub record TwoSenders (xs ys : List SentFrame) : Type 0 where
    -- the octets are the same exactly when the lists mean the same
    pub same : (octets xs ≡ octets ys) ↔ (meanings xs ≡ meanings ys)
    -- one's octets begin the other's exactly when the one list begins the other
    pub begins : IsPrefix (octets xs) (octets ys) ↔ IsPrefix (meanings xs) (meanings ys)
    -- wherever the octets are cut, whatever register and tape held before, as long as they have the records
    pub cut : (n : ℕ) → n ≤ length (octets xs) → (tape register : List ℕ)
        → length (ending_by n xs) ≤ record_count register_records register → values_in (ending_by n xs) ≤ record_count tape_records tape
        → AtCut n (ending_by n xs) (take n (octets xs)) (walk letters (take n (octets xs)) tape register)
    -- so uncut octets give back the whole list
    pub uncut : ending_by (length (octets xs)) xs ≡ xs
