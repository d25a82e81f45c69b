-- What an exported function leaves for its caller: the code it returns and the four words lent for its answer. Code 0 is a value,
-- any other the number of a refusal (document 01, "Results and refusals").
use Rattle.std.specs.Prelude.{ℕ, List, [], ◌∷◌, ◌++◌, take}
use Rattle.std.specs.Prelude.{Option, None, Some}
use Rattle.types.specs.Answer.{Refusal, Answer, given, refused}
use Rattle.types.specs.Memory.{Outcome, outcome}
use Rattle.types.specs.declared.Span.{Span}
use Rattle.tables.specs.Tape.{WithCount}
use Rattle.method.specs.Fields.{Pooled}
use Rattle.method.specs.Properties.{Header, class, body_size}
use Rattle.frame.specs.Frame.{Frame}
use Rattle.frame.specs.Step.{FrameOf}
use Rattle.frame.specs.Walk.{WalkOutcome}
use Rattle.frame.specs.Writing.{type_of}
use Rattle.payload_words.specs.Words.{payload_words}

pub record Reply : Type 0 where
  pub code : ℕ
  pub words : List ℕ

abbrev pub reply : ℕ → List ℕ → Reply
reply code words = record { code = code; words = words }

-- some words, and 0 after them: four in all
abbrev pub four : List ℕ → List ℕ
four ws = take 4 (ws ++ 0 ∷ 0 ∷ 0 ∷ 0 ∷ [])

-- a refusal: its number, and its values
abbrev pub refusal_reply : Refusal → Reply
refusal_reply r = reply r.number (four r.values)

-- a value: 0, and the next position with the words of the value
abbrev pub reply_of : {A : Type 0} → (A → List ℕ) → Answer A → Reply
reply_of f (given a next) = reply 0 (four (next ∷ f a))
reply_of f (refused r) = refusal_reply r

-- the words of a number, of a span, and of no value
abbrev pub number : ℕ → List ℕ
number n = n ∷ []

abbrev pub span : Span → List ℕ
span v = v.start ∷ v.len ∷ []

abbrev pub nothing : Unit {0} → List ℕ
nothing u = []

-- the words of some tape records: how many they are
abbrev pub records : WithCount Unit → List ℕ
records w = w.count ∷ []

-- those of a content header: class, body size, and how many records its headers have
abbrev pub header : WithCount (Header Pooled) → List ℕ
header w = class w.value ∷ body_size w.value ∷ w.count ∷ []

-- those of a frame that is decoded: type, channel, and the length of its payload, which begins behind the first seven octets
abbrev pub decoded : Frame → List ℕ
decoded f = f.type ∷ f.channel ∷ f.payload.len ∷ []

-- and of one that is read: type, channel, and how many tape records it has
abbrev pub frame : WithCount (FrameOf Pooled Span) → List ℕ
frame w = type_of w.value.payload ∷ w.value.channel ∷ w.count ∷ []

-- a writer leaves its output too, and a reader of tables its tape
pub record ReplyWith : Type 0 where
  pub answer : Reply
  pub memory : List ℕ

abbrev pub reply_with : ℕ → List ℕ → List ℕ → ReplyWith
reply_with code words memory = record { answer = reply code words; memory = memory }

abbrev pub reply_with_of : {A : Type 0} → (A → List ℕ) → Outcome A → ReplyWith
reply_with_of f (outcome a memory) = record { answer = reply_of f a; memory = memory }

-- the walk's: the number of the refusal that stopped it, or 0; octets consumed, frames read, and the refusal's values. It leaves the tape and
-- the register
pub record WalkReply : Type 0 where
  pub answer : Reply
  pub tape : List ℕ
  pub register : List ℕ

abbrev pub walk_reply : ℕ → List ℕ → List ℕ → List ℕ → WalkReply
walk_reply code words tape register = record { answer = reply code words; tape = tape; register = register }

abbrev pub stop_reply : ℕ → ℕ → Option Refusal → Reply
stop_reply consumed frames None = reply 0 (four (consumed ∷ frames ∷ []))
stop_reply consumed frames (Some r) = reply r.number (four (consumed ∷ frames ∷ r.values))

abbrev pub walk_reply_of : WalkOutcome → WalkReply
walk_reply_of w = record { answer = stop_reply w.consumed w.frames w.refusal; tape = w.tape; register = w.register }

-- the frame reader's: it leaves the tape and, if it has read a frame, the words of its payload
pub record FrameReply : Type 0 where
  pub answer : Reply
  pub tape : List ℕ
  pub payload : List ℕ

abbrev pub frame_reply : ℕ → List ℕ → List ℕ → List ℕ → FrameReply
frame_reply code words tape payload = record { answer = reply code words; tape = tape; payload = payload }

abbrev pub payload_after : Answer (WithCount (FrameOf Pooled Span)) → List ℕ → List ℕ
payload_after (given w next) before = payload_words w.value.payload
payload_after (refused r) before = before

abbrev pub frame_reply_of : Outcome (WithCount (FrameOf Pooled Span)) → List ℕ → FrameReply
frame_reply_of (outcome a tape) before = record { answer = reply_of frame a; tape = tape; payload = payload_after a before }
