-- What the answers of the readers say: document 01's number and values, frame, payload and walk for every case.
use Rattle.std.specs.Prelude.{List, ℕ, Option, None, Some, Result}
use Rattle.types.specs.Answer.{Refusal, Answer}
use Rattle.types.specs.AnswerOf.{refusal, answer_with}
use Rattle.types.specs.declared.Cursor.{Cursor}
use Rattle.types.specs.declared.WireError.{WireError}
use Rattle.types.specs.declared.Span.{Span}
use Rattle.tables.specs.Tape.{WithCount}
use Rattle.method.specs.Fields.{Pooled}
use Rattle.frame.specs.Step.{FrameOf}
use Rattle.frame.specs.Walk.{WalkOutcome}
use Rattle.frame.specs.AnswerOf.{payload_of}
use Rattle.frame_reader.specs.declared.ReadFrame.{ReadFrame}
use Rattle.frame_reader.specs.declared.ReadFrameWords.{ReadFrameWords}
use Rattle.frame_reader.specs.declared.Walked.{Walked}
use Rattle.frame_reader.specs.Words.{FrameWords}

abbrev pub answer_of_read_frame : Result (ReadFrame × Cursor) WireError → Answer (WithCount (FrameOf Pooled Span))
answer_of_read_frame = answer_with (λ f. record { value = record { channel = f.channel; payload = payload_of f.payload }; count = f.records })

-- in words: with the words that were lent, as they are at exit

abbrev pub answer_of_payload_words : Result (ℕ × Cursor) WireError → List ℕ → Answer (WithCount (List ℕ))
answer_of_payload_words r words = answer_with (λ n. record { value = words; count = n }) r

abbrev pub answer_of_frame_words : Result (ReadFrameWords × Cursor) WireError → List ℕ → Answer (WithCount FrameWords)
answer_of_frame_words r words = answer_with (λ f. record { value = record { channel = f.channel; payload = words }; count = f.records }) r

abbrev pub stop_refusal : Option WireError → Option Refusal
stop_refusal None = None
stop_refusal (Some e) = Some (refusal e)

-- the walk's answer, with the tape and the register at exit
abbrev pub walk_outcome_of : Walked → List ℕ → List ℕ → WalkOutcome
walk_outcome_of w tape register = record { frames = w.frames; consumed = w.consumed; refusal = stop_refusal w.refusal; tape = tape; register = register }
