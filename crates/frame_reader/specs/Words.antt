-- A frame in words: its channel, and its payload as 26 words.
use Rattle.std.specs.Prelude.{List, ℕ}
use Rattle.types.specs.Answer.{Answer, given, refused}
use Rattle.types.specs.declared.Span.{Span}
use Rattle.tables.specs.Tape.{WithCount}
use Rattle.method.specs.Fields.{Pooled}
use Rattle.frame.specs.Step.{FrameOf}
use Rattle.payload_words.specs.Words.{payload_words}

pub record FrameWords : Type 0 where
  pub channel : ℕ
  pub payload : List ℕ

abbrev pub frame_words : FrameOf Pooled Span → FrameWords
frame_words x = record { channel = x.channel; payload = payload_words x.payload }

-- what was read of a payload, as the answer of a frame that ends at `next`
abbrev pub with_channel : ℕ → ℕ → Answer (WithCount (List ℕ)) → Answer (WithCount FrameWords)
with_channel channel next (given x n) = given (record { value = record { channel = channel; payload = x.value }; count = x.count }) next
with_channel channel next (refused r) = refused r
