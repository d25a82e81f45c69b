-- What is written of the words of a payload: its frame, or the refusal of words that stand for none.
use Rattle.std.specs.Prelude.{◌⊎◌, List, ℕ}
use Rattle.std.proofs.Common.{inl, inr}
use Rattle.types.specs.Answer.{Refusal, refused}
use Rattle.types.specs.Memory.{Outcome, outcome}
use Rattle.types.specs.declared.Span.{Span}
use Rattle.tables.specs.Letters.{Letters}
use Rattle.method.specs.Fields.{Pooled}
use Rattle.frame.specs.Step.{Payload}
use Rattle.frame.specs.Writing.{write_frame}

abbrev pub write_from : Letters → ℕ → List ℕ → List ℕ → Payload Pooled Span ⊎ Refusal → ℕ → List ℕ → Outcome Unit
write_from letters channel pool tape (inl x) at out = write_frame letters (record { channel = channel; payload = x; pool = pool; tape = tape }) at out
write_from letters channel pool tape (inr r) at out = outcome (refused r) out
