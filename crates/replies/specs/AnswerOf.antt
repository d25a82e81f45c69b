-- The document's number and values for every case of the answer that this crate adds to those of types.
use Rattle.std.specs.Prelude.{Result, Ok, Err}
use Rattle.types.specs.Answer.{Answer, given, refused}
use Rattle.types.specs.AnswerOf.{refusal}
use Rattle.types.specs.declared.Cursor.{Cursor}
use Rattle.types.specs.declared.WireError.{WireError}

-- a position past what was read, or a refusal
abbrev pub answer_past : Result Cursor WireError → Answer Unit
answer_past (Ok next) = given tt next.at
answer_past (Err e) = refused (refusal e)
