-- What the answers of the readers say.
use Rattle.std.specs.Prelude.{ℕ, Result}
use Rattle.types.specs.Answer.{Answer}
use Rattle.types.specs.AnswerOf.{answer_with}
use Rattle.types.specs.declared.Cursor.{Cursor}
use Rattle.types.specs.declared.WireError.{WireError}
use Rattle.tables.specs.Tape.{WithCount}

-- how many records were counted or filled, and no value beside
abbrev pub count_alone : ℕ → WithCount Unit
count_alone k = record { value = tt; count = k }

abbrev pub answer_of_records : Result (ℕ × Cursor) WireError → Answer (WithCount Unit)
answer_of_records = answer_with count_alone
