-- What a writer's answer says.
use Rattle.std.specs.Prelude.{ℕ, Result, Ok, Err}
use Rattle.types.specs.Answer.{Answer, given, refused}
use Rattle.types.specs.AnswerOf.{refusal}
use Rattle.types.specs.declared.WireError.{WireError}

abbrev pub answer_of_written : Result ℕ WireError → Answer Unit
answer_of_written (Ok next) = given tt next
answer_of_written (Err e) = refused (refusal e)
