-- What the answers of the first pass say of a field.
use Rattle.std.specs.Prelude.{Option, None, Some, Result, Ok, Err, ℕ}
use Rattle.types.specs.AnswerOf.{refusal}
use Rattle.types.specs.declared.WireError.{WireError}
use Rattle.method_writer.specs.Sizes.{Size, octets, long, refused}

-- none: a length is too great
abbrev pub size_of : Option ℕ → Size
size_of (Some n) = octets n
size_of None = long

abbrev pub answer_of_size : Result (Option ℕ) WireError → Size
answer_of_size (Ok s) = size_of s
answer_of_size (Err e) = refused (refusal e)
