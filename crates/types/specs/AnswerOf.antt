-- The document's number and values for every case of every answer of the code.
use Rattle.std.specs.Prelude.{◌⊎◌, ℕ, length, get_or, Float, Option, None, Some, Result, Ok, Err}
use Rattle.std.proofs.Common.{inl, inr}
use Rattle.types.specs.Answer.{Refusal, Answer, given, refused, truncated, short_str_too_long, unsupported_field_type, not_utf8, bad_tape, unknown_method, not_written, too_deep, too_long, tape_full, no_space}
use Rattle.types.specs.Floats.{FloatValue, float, nan}
use Rattle.types.specs.declared.WireError.{WireError}
use Rattle.types.specs.declared.WireError.TheVariants.{Truncated, ShortStrTooLong, UnsupportedFieldType, NotUtf8, BadTape, UnknownMethod, NotWritten, TooDeep, TooLong, TapeFull, NoSpace}
use Rattle.types.specs.declared.Numbered.{Numbered}
use Rattle.types.specs.declared.Cursor.{Cursor}
use Rattle.types.specs.declared.FloatOrNan.{FloatOrNan}
use Rattle.types.specs.declared.FloatOrNan.TheVariants as code

abbrev pub refusal : WireError → Refusal
refusal Truncated = truncated
refusal ShortStrTooLong = short_str_too_long
refusal (UnsupportedFieldType octet) = unsupported_field_type octet
refusal NotUtf8 = not_utf8
refusal (BadTape place) = bad_tape place
refusal (UnknownMethod class method) = unknown_method class method
refusal (NotWritten place) = not_written place
refusal TooDeep = too_deep
refusal TooLong = too_long
refusal TapeFull = tape_full
refusal NoSpace = no_space

-- a refusal in four numbers: its own, how many values it has, and these
abbrev pub numbered : Refusal → Numbered
numbered r = record { number = r.number; count = length r.values; first = get_or r.values 0 0; second = get_or r.values 1 0 }

-- a reader's answer, and what its value means
abbrev pub answer_with : {A B : Type 0} → (A → B) → Result (A × Cursor) WireError → Answer B
answer_with f (Ok (v, next)) = given (f v) next.at
answer_with f (Err e) = refused (refusal e)

abbrev pub answer_of : {A : Type 0} → Result (A × Cursor) WireError → Answer A
answer_of = answer_with (λ v. v)

abbrev pub float_value : FloatOrNan Float ℕ → FloatValue
float_value (code.Float x) = float x
float_value (code.Nan n) = nan n

-- a result, and what its value means
abbrev pub or_refusal : {A B : Type 0} → (A → B) → Result A WireError → B ⊎ Refusal
or_refusal f (Ok a) = inl (f a)
or_refusal f (Err e) = inr (refusal e)

-- what was only judged
abbrev pub judgement : Result Unit WireError → Option Refusal
judgement (Ok tt) = None
judgement (Err e) = Some (refusal e)
