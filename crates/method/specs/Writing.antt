-- What is written of fields (document 01, "method.rs").
use Rattle.std.specs.Prelude.{◌≡◌, true, List, [], ◌∷◌, ◌++◌, ℕ, ◌+◌, ◌*◌, ◌^◌, ◌<◌, length}
use Rattle.std.specs.Prelude.{Option, None}
use Rattle.types.specs.Answer.{Refusal}
use Rattle.types.specs.Octets.{octets}
use Rattle.types.specs.Judgement.{or_else}
use Rattle.tables.specs.Letters.{Letters}
use Rattle.method.specs.Fields.{Kind, kind, Field, fixed, arg, Meaning, Pooled, Args, fold_args, AllArgs}
use Rattle.method.specs.Commands.{known, fields_of, Command, call}
use Rattle.method.specs.Properties.{properties, select, flags_number, Header, header}

-- How many values, at any depth, are in its tables

abbrev pub values : (k : Kind) → Meaning k → ℕ
values k v = (kind k).values v

abbrev pub values_in : (fs : List Field) → Args Meaning fs → ℕ
values_in fs vs = fold_args ◌+◌ 0 values fs vs

abbrev pub command_values : Command Meaning → ℕ
command_values (call c m vs) = values_in (fields_of c m) vs

abbrev pub header_values : Header Meaning → ℕ
header_values (header c n present vs) = values_in (select present properties) vs

-- Its octets

abbrev pub arg_octets : Letters → (k : Kind) → Meaning k → List ℕ
arg_octets letters k v = (kind k).octets letters v

unfoldable pub field_octets : Letters → (fs : List Field) → Args Meaning fs → List ℕ
field_octets letters [] vs = []
field_octets letters (fixed xs ∷ fs) vs = xs ++ field_octets letters fs vs
field_octets letters (arg k ∷ fs) vs = arg_octets letters k vs.0 ++ field_octets letters fs vs.1

unfoldable pub command_octets : Letters → Command Meaning → List ℕ
command_octets letters (call c m vs) = octets 2 c ++ (octets 2 m ++ field_octets letters (fields_of c m) vs)

-- flags 15 to 3 by the properties present; weight and flags 2 to 0 are 0
unfoldable pub header_octets : Letters → Header Meaning → List ℕ
header_octets letters (header c n present vs) =
    octets 2 c ++ (octets 2 0 ++ (octets 8 n ++ (octets 2 (8 * flags_number present) ++ field_octets letters (select present properties) vs)))

-- What is refused of the length fields of four octets

abbrev pub judge_arg_length : Letters → (k : Kind) → Meaning k → Option Refusal
judge_arg_length letters k v = (kind k).judge_length letters v

unfoldable pub judge_lengths : Letters → (fs : List Field) → Args Meaning fs → Option Refusal
judge_lengths letters fs vs = fold_args or_else None (judge_arg_length letters) fs vs

-- The ranges that the writers' parameter types have

abbrev pub Typed : (k : Kind) → Pooled k → Type 0
Typed k v = (kind k).Typed v

abbrev pub TypedAll : (fs : List Field) → Args Pooled fs → Type 0
TypedAll fs vs = AllArgs Typed fs vs

unfoldable pub TypedCommand : Command Pooled → Type 0
TypedCommand (call c m vs) = (c < 256 ^ 2) × (m < 256 ^ 2) × (known c m ≡ true) × TypedAll (fields_of c m) vs

unfoldable pub TypedHeader : Header Pooled → Type 0
TypedHeader (header c n present vs) = (c < 256 ^ 2) × (n < 256 ^ 8) × (length present ≡ 13) × TypedAll (select present properties) vs

-- No NUL in a login's user

abbrev pub NoNulArg : (k : Kind) → Meaning k → Type 0
NoNulArg k v = (kind k).NoNul v

abbrev pub NoNulArgs : (fs : List Field) → Args Meaning fs → Type 0
NoNulArgs fs vs = AllArgs NoNulArg fs vs

unfoldable pub NoNulCommand : Command Meaning → Type 0
NoNulCommand (call c m vs) = NoNulArgs (fields_of c m) vs
