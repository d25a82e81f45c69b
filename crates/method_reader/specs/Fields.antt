-- What the loop over fields gives: the words of the arguments, and where the table stands whose records are to be filled.
use Rattle.std.specs.Prelude.{◌≡◌, Bool, cond, List, [], ◌∷◌, ℕ, eqb}
use Rattle.std.specs.Prelude.{Option, None, Some, Result, Ok, Err}
use Rattle.types.specs.Answer.{Answer, given, refused, and_then}
use Rattle.types.specs.AnswerOf.{answer_of}
use Rattle.types.specs.declared.Cursor.{Cursor}
use Rattle.types.specs.declared.WireError.{WireError}
use Rattle.types.specs.Memory.{splice, Outcome, outcome}
use Rattle.tables.specs.Letters.{Letters}
use Rattle.tables.specs.Tape.{WithCount, room_of, fill_tape, read_table}
use Rattle.method.specs.Fields.{Kind, kind, Field, fixed, arg, Located, Pooled, Args}
use Rattle.method.specs.Kinds.Bits.{Flags, packed}
use Rattle.method.specs.Commands.{Command}
use Rattle.method.specs.Properties.{Header}
use Rattle.method.specs.Reading.{arg_at, fixed_at, fields_at, arguments_at, properties_at, sized_at, pooled_arg, pooled_args, used, command_with_tape, header_with_tape}
use Rattle.method.specs.Words.{arg_words, args_words}
use Rattle.method_reader.specs.declared.fields.TablePlace.{TablePlace}

-- flags as a number
abbrev pub flags_packed : (places : List Bool) → Option (Flags places) → Option ℕ
flags_packed places None = None
flags_packed places (Some flags) = Some (packed places flags)

-- A field: its words, and how many tape records it has

pub record FieldRead : Type 0 where
  pub words : List ℕ
  pub records : ℕ

unfoldable pub field_at : Letters → Field → List ℕ → ℕ → ℕ → Answer FieldRead
field_at letters (fixed xs) s p room = and_then (fixed_at xs s p) (λ x q. given (record { words = []; records = 0 }) q)
field_at letters (arg k) s p room =
    and_then (arg_at letters k s p room)
    (λ v q. given (record { words = arg_words k (pooled_arg k v); records = used k (pooled_arg k v) }) q)

-- what a reader answers of what was read, and the words behind word j; of a refusal the words do not matter
abbrev pub Stored : {A B : Type 0} → (A → List ℕ) → (A → B) → Answer A → ℕ → List ℕ → List ℕ → Result (B × Cursor) WireError → Type 0
Stored words told (given x q) j before after r = (answer_of r ≡ given (told x) q) × (after ≡ splice j (words x) before)
Stored words told (refused e) j before after r = answer_of r ≡ refused e

abbrev pub FieldStored : Answer FieldRead → ℕ → List ℕ → List ℕ → Result (ℕ × Cursor) WireError → Type 0
FieldStored = Stored (λ x. x.words) (λ x. x.records)

-- nothing is told but the words
abbrev pub WordsStored : Answer FieldRead → ℕ → List ℕ → List ℕ → Result (Unit × Cursor) WireError → Type 0
WordsStored = Stored (λ x. x.words) (λ x. tt)

-- as the reader of any field answers of one that is no table
abbrev pub without_records : Result (Unit × Cursor) WireError → Result (ℕ × Cursor) WireError
without_records (Ok (u, next)) = Ok (0, next)
without_records (Err e) = Err e

-- Fields: their words, and the last table that has records

pub record FieldsRead : Type 0 where
  pub words : List ℕ
  pub table : Option TablePlace

abbrev pub table_after : (k : Kind) → Located k → Option TablePlace → Option TablePlace
table_after k v last = let n = used k (pooled_arg k v) in cond (eqb n 0) last (Some (record { records = n; start = (kind k).start v }))

unfoldable pub last_table : (fs : List Field) → Args Located fs → Option TablePlace → Option TablePlace
last_table [] vs last = last
last_table (fixed xs ∷ fs) vs last = last_table fs vs last
last_table (arg k ∷ fs) vs last = last_table fs vs.1 (table_after k vs.0 last)

unfoldable pub scan_at : Letters → List Field → List ℕ → ℕ → ℕ → Option TablePlace → Answer FieldsRead
scan_at letters fs s p room last =
    and_then (fields_at letters fs s p room)
    (λ vs q. given (record { words = args_words fs (pooled_args fs vs); table = last_table fs vs last }) q)

abbrev pub FieldsStored : Answer FieldsRead → ℕ → List ℕ → List ℕ → Result (Option TablePlace × Cursor) WireError → Type 0
FieldsStored = Stored (λ x. x.words) (λ x. x.table)

-- The tape behind a table that was found: filled behind the used records, where it has any

abbrev pub memory_of : {A : Type 0} → Outcome A → List ℕ
memory_of (outcome a memory) = memory

abbrev pub table_filled : Letters → List ℕ → Option TablePlace → ℕ → List ℕ → List ℕ
table_filled letters s None used tape = tape
table_filled letters s (Some place) used tape = memory_of (read_table letters s place.start used tape)

abbrev pub records_in : Option TablePlace → ℕ
records_in None = 0
records_in (Some place) = place.records

-- Readers behind class and method, and behind the flags

unfoldable pub read_arguments : Letters → ℕ → ℕ → List ℕ → ℕ → ℕ → List ℕ → Outcome (WithCount (Command Pooled))
read_arguments letters c m s at used tape =
    fill_tape used tape (and_then (arguments_at letters c m s at (room_of used tape)) (λ x q. given (command_with_tape x) q))

unfoldable pub read_properties : Letters → ℕ → ℕ → ℕ → List ℕ → ℕ → ℕ → List ℕ → Outcome (WithCount (Header Pooled))
read_properties letters c n flags s at used tape =
    fill_tape used tape (and_then (properties_at letters c n flags s at (room_of used tape)) (λ x q. given (header_with_tape x) q))

unfoldable pub read_sized : Letters → ℕ → List ℕ → ℕ → ℕ → List ℕ → Outcome (WithCount (Header Pooled))
read_sized letters c s at used tape =
    fill_tape used tape (and_then (sized_at letters c s at (room_of used tape)) (λ x q. given (header_with_tape x) q))
