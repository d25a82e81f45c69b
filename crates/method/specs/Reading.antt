-- The command reader and the content header reader: document 01, "method.rs". A reader is given the octets up to the payload's end.
use Rattle.std.specs.Prelude.{Bool, true, false, cond, List, [], ◌∷◌, ◌++◌, ℕ, ◌-◌, ◌/◌, length, take, drop, leb, eqb}
use Rattle.types.specs.Answer.{Answer, given, not_written, unknown_method, and_then, need}
use Rattle.types.specs.Octets.{uint_at}
use Rattle.types.specs.Strings.{octets_of, span_at}
use Rattle.tables.specs.Letters.{Letters}
use Rattle.tables.specs.Forest.{meaning_of}
use Rattle.types.specs.Memory.{Outcome}
use Rattle.tables.specs.Tape.{Record, forest_of, WithTape, room_of, fill_tape}
use Rattle.tables.specs.declared.WithCount.{WithCount}
use Rattle.method.specs.Fields.{Kind, kind, Field, fixed, arg, Meaning, Located, Pooled, Args, map_args, fold_args}
use Rattle.method.specs.Commands.{known, fields_of, Command, call}
use Rattle.method.specs.Properties.{properties, select, flags_of, Header, header}

-- the same octets
unfoldable pub same : List ℕ → List ℕ → Bool
same [] [] = true
same [] (y ∷ ys) = false
same (x ∷ xs) [] = false
same (x ∷ xs) (y ∷ ys) = cond (eqb x y) (same xs ys) false

unfoldable pub arg_at : Letters → (k : Kind) → List ℕ → ℕ → ℕ → Answer (Located k)
arg_at letters k s p room = (kind k).at letters s p room

-- the tape records of what is located
abbrev pub arg_tape : (k : Kind) → Located k → List Record
arg_tape k v = (kind k).tape v

unfoldable pub tape_of : (fs : List Field) → Args Located fs → List Record
tape_of fs vs = fold_args ◌++◌ [] arg_tape fs vs

-- a fixed field is taken whole, and is NotWritten at its first octet if it differs
unfoldable pub fixed_at : List ℕ → List ℕ → ℕ → Answer Unit
fixed_at xs s p = and_then (span_at (length xs) s p) (λ v q. need (same (octets_of s v) xs) (not_written p) (given tt q))

-- fields in octet order
unfoldable pub fields_at : Letters → (fs : List Field) → List ℕ → ℕ → ℕ → Answer (Args Located fs)
fields_at letters [] s p room = given tt p
fields_at letters (fixed xs ∷ fs) s p room = and_then (fixed_at xs s p) (λ x q. fields_at letters fs s q room)
fields_at letters (arg k ∷ fs) s p room =
    and_then (arg_at letters k s p room)
    (λ v q. and_then (fields_at letters fs s q (room - length (arg_tape k v))) (λ vs r. given (v, vs) r))

-- a pair's arguments, and no octet more
abbrev pub arguments_at : Letters → ℕ → ℕ → List ℕ → ℕ → ℕ → Answer (Command Located)
arguments_at letters c m s p room =
    and_then (fields_at letters (fields_of c m) s p room) (λ vs q. need (leb (length s) q) (not_written q) (given (call c m vs) q))

-- behind class and method
unfoldable pub command_at : Letters → List ℕ → ℕ → ℕ → Answer (Command Located)
command_at letters s p room =
    and_then (uint_at 2 s p)
    (λ c q. and_then (uint_at 2 s q) (λ m r. need (known c m) (unknown_method c m) (arguments_at letters c m s r room)))

-- the properties present, by thirteen flags
abbrev pub properties_at : Letters → ℕ → ℕ → ℕ → List ℕ → ℕ → ℕ → Answer (Header Located)
properties_at letters c n flags s p room =
    and_then (fields_at letters (select (flags_of 13 flags) properties) s p room) (λ vs q. given (header c n (flags_of 13 flags) vs) q)

-- behind body size and flags; flags 2 to 0 and what follows are ignored
abbrev pub sized_at : Letters → ℕ → List ℕ → ℕ → ℕ → Answer (Header Located)
sized_at letters c s p room = and_then (uint_at 8 s p) (λ n q. and_then (uint_at 2 s q) (λ flags r. properties_at letters c n (flags / 8) s r room))

-- behind class and weight, which is ignored too
unfoldable pub header_at : Letters → List ℕ → ℕ → ℕ → Answer (Header Located)
header_at letters s p room = and_then (uint_at 2 s p) (λ c q. and_then (uint_at 2 s q) (λ weight r. sized_at letters c s r room))

-- What is returned of what is located, with its tape records

abbrev pub pooled_arg : (k : Kind) → Located k → Pooled k
pooled_arg k v = (kind k).pooled v

unfoldable pub pooled_args : (fs : List Field) → Args Located fs → Args Pooled fs
pooled_args fs vs = map_args pooled_arg fs vs

abbrev pub command_with_tape : Command Located → WithTape (Command Pooled)
command_with_tape (call c m vs) = record { value = call c m (pooled_args (fields_of c m) vs); tape = tape_of (fields_of c m) vs }

abbrev pub header_with_tape : Header Located → WithTape (Header Pooled)
header_with_tape (header c n present vs) =
    record { value = header c n present (pooled_args (select present properties) vs); tape = tape_of (select present properties) vs }

-- Readers onto the records behind the used ones, with all of the tape at exit

unfoldable pub read_command : Letters → List ℕ → ℕ → ℕ → List ℕ → Outcome (WithCount (Command Pooled))
read_command letters s at used tape =
    fill_tape used tape (and_then (command_at letters s at (room_of used tape)) (λ x q. given (command_with_tape x) q))

unfoldable pub read_header : Letters → List ℕ → ℕ → ℕ → List ℕ → Outcome (WithCount (Header Pooled))
read_header letters s at used tape =
    fill_tape used tape (and_then (header_at letters s at (room_of used tape)) (λ x q. given (header_with_tape x) q))

-- The meaning of what is returned, over the octets and its tape records, the first n of which are a table's

abbrev pub used : (k : Kind) → Pooled k → ℕ
used k v = (kind k).used v

abbrev pub arg_meaning : Letters → (k : Kind) → List ℕ → Pooled k → List Record → Meaning k
arg_meaning letters k s v rs = (kind k).meaning s (meaning_of letters s (forest_of (take (used k v) rs))) v

unfoldable pub args_meaning : Letters → (fs : List Field) → List ℕ → Args Pooled fs → List Record → Args Meaning fs
args_meaning letters [] s vs rs = tt
args_meaning letters (fixed xs ∷ fs) s vs rs = args_meaning letters fs s vs rs
args_meaning letters (arg k ∷ fs) s vs rs = (arg_meaning letters k s vs.0 rs, args_meaning letters fs s vs.1 (drop (used k vs.0) rs))

abbrev pub command_meaning : Letters → List ℕ → Command Pooled → List Record → Command Meaning
command_meaning letters s (call c m vs) rs = call c m (args_meaning letters (fields_of c m) s vs rs)

abbrev pub header_meaning : Letters → List ℕ → Header Pooled → List Record → Header Meaning
header_meaning letters s (header c n present vs) rs = header c n present (args_meaning letters (select present properties) s vs rs)
