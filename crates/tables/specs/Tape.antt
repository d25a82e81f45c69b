-- The tape: records of six words in reading order (document 01, "types.rs: tables and the tape"), and readers that fill one.
use Rattle.std.specs.Prelude.{ℕ, zero, suc, ◌-◌, ◌*◌, List, [], ◌∷◌, ◌++◌, length, take, drop, get_or, ◌⊎◌, cond, ltb}
use Rattle.std.proofs.Common.{inl, inr}
use Rattle.types.specs.Answer.{Answer, Refusal, given, refused, bad_tape, and_then}
use Rattle.types.specs.Memory.{splice, Outcome, outcome}
use Rattle.types.specs.Records.{RecordFormat, concat_map, record_count}
use Rattle.types.specs.declared.Span.{Span}
use Rattle.tables.specs.declared.WithCount as code
use Rattle.tables.specs.Letters.{Letters}
use Rattle.tables.specs.Forest.{none, item, size, Words, words, LocatedTable}
use Rattle.tables.specs.Reading.{table_at, lone_value_at}

pub record Record : Type 0 where
  pub letter : ℕ
  pub name : Span
  pub payload : Words
  -- the number of records beneath
  pub beneath : ℕ

-- letter; name start; name length; first; second; number of records beneath
abbrev pub tape_records : RecordFormat Record
tape_records =
    record {
      size = 6;
      words = λ r. r.letter ∷ r.name.start ∷ r.name.len ∷ r.payload.first ∷ r.payload.second ∷ r.beneath ∷ [];
      read =
          λ ws.
          record {
            letter = get_or ws 0 0;
            name = record { start = get_or ws 1 0; len = get_or ws 2 0 };
            payload = words (get_or ws 3 0) (get_or ws 4 0);
            beneath = get_or ws 5 0;
          };
    }

-- record number k of a tape, or BadTape(k) where there is none
unfoldable pub record_at : List ℕ → ℕ → Record ⊎ Refusal
record_at tape k =
    cond (ltb k (record_count tape_records tape)) (inl (tape_records.read (take tape_records.size (drop (k * tape_records.size) tape)))) (inr (bad_tape k))

-- the records of a forest
unfoldable pub flatten : LocatedTable → List Record
flatten none = []
flatten (item n c x u t) = record { letter = c; name = n; payload = x; beneath = size u } ∷ (flatten u ++ flatten t)

-- the forest of some records: a record with those that it counts beneath it, then the others. Fuel: how many there are
unfoldable pub unflatten : ℕ → List Record → LocatedTable
unflatten zero rs = none
unflatten (suc fuel) [] = none
unflatten (suc fuel) (r ∷ rs) = item r.name r.letter r.payload (unflatten fuel (take r.beneath rs)) (unflatten fuel (drop r.beneath rs))

abbrev pub forest_of : List Record → LocatedTable
forest_of rs = unflatten (length rs) rs

-- A reader that fills the tape behind the `used` records: what it reads, with the records that belong to it

pub record WithTape (A : Type 0) : Type 0 where
  pub value : A
  pub tape : List Record

-- what is answered of it, the code's: the value, with the number of its records
abbrev pub WithCount : Type 0 → Type 0
WithCount A = code.WithCount A

-- the records that are free
abbrev pub room_of : ℕ → List ℕ → ℕ
room_of used tape = record_count tape_records tape - used

-- the answer and the whole tape at exit: the records behind the used ones; after a refusal, as it was
abbrev pub fill_tape : {A : Type 0} → ℕ → List ℕ → Answer (WithTape A) → Outcome (WithCount A)
fill_tape used tape (given x n) =
    outcome (given (record { value = x.value; count = length x.tape }) n) (splice (used * tape_records.size) (concat_map tape_records.words x.tape) tape)
fill_tape used tape (refused r) = outcome (refused r) tape

-- the same without the value: how many records were filled, and the next position
abbrev pub records_only : {A : Type 0} → Outcome (WithCount A) → Outcome (WithCount Unit)
records_only (outcome (given x n) tape) = outcome (given (record { value = tt; count = x.count }) n) tape
records_only (outcome (refused r) tape) = outcome (refused r) tape

-- a table or a lone value is nothing but its records
abbrev pub as_tape : Answer LocatedTable → Answer (WithTape Unit)
as_tape a = and_then a (λ t n. given (record { value = tt; tape = flatten t }) n)

-- Readers onto the records behind the used ones, with all of the tape at exit

unfoldable pub read_table : Letters → List ℕ → ℕ → ℕ → List ℕ → Outcome (WithCount Unit)
read_table letters s at used tape = fill_tape used tape (as_tape (table_at letters s at (room_of used tape)))

unfoldable pub read_lone_value : Letters → List ℕ → ℕ → ℕ → List ℕ → Outcome (WithCount Unit)
read_lone_value letters s at used tape = fill_tape used tape (as_tape (lone_value_at letters s at (room_of used tape)))
