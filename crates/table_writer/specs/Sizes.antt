-- What the first pass answers of a tape: the first refusal, or how many octets there are to write.
use Rattle.std.specs.Prelude.{◌≡◌, ℕ, ◌+◌, ◌-◌, min, ◌⊎◌, Bool, cond, List, [], ◌∷◌, length, take, drop}
use Rattle.std.proofs.Common.{inl, inr}
use Rattle.std.specs.Prelude.{Option, Some, None}
use Rattle.types.specs.Answer.{Refusal, bad_tape, too_deep}
use Rattle.types.specs.Strings.{octets_of}
use Rattle.types.specs.Judgement.{or_else}
use Rattle.types.specs.Records.{records}
use Rattle.tables.specs.Letters as kind
use Rattle.tables.specs.Letters.{Leaf, number, boolean, decimal, Kind, leaf, container, unknown, Letters, kind_of, is_table}
use Rattle.tables.specs.Forest.{none, item, meaning_of}
use Rattle.tables.specs.AnswerOf.{record_of}
use Rattle.tables.specs.declared.TapeRecord.{TapeRecord}
use Rattle.tables.specs.Tape.{Record, record_at, tape_records, forest_of}
use Rattle.tables.specs.Writing.{name_octets, body, is_known, has_level, judge_record, judge_records, whole_tape, tape_meaning}

-- more than any length that can be written
unfoldable pub capped : ℕ → ℕ
capped n = min n 0x200000000

abbrev pub sized : Option Refusal → ℕ → ℕ ⊎ Refusal
sized None n = inl n
sized (Some r) n = inr r

-- a letter that is known and a depth that is allowed, or the refusal
abbrev pub kind_or_refusal : Kind → ℕ → ℕ → Kind ⊎ Refusal
kind_or_refusal k d i = cond (is_known k) (cond (has_level k d) (inl k) (inr too_deep)) (inr (bad_tape i))

-- the octets of a payload without those beneath, from its second word
abbrev pub own_leaf : Leaf → ℕ → ℕ
own_leaf (number k) second = k
own_leaf boolean second = 1
own_leaf decimal second = 5
own_leaf kind.long_str second = 4 + second
own_leaf kind.short_str second = 1 + second

abbrev pub own_payload : Kind → ℕ → ℕ
own_payload (leaf l) second = own_leaf l second
own_payload (container named) second = 4
own_payload unknown second = 0

-- record i of a tape was read
abbrev pub Reads : List ℕ → ℕ → TapeRecord → Type 0
Reads tape i r = inl (record_of r) ≡ record_at tape i

-- the records of a tape from number i up to `end`
unfoldable pub records_from : List ℕ → ℕ → ℕ → List Record
records_from tape i end = take (end - i) (drop i (records tape_records tape))

module _ (letters : Letters) (named : Bool) (pool : List ℕ) where
  -- the octets of a record without those beneath
  unfoldable pub own_size : Record → ℕ
  own_size r = capped (length (name_octets named (octets_of pool r.name)) + 1 + own_payload (kind_of letters r.letter) r.payload.second)

  -- the octets of some records, and of the first of them with those beneath it
  unfoldable pub records_octets : List Record → List ℕ
  records_octets rs = body letters named (meaning_of letters pool (forest_of rs))

  unfoldable pub first_octets : List Record → List ℕ
  first_octets [] = []
  first_octets (r ∷ rs) = body letters named (meaning_of letters pool (item r.name r.letter r.payload (forest_of (take r.beneath rs)) none))

  -- the judgement of the first record with those beneath it
  unfoldable pub judge_first : ℕ → ℕ → List Record → Option Refusal
  judge_first d i [] = None
  judge_first d i (r ∷ rs) =
      or_else (judge_record letters d named pool i r (length rs)) (judge_records letters (d - 1) (is_table (kind_of letters r.letter)) pool (i + 1) (take r.beneath rs))

  abbrev pub sized_first : ℕ → ℕ → List Record → ℕ ⊎ Refusal
  sized_first d i rs = sized (judge_first d i rs) (capped (length (first_octets rs)))

  abbrev pub sized_records : ℕ → ℕ → List Record → ℕ ⊎ Refusal
  sized_records d i rs = sized (judge_records letters d named pool i rs) (capped (length (records_octets rs)))

  -- all records of a tape, then the words that are over
  unfoldable pub judge_tape : List ℕ → Option Refusal
  judge_tape tape = or_else (judge_records letters 15 named pool 0 (records tape_records tape)) (whole_tape tape)

  -- the octets of all records of a tape
  abbrev pub tape_size : List ℕ → ℕ
  tape_size tape = capped (length (body letters named (tape_meaning letters pool tape)))
