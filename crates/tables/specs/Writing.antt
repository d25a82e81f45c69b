-- The octets of tables and values, and how a writer judges the tape that is given to it: document 01, "types.rs: tables and the tape".
use Rattle.std.specs.Prelude.{ℕ, zero, suc, ◌+◌, ◌-◌, ◌^◌, ◌%◌, Bool, true, false, ◌&&◌, List, [], ◌∷◌, ◌++◌, length, take, drop, leb, ltb, eqb}
use Rattle.std.specs.Prelude.{Option, Some, None}
use Rattle.types.specs.Answer.{Refusal, bad_tape, too_deep}
use Rattle.types.specs.Octets.{octets}
use Rattle.types.specs.Strings.{octets_of, short_str, long_str, judge_short_str, judge_length}
use Rattle.types.specs.Judgement.{test, or_else}
use Rattle.types.specs.Memory.{Outcome}
use Rattle.writers.specs.Writers.{write_at}
use Rattle.types.specs.Records.{records, record_count}
use Rattle.types.specs.declared.Span.{Span}
use Rattle.tables.specs.Letters as kind
use Rattle.tables.specs.Letters.{Leaf, number, boolean, decimal, Kind, leaf, container, unknown, Letters, kind_of, is_table}
use Rattle.tables.specs.Forest.{none, item, Words, PayloadMeaning, TableMeaning, meaning_of}
use Rattle.tables.specs.Tape.{Record, tape_records, forest_of}

-- Octets

abbrev pub leaf_octets : Leaf → PayloadMeaning → List ℕ
leaf_octets (number k) x = octets k x.first
leaf_octets boolean x = octets 1 x.first
leaf_octets decimal x = octets 1 x.first ++ octets 4 x.second
leaf_octets kind.long_str x = long_str x.text
leaf_octets kind.short_str x = short_str x.text

-- a payload, where `body` is what stands beneath
abbrev pub payload_octets : Kind → PayloadMeaning → List ℕ → List ℕ
payload_octets (leaf l) x body = leaf_octets l x
payload_octets (container named) x body = long_str body
payload_octets unknown x body = []

abbrev pub name_octets : Bool → List ℕ → List ℕ
name_octets true n = short_str n
name_octets false n = []

-- Judgement, record by record: letter, depth, name (span, length, UTF-8), payload words, count; the first fault refuses

abbrev pub is_known : Kind → Bool
is_known (leaf l) = true
is_known (container named) = true
is_known unknown = false

-- a table or an array has a level left
abbrev pub has_level : Kind → ℕ → Bool
has_level (leaf l) d = true
has_level (container named) d = ltb 0 d
has_level unknown d = true

abbrev pub in_pool : List ℕ → ℕ → ℕ → Bool
in_pool pool start len = leb (start + len) (length pool)

abbrev pub judge_name : Bool → List ℕ → ℕ → Span → Option Refusal
judge_name true pool i n = test (in_pool pool n.start n.len) (bad_tape i) (judge_short_str (octets_of pool n))
judge_name false pool i n = test (eqb n.start 0 && eqb n.len 0) (bad_tape i) None

abbrev pub judge_leaf : Leaf → List ℕ → ℕ → Words → Option Refusal
judge_leaf (number k) pool i x = test (ltb x.first (256 ^ k) && eqb x.second 0) (bad_tape i) None
judge_leaf boolean pool i x = test (ltb x.first 2 && eqb x.second 0) (bad_tape i) None
judge_leaf decimal pool i x = test (ltb x.first 256 && ltb x.second (256 ^ 4)) (bad_tape i) None
judge_leaf kind.long_str pool i x = test (in_pool pool x.first x.second) (bad_tape i) None
judge_leaf kind.short_str pool i x = judge_name true pool i (record { start = x.first; len = x.second })

abbrev pub judge_payload : Kind → List ℕ → ℕ → Words → Option Refusal
judge_payload (leaf l) pool i x = judge_leaf l pool i x
judge_payload (container named) pool i x = test (eqb x.first 0 && eqb x.second 0) (bad_tape i) None
judge_payload unknown pool i x = Some (bad_tape i)

-- of the records that follow, `left` of them before the parent's end, n are beneath
abbrev pub count_ok : Kind → ℕ → ℕ → Bool
count_ok (leaf l) n left = eqb n 0
count_ok (container named) n left = leb n left
count_ok unknown n left = false

-- less than a record is left over at the tape's end
abbrev pub whole_tape : List ℕ → Option Refusal
whole_tape tape = test (eqb (length tape % tape_records.size) 0) (bad_tape (record_count tape_records tape)) None

module _ (letters : Letters) where
  -- the body of a table (named) or of an array
  unfoldable pub body : Bool → TableMeaning → List ℕ
  body named none = []
  body named (item n c x u t) =
      name_octets named n ++ (octets 1 c ++ (payload_octets (kind_of letters c) x (body (is_table (kind_of letters c)) u) ++ body named t))

  abbrev pub table_octets : TableMeaning → List ℕ
  table_octets t = long_str (body true t)

  -- record number i, with `left` records behind it; it has d levels below it
  unfoldable pub judge_record : ℕ → Bool → List ℕ → ℕ → Record → ℕ → Option Refusal
  judge_record d named pool i r left =
      test (is_known (kind_of letters r.letter)) (bad_tape i)
      (test (has_level (kind_of letters r.letter) d) too_deep
      (or_else (judge_name named pool i r.name)
      (or_else (judge_payload (kind_of letters r.letter) pool i r.payload)
      (test (count_ok (kind_of letters r.letter) r.beneath left) (bad_tape i) None))))

  -- records in order, from number i on. Fuel: how many they are
  unfoldable pub judge_with_fuel : ℕ → ℕ → Bool → List ℕ → ℕ → List Record → Option Refusal
  judge_with_fuel zero d named pool i rs = None
  judge_with_fuel (suc fuel) d named pool i [] = None
  judge_with_fuel (suc fuel) d named pool i (r ∷ rs) =
      or_else (judge_record d named pool i r (length rs))
      (or_else (judge_with_fuel fuel (d - 1) (is_table (kind_of letters r.letter)) pool (i + 1) (take r.beneath rs))
      (judge_with_fuel fuel d named pool (i + 1 + r.beneath) (drop r.beneath rs)))

  unfoldable pub judge_records : ℕ → Bool → List ℕ → ℕ → List Record → Option Refusal
  judge_records d named pool i rs = judge_with_fuel (length rs) d named pool i rs

  -- a table's tape, over a pool
  unfoldable pub judge_table : List ℕ → List ℕ → Option Refusal
  judge_table pool tape = or_else (judge_records 15 true pool 0 (records tape_records tape)) (whole_tape tape)

  -- a lone value's: its first record must count all others
  abbrev pub judge_lone : List ℕ → List Record → Option Refusal
  judge_lone pool [] = Some (bad_tape 0)
  judge_lone pool (r ∷ rs) =
      or_else (judge_record 15 false pool 0 r (length rs))
      (test (eqb r.beneath (length rs)) (bad_tape 0)
      (judge_records 14 (is_table (kind_of letters r.letter)) pool 1 rs))

  unfoldable pub judge_lone_value : List ℕ → List ℕ → Option Refusal
  judge_lone_value pool tape = or_else (judge_lone pool (records tape_records tape)) (whole_tape tape)

  -- what a tape means over its pool
  unfoldable pub tape_meaning : List ℕ → List ℕ → TableMeaning
  tape_meaning pool tape = meaning_of letters pool (forest_of (records tape_records tape))

  -- The writers. Every length inside a table or a value is smaller than its own

  abbrev pub table_refusal : List ℕ → List ℕ → Option Refusal
  table_refusal pool tape = or_else (judge_table pool tape) (judge_length (length (body true (tape_meaning pool tape))))

  unfoldable pub write_table : List ℕ → List ℕ → ℕ → List ℕ → Outcome Unit
  write_table pool tape at out = write_at (table_refusal pool tape) (table_octets (tape_meaning pool tape)) at out

  -- a value's octets are its letter and, where it has a length field, the four octets of that and as many as it says (5 octets less than all);
  -- where it has none they are too few to matter
  abbrev pub lone_refusal : List ℕ → List ℕ → Option Refusal
  lone_refusal pool tape = or_else (judge_lone_value pool tape) (judge_length (length (body false (tape_meaning pool tape)) - 5))

  unfoldable pub write_lone_value : List ℕ → List ℕ → ℕ → List ℕ → Outcome Unit
  write_lone_value pool tape at out = write_at (lone_refusal pool tape) (body false (tape_meaning pool tape)) at out
