-- The first pass over a whole tape: of a table, and of a lone value, whose first record counts all others.
use mathlib.Core.Path.{◌≡◌, refl, sym, ap, ◌∙◌}
use mathlib.Core.Logic.{◌⊎◌, inl, inr}
use mathlib.Core.Bool.{Bool, true, false}
use Rattle.std.specs.Prelude.{Option, Some, None}
use mathlib.Core.List.{List, [], ◌∷◌}
use Prim.Native.Nat.{ℕ, ◌+◌, ◌-◌, ◌/◌, ◌%◌, ◌<◌}
use native.Mathlib.Omega.{arith}
use lib.ListN.{length, take, drop, length-drop}
use lib.Seq.{take_all, take-nil}
use lib.Dec.{ltb, eqb}
use borrow.Author.Tests.{eq-eqb, ne_eqb}
use Rattle.types.specs.Answer.{Refusal, bad_tape, too_deep}
use Rattle.types.specs.Judgement.{test, or_else}
use Rattle.types.specs.Records.{records, first_records}
use Rattle.types.proofs.Tests.{yes_leb, no_leb, decide}
use Rattle.types.proofs.Standing.{length-zero}
use Rattle.tables.specs.Letters.{Letters, kind_of, is_table}
use Rattle.tables.specs.Tape.{Record, tape_records, record_at}
use Rattle.tables.specs.Writing.{is_known, has_level, judge_name, judge_payload, count_ok, judge_record, judge_records, whole_tape, judge_table, judge_lone, judge_lone_value, tape_meaning}
use Rattle.tables.proofs.TapeLaws.{record-missing}
use Rattle.tables.proofs.JudgeLaws.{judge-end, judge-step}
use Rattle.table_writer.specs.Sizes.{capped, sized, records_from, records_octets, judge_tape, tape_size}
use Rattle.table_writer.proofs.RecordLaws.{records-none, records-all, length-records, record-here}
use Rattle.table_writer.proofs.SizeLaws.{sized-given}
use Rattle.table_writer.proofs.PassLaws.{refused-first, records-at, all_from}

-- a judgement that passes, and then a test
module _ (a : Option Refusal) (r : Refusal) (n m : ℕ) (passes : inl m ≡ sized a n) where
  then-fails : (b : Bool) → b ≡ false → inr r ≡ sized (or_else a (test b r None)) n
  then-fails b e = sym (rw ((sized-given a n m (sym passes)).0, e))

  then-passes : (b : Bool) → b ≡ true → inl m ≡ sized (or_else a (test b r None)) n
  then-passes b e = let p = sized-given a n m (sym passes) in sym (rw (p.0, e) (ap inl p.1))

-- The first record of a lone value

then-none : (a : Option Refusal) → or_else a None ≡ a
then-none None = refl
then-none (Some r) = refl

-- what refuses just as the last test does: then that test does not matter
last-test : (known level : Bool) (name payload : Option Refusal) (a b : Bool) (r t : Refusal)
    → or_else (test known r (test level t (or_else name (or_else payload (test a r None))))) (Some r)
    ≡ or_else (test known r (test level t (or_else name (or_else payload (test b r None))))) (Some r)
last-test false level name payload a b r t = refl
last-test true false name payload a b r t = refl
last-test true true (Some n) payload a b r t = refl
last-test true true None (Some p) a b r t = refl
last-test true true None None true true r t = refl
last-test true true None None true false r t = refl
last-test true true None None false true r t = refl
last-test true true None None false false r t = refl

module _ (letters : Letters) (pool : List ℕ) (r : Record) where
  -- so it does not matter how many records are left behind one that is refused in any case
  any_left : (m n : ℕ) → or_else (judge_record letters 15 false pool 0 r m) (Some (bad_tape 0)) ≡ or_else (judge_record letters 15 false pool 0 r n) (Some (bad_tape 0))
  unfolding judge_record
  any_left m n =
      let k = kind_of letters r.letter in
      last-test (is_known k) (has_level k 15) (judge_name false pool 0 r.name) (judge_payload k pool 0 r.payload) (count_ok k r.beneath m) (count_ok k r.beneath n) (bad_tape 0) too_deep

  -- it counts all others
  counts_all : (rs : List Record) → r.beneath ≡ length rs → judge_lone letters pool (r ∷ rs) ≡ judge_records letters 15 false pool 0 (r ∷ rs)
  counts_all rs h =
      let k = is_table (kind_of letters r.letter) in
      let t : take r.beneath rs ≡ rs = take_all r.beneath rs (omega arith) in
      let z : drop r.beneath rs ≡ [] = length-zero (drop r.beneath rs) (omega (arith, length-drop r.beneath rs)) in
      let s = judge-step letters 15 false pool 0 r rs in
      sym (s ∙ (rw (t, z, judge-end letters 15 false pool (0 + 1 + r.beneath), then-none (judge_records letters 14 k pool 1 rs), eq-eqb r.beneath (length rs) h)))

  -- by itself
  alone : judge_records letters 15 false pool 0 (r ∷ []) ≡ judge_record letters 15 false pool 0 r 0
  alone =
      let k = is_table (kind_of letters r.letter) in
      let t : take {A = Record} r.beneath [] ≡ [] = take-nil r.beneath in
      let z : drop {A = Record} r.beneath [] ≡ [] = length-zero (drop {A = Record} r.beneath []) (omega (arith, length-drop {A = Record} r.beneath [])) in
      let s = judge-step letters 15 false pool 0 r [] in
      s ∙ (rw (t, z, judge-end letters 14 k pool 1, judge-end letters 15 false pool (0 + 1 + r.beneath), then-none (judge_record letters 15 false pool 0 r 0)))

  -- it does not count all others
  miscounts : (rs : List Record) → (r.beneath ≡ length rs → ⊥) → judge_lone letters pool (r ∷ rs) ≡ or_else (judge_records letters 15 false pool 0 (r ∷ [])) (Some (bad_tape 0))
  miscounts rs h = rw (ne_eqb r.beneath (length rs) h, alone) (any_left (length rs) 0)

-- Whole tapes

module _ (letters : Letters) (pool tape : List ℕ) where
  abbrev count : ℕ
  count = length tape / 6

  -- All records

  module _ (named : Bool) where
    abbrev size : ℕ
    size = tape_size letters named pool tape

    abbrev sized_tape : ℕ ⊎ Refusal
    sized_tape = sized (judge_tape letters named pool tape) size

    abbrev judged : Option Refusal
    judged = judge_records letters 15 named pool 0 (records tape_records tape)

    all-records : all_from letters 15 named pool tape count 0 ≡ sized judged size
    unfolding records_octets tape_meaning
    all-records = rw (records-all tape)

    pub tape-refused : (e : Refusal) → inr e ≡ all_from letters 15 named pool tape count 0 → inr e ≡ sized_tape
    unfolding judge_tape
    tape-refused e q = refused-first judged (whole_tape tape) size size e (q ∙ all-records)

    module _ (n : ℕ) (passes : inl n ≡ all_from letters 15 named pool tape count 0) where
      pub tape-left-over : (length tape % 6 ≡ 0 → ⊥) → inr (bad_tape count) ≡ sized_tape
      unfolding judge_tape
      tape-left-over h = then-fails judged (bad_tape count) size n (passes ∙ all-records) (eqb (length tape % 6) 0) (ne_eqb (length tape % 6) 0 h)

      pub tape-given : length tape % 6 ≡ 0 → inl n ≡ sized_tape
      unfolding judge_tape
      tape-given h = then-passes judged (bad_tape count) size n (passes ∙ all-records) (eqb (length tape % 6) 0) (eq-eqb (length tape % 6) 0 h)

  -- a table's tape is judged so
  pub table-tape : sized_tape true ≡ sized (judge_table letters pool tape) (tape_size letters true pool tape)
  unfolding judge_tape judge_table
  table-tape = refl

  -- A lone value

  abbrev total : ℕ
  total = tape_size letters false pool tape

  abbrev sized_lone : ℕ ⊎ Refusal
  sized_lone = sized (judge_lone_value letters pool tape) total

  pub lone-missing : (e : Refusal) → inr e ≡ record_at tape 0 → inr e ≡ sized_lone
  unfolding judge_lone_value first_records
  lone-missing e q =
      decide (ltb 0 count)
      (λ y. let there = record-here tape count (omega arith) 0 (yes_leb 1 count y) in let z : ◌≡◌ {A = ℕ} 0 1 = cc in absurd (omega arith))
      (λ x.
      let none : count ≡ 0 = omega (arith, no_leb 1 count x) in
      let m = record-missing tape 0 (omega arith) in
      let same : e ≡ bad_tape 0 = cc in
      ap inr same ∙ sym (rw none))

  module _ (r : Record) (there : inl r ≡ record_at tape 0) where
    pub lone-there : 0 < count
    lone-there =
        decide (ltb 0 count) (λ y. yes_leb 1 count y)
        (λ x. let e = record-missing tape 0 (omega (arith, no_leb 1 count x)) in let z : ◌≡◌ {A = ℕ} 0 1 = cc in absurd (omega arith))

    abbrev rest : List Record
    rest = records_from tape 1 count

    rest-length : length rest ≡ count - 1
    rest-length = length-records tape count (omega arith) 1

    all : records tape_records tape ≡ r ∷ rest
    all = sym (records-all tape) ∙ records-at tape count (omega arith) 0 lone-there r there

    pub lone-tape : r.beneath ≡ count - 1 → sized_tape false ≡ sized_lone
    unfolding judge_tape judge_lone_value
    lone-tape h =
        let s : judge_records letters 15 false pool 0 (records tape_records tape) ≡ judge_lone letters pool (records tape_records tape) = rw all (sym (counts_all letters pool r rest (h ∙ sym rest-length))) in
        ap (λ (o : Option Refusal). sized (or_else o (whole_tape tape)) total) s

    module _ (short : r.beneath ≡ count - 1 → ⊥) where
      abbrev first : Option Refusal
      first = judge_records letters 15 false pool 0 (r ∷ [])

      abbrev sized_alone : ℕ ⊎ Refusal
      sized_alone = all_from letters 15 false pool tape 1 0

      one : records_from tape 0 1 ≡ r ∷ []
      one = records-at tape 1 (omega (arith, lone-there)) 0 (omega arith) r there ∙ ap (λ (rs : List Record). r ∷ rs) (records-none tape 1)

      sized-alone : sized_alone ≡ sized first (capped (length (records_octets letters false pool (r ∷ []))))
      sized-alone = rw one

      after_first : sized (or_else (or_else first (Some (bad_tape 0))) (whole_tape tape)) total ≡ sized_lone
      unfolding judge_lone_value
      after_first =
          let s : judge_lone letters pool (records tape_records tape) ≡ or_else first (Some (bad_tape 0)) = rw all (miscounts letters pool r rest (λ e. short (e ∙ rest-length))) in
          sym (ap (λ (o : Option Refusal). sized (or_else o (whole_tape tape)) total) s)

      pub lone-refused : (e : Refusal) → inr e ≡ sized_alone → inr e ≡ sized_lone
      lone-refused e q =
          refused-first (or_else first (Some (bad_tape 0))) (whole_tape tape) total total e (refused-first first (Some (bad_tape 0)) _ total e (q ∙ sized-alone)) ∙ after_first

      pub lone-miscounts : (n : ℕ) → inl n ≡ sized_alone → inr (bad_tape 0) ≡ sized_lone
      lone-miscounts n q =
          let p : first ≡ None = (sized-given first _ n (sym (q ∙ sized-alone))).0 in
          sym (ap (λ (o : Option Refusal). sized (or_else (or_else o (Some (bad_tape 0))) (whole_tape tape)) total) p) ∙ after_first
