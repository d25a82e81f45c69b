-- The first pass over a tape, step by step: a record by itself, with those beneath it, and the records one after another.
use mathlib.Core.Path.{◌≡◌, refl, sym, ap, ◌∙◌}
use mathlib.Core.Logic.{◌⊎◌, inl, inr}
use mathlib.Core.Bool.{Bool, true, false, cond}
use Rattle.std.specs.Prelude.{Option, Some, None}
use mathlib.Core.List.{List, [], ◌∷◌}
use Prim.Native.Nat.{ℕ, ◌+◌, ◌-◌, ◌*◌, ◌≤◌, ◌<◌}
use native.Mathlib.Omega.{arith}
use lib.ListN.{length, take, drop, get_or}
use Rattle.types.specs.Answer.{Refusal, bad_tape, too_deep}
use Rattle.types.specs.Strings.{octets_of}
use Rattle.types.specs.Judgement.{test, or_else}
use Rattle.types.proofs.Tests.{yes_leb}
use Rattle.tables.specs.Letters.{Kind, leaf, container, unknown, Letters, kind_of, is_table}
use Rattle.tables.specs.Tape.{Record, record_at}
use Rattle.tables.specs.Writing.{name_octets, is_known, has_level, judge_name, judge_payload, count_ok, judge_record, judge_records}
use Rattle.tables.proofs.JudgeLaws.{Passed, passed, count-le, eqb_is}
use Rattle.table_writer.specs.Sizes.{capped, sized, kind_or_refusal, own_payload, own_size, records_from, records_octets, first_octets, judge_first, sized_first, sized_records}
use Rattle.table_writer.proofs.RecordLaws.{nth_record, records-none, length-records, record-here, records-step, records-take, records-drop}
use Rattle.table_writer.proofs.SizeLaws.{capped_le, capped-zero, capped-right, both, both_zero, both-both, sized-given, name-length, sized-first, sized-records, sized-none}

-- A letter that is refused, or that passes

refused-kind : (a b : Bool) (k : Kind) (r t e : Refusal) (o : Option Refusal) (n : ℕ) → inr e ≡ cond a (cond b (inl k) (inr t)) (inr r) → inr e ≡ sized (test a r (test b t o)) n
refused-kind true true k r t e o n q = let z : ◌≡◌ {A = ℕ} 0 1 = cc in absurd (omega arith)
refused-kind true false k r t e o n q = let s : e ≡ t = cc in ap inr s
refused-kind false b k r t e o n q = let s : e ≡ r = cc in ap inr s

passed-kind : (a b : Bool) (j k : Kind) (r t : Refusal) → inl j ≡ cond a (cond b (inl k) (inr t)) (inr r) → (a ≡ true) × (b ≡ true) × (j ≡ k)
passed-kind true true j k r t q = (refl, refl, cc)
passed-kind true false j k r t q = let z : ◌≡◌ {A = ℕ} 0 1 = cc in absurd (omega arith)
passed-kind false b j k r t q = let z : ◌≡◌ {A = ℕ} 0 1 = cc in absurd (omega arith)

-- the first of two judgements refuses
pub refused-first : (a b : Option Refusal) (m n : ℕ) (e : Refusal) → inr e ≡ sized a m → inr e ≡ sized (or_else a b) n
refused-first None b m n e q = let z : ◌≡◌ {A = ℕ} 0 1 = cc in absurd (omega arith)
refused-first (Some r) b m n e q = let s : e ≡ r = cc in ap inr s

-- no answer is above the cap
sized-le : (o : Option Refusal) (m n : ℕ) → inl n ≡ sized o (capped m) → n ≤ 0x200000000
sized-le o m n e = omega (arith, (sized-given o (capped m) n (sym e)).1, capped_le m)

-- A record by itself

module _ (letters : Letters) (d : ℕ) (named : Bool) (pool : List ℕ) (i : ℕ) (r : Record) (left : ℕ) where
  abbrev pub sized_record : ℕ ⊎ Refusal
  sized_record = sized (judge_record letters d named pool i r left) (own_size letters named pool r)

  abbrev kind_here : Kind
  kind_here = kind_of letters r.letter

  abbrev name_size : ℕ
  name_size = length (name_octets named (octets_of pool r.name))

  abbrev payload_size : Kind → ℕ
  payload_size k = own_payload k r.payload.second

  abbrev of_name : ℕ ⊎ Refusal
  of_name = sized (judge_name named pool i r.name) name_size

  abbrev of_payload : Kind → ℕ ⊎ Refusal
  of_payload k = sized (judge_payload k pool i r.payload) (capped (payload_size k))

  abbrev of_count : Kind → Option Refusal
  of_count k = test (count_ok k r.beneath left) (bad_tape i) None

  abbrev after_name : Kind → Option Refusal
  after_name k = or_else (judge_payload k pool i r.payload) (of_count k)

  abbrev own : Kind → ℕ
  own k = capped (name_size + 1 + payload_size k)

  pub record-le : (n : ℕ) → inl n ≡ sized_record → n ≤ 0x200000000
  unfolding own_size
  record-le n e = sized-le (judge_record letters d named pool i r left) (name_size + 1 + payload_size kind_here) n e

  pub record-letter : (e : Refusal) → inr e ≡ kind_or_refusal kind_here d i → inr e ≡ sized_record
  unfolding judge_record
  record-letter e q = refused-kind (is_known kind_here) (has_level kind_here d) kind_here (bad_tape i) too_deep e _ _ q

  module _ (k : Kind) (known : inl k ≡ kind_or_refusal kind_here d i) where
    after-letter : sized (or_else (judge_name named pool i r.name) (after_name k)) (own k) ≡ sized_record
    unfolding judge_record own_size
    after-letter =
        let p = passed-kind (is_known kind_here) (has_level kind_here d) k kind_here (bad_tape i) too_deep known in
        sym (rw (p.0, p.1, ← p.2))

    pub record-name : (e : Refusal) → inr e ≡ of_name → inr e ≡ sized_record
    record-name e q = refused-first (judge_name named pool i r.name) (after_name k) name_size (own k) e q ∙ after-letter

    after-name : (m : ℕ) → inl m ≡ of_name → sized (after_name k) (own k) ≡ sized_record
    after-name m q = sym (ap (λ (o : Option Refusal). sized (or_else o (after_name k)) (own k)) (sized-given (judge_name named pool i r.name) name_size m (sym q)).0) ∙ after-letter

    pub record-payload : (m : ℕ) → inl m ≡ of_name → (e : Refusal) → inr e ≡ of_payload k → inr e ≡ sized_record
    record-payload m n e q = refused-first (judge_payload k pool i r.payload) (of_count k) (capped (payload_size k)) (own k) e q ∙ after-name m n

  -- its kind, name and payload pass
  pub record Parts (k : Kind) (m n : ℕ) : Type 0 where
    pub known : inl k ≡ kind_or_refusal kind_here d i
    pub name : inl m ≡ of_name
    pub payload : inl n ≡ of_payload k

module _ {letters : Letters} {d : ℕ} {named : Bool} {pool : List ℕ} {i : ℕ} {r : Record} {left : ℕ} {k : Kind} {m n : ℕ} (p : Parts letters d named pool i r left k m n) where
  abbrev size : ℕ
  size = own letters d named pool i r left k

  name-is : (judge_name named pool i r.name ≡ None) × (name_size letters d named pool i r left ≡ m)
  name-is = sized-given (judge_name named pool i r.name) (name_size letters d named pool i r left) m (sym p.name)

  payload-is : (judge_payload k pool i r.payload ≡ None) × (capped (payload_size letters d named pool i r left k) ≡ n)
  payload-is = sized-given (judge_payload k pool i r.payload) (capped (payload_size letters d named pool i r left k)) n (sym p.payload)

  pub parts-le : (m ≤ 256) × (n ≤ 0x200000000)
  parts-le =
      (omega (arith, name-length named pool i r.name name-is.0, name-is.1), sized-le (judge_payload k pool i r.payload) (payload_size letters d named pool i r left k) n p.payload)

  after-payload : sized (of_count letters d named pool i r left k) size ≡ sized_record letters d named pool i r left
  after-payload =
      sym (ap (λ (o : Option Refusal). sized (or_else o (of_count letters d named pool i r left k)) size) payload-is.0)
      ∙ after-name letters d named pool i r left k p.known m p.name

  pub record-count : count_ok k r.beneath left ≡ false → inr (bad_tape i) ≡ sized_record letters d named pool i r left
  record-count e = sym (ap (λ (b : Bool). sized (test b (bad_tape i) None) size) e) ∙ after-payload

  pub record-given : count_ok k r.beneath left ≡ true → inl (capped (m + 1 + n)) ≡ sized_record letters d named pool i r left
  record-given e =
      let s : capped (m + 1 + n) ≡ size = rw (← name-is.1, ← payload-is.1) (capped-right (name_size letters d named pool i r left + 1) (payload_size letters d named pool i r left k)) in
      ap inl s ∙ sym (ap (λ (b : Bool). sized (test b (bad_tape i) None) size) e) ∙ after-payload

-- Records on a tape, up to `end`

-- the records from one that was read
pub records-at : (tape : List ℕ) (end : ℕ) (on_tape : end * 6 ≤ length tape) (i : ℕ) → i < end → (r : Record) → inl r ≡ record_at tape i → records_from tape i end ≡ r ∷ records_from tape (i + 1) end
records-at tape end on_tape i h r there =
    let e = record-here tape end on_tape i h in
    let s : nth_record tape i ≡ r = cc in
    records-step tape end on_tape i h ∙ ap (λ (x : Record). x ∷ records_from tape (i + 1) end) s

module _ (letters : Letters) (d : ℕ) (named : Bool) (pool tape : List ℕ) (end : ℕ) where
  -- the answer of record i with those beneath it, and of all from i on
  abbrev pub value_from : ℕ → ℕ ⊎ Refusal
  value_from i = sized_first letters named pool d i (records_from tape i end)

  abbrev pub all_from : ℕ → ℕ ⊎ Refusal
  all_from i = sized_records letters named pool d i (records_from tape i end)

  pub value-le : (i n : ℕ) → inl n ≡ value_from i → n ≤ 0x200000000
  value-le i n e = sized-le (judge_first letters named pool d i (records_from tape i end)) (length (first_octets letters named pool (records_from tape i end))) n e

  pub all-le : (i n : ℕ) → inl n ≡ all_from i → n ≤ 0x200000000
  all-le i n e = sized-le (judge_records letters d named pool i (records_from tape i end)) (length (records_octets letters named pool (records_from tape i end))) n e

  module _ (on_tape : end * 6 ≤ length tape) (i : ℕ) (inside : i < end) where
    pub value-missing : (e : Refusal) → inr e ≡ record_at tape i → inr e ≡ value_from i
    value-missing e q = let there = record-here tape end on_tape i inside in let z : ◌≡◌ {A = ℕ} 0 1 = cc in absurd (omega arith)

    module _ (r : Record) (there : inl r ≡ record_at tape i) where
      value-step : value_from i
          ≡ both (sized_record letters d named pool i r (end - (i + 1)))
          (sized_records letters (is_table (kind_of letters r.letter)) pool (d - 1) (i + 1) (take r.beneath (records_from tape (i + 1) end)))
      value-step = rw (records-at tape end on_tape i inside r there) (sized-first letters named pool d i r (records_from tape (i + 1) end) ∙ (rw (length-records tape end on_tape (i + 1))))

      pub value-refused : (e : Refusal) → inr e ≡ sized_record letters d named pool i r (end - (i + 1)) → inr e ≡ value_from i
      unfolding both
      value-refused e q = sym (value-step ∙ (rw (sym q)))

  -- record i was read, and passes by itself
  pub record Judged (i : ℕ) (r : Record) (own : ℕ) : Type 0 where
    pub on_tape : end * 6 ≤ length tape
    pub inside : i < end
    pub there : inl r ≡ record_at tape i
    pub passes : inl own ≡ sized_record letters d named pool i r (end - (i + 1))

  -- what the loop over records keeps: the answer from its start on is the answer from here on, with the size so far
  pub record Kept (start i size : ℕ) : Type 0 where
    pub inside : i ≤ end
    pub small : size ≤ 0x200000000
    pub rest : all_from start ≡ both (inl size) (all_from i)

  pub kept-start : (start : ℕ) → start ≤ end → Kept start start 0
  kept-start start h =
      record {
        inside = h;
        small = omega arith;
        rest = sym (both_zero (judge_records letters d named pool start (records_from tape start end)) (length (records_octets letters named pool (records_from tape start end))));
      }

-- what has records beneath it has a level
level-left : (k : Kind) (n left d : ℕ) → count_ok k n left ≡ true → has_level k d ≡ true → (n ≡ 0 → ⊥) → 0 < d
level-left (leaf l) n left d c h z = absurd (z (eqb_is n 0 c))
level-left (container named) n left d c h z = yes_leb 1 d h
level-left unknown n left d c h z = let q : ◌≡◌ {A = ℕ} 0 1 = cc in absurd (omega arith)

module _ {letters : Letters} {d : ℕ} {named : Bool} {pool tape : List ℕ} {end i : ℕ} {r : Record} {own : ℕ} (j : Judged letters d named pool tape end i r own) where
  abbrev last : ℕ
  last = i + 1 + r.beneath

  abbrev beneath : ℕ ⊎ Refusal
  beneath = all_from letters (d - 1) (is_table (kind_of letters r.letter)) pool tape last (i + 1)

  passed_here : Passed letters d named pool i r (end - (i + 1))
  passed_here =
      passed letters d named pool i r (end - (i + 1)) (sized-given (judge_record letters d named pool i r (end - (i + 1))) (own_size letters named pool r) own (sym j.passes)).0

  pub beneath-inside : last ≤ end
  beneath-inside = omega (arith, count-le (kind_of letters r.letter) r.beneath (end - (i + 1)) passed_here.count, j.inside)

  pub beneath-level : (r.beneath ≡ 0 → ⊥) → 0 < d
  beneath-level z = level-left (kind_of letters r.letter) r.beneath (end - (i + 1)) d passed_here.count passed_here.level z

  value-beneath : both (inl own) beneath ≡ value_from letters d named pool tape end i
  value-beneath =
      sym (value-step letters d named pool tape end j.on_tape i j.inside r j.there
      ∙ (rw (sym j.passes, records-take tape end j.on_tape (i + 1) r.beneath beneath-inside)))

  pub beneath-refused : (e : Refusal) → inr e ≡ beneath → inr e ≡ value_from letters d named pool tape end i
  unfolding both
  beneath-refused e q = ap (both (inl own)) q ∙ value-beneath

  pub beneath-given : (n : ℕ) → inl n ≡ beneath → inl (capped (own + n)) ≡ value_from letters d named pool tape end i
  unfolding both
  beneath-given n q = ap (both (inl own)) q ∙ value-beneath

  pub nothing-beneath : r.beneath ≡ 0 → inl own ≡ value_from letters d named pool tape end i
  nothing-beneath z =
      let same : last ≡ i + 1 = omega arith in
      let none : records_from tape (i + 1) last ≡ [] = rw same (records-none tape (i + 1)) in
      let all : beneath ≡ inl 0 = rw none (sized-none letters (is_table (kind_of letters r.letter)) pool (d - 1) (i + 1)) in
      ap inl (sym (capped-zero own (record-le letters d named pool i r (end - (i + 1)) own j.passes))) ∙ beneath-given 0 (sym all)

-- The loop

first-given : (a b : ℕ ⊎ Refusal) (n : ℕ) → inl n ≡ both a b → (m : ℕ) × (inl m ≡ a)
unfolding both
first-given (inl m) b n e = (m, refl)
first-given (inr r) b n e = let z : ◌≡◌ {A = ℕ} 0 1 = cc in absurd (omega arith)

module _ {letters : Letters} {d : ℕ} {named : Bool} {pool tape : List ℕ} {end start i size : ℕ} (k : Kept letters d named pool tape end start i size) where
  abbrev next : ℕ
  next = i + 1 + get_or tape (i * 6 + 5) 0

  pub kept-end : end ≤ i → inl size ≡ all_from letters d named pool tape end start
  unfolding both
  kept-end h =
      let same : i ≡ end = omega (arith, k.inside) in
      let none : records_from tape i end ≡ [] = rw same (records-none tape end) in
      sym (k.rest ∙ (rw (none, sized-none letters named pool d i, capped-zero size k.small)))

  module _ (on_tape : end * 6 ≤ length tape) (more : i < end) where
    all-step : all_from letters d named pool tape end i
        ≡ both (value_from letters d named pool tape end i) (sized_records letters named pool d next (drop (get_or tape (i * 6 + 5) 0) (records_from tape (i + 1) end)))
    all-step = rw (records-step tape end on_tape i more) (sized-records letters named pool d i (nth_record tape i) (records_from tape (i + 1) end))

    pub kept-refused : (e : Refusal) → inr e ≡ value_from letters d named pool tape end i → inr e ≡ all_from letters d named pool tape end start
    unfolding both
    kept-refused e q = sym (k.rest ∙ (rw (all-step, sym q)))

    module _ (n : ℕ) (value : inl n ≡ value_from letters d named pool tape end i) where
      pub turn_inside : next ≤ end
      turn_inside =
          let r = nth_record tape i in
          let there = sym (record-here tape end on_tape i more) in
          let own = first-given (sized_record letters d named pool i r (end - (i + 1))) _ n (value ∙ value-step letters d named pool tape end on_tape i more r there) in
          let j : Judged letters d named pool tape end i r own.0 = record { on_tape = on_tape; inside = more; there = there; passes = own.1 } in
          beneath-inside j

      pub kept-turn : Kept letters d named pool tape end start next (capped (size + n))
      kept-turn =
          record {
            inside = turn_inside;
            small = capped_le (size + n);
            rest =
                k.rest
                ∙ (rw (all-step, sym value, records-drop tape end on_tape (i + 1) (get_or tape (i * 6 + 5) 0) turn_inside)
                (both-both size n (all_from letters d named pool tape end next)));
          }

      -- by the record that was read
      pub kept-read : (r : Record) → inl r ≡ record_at tape i → (i + 1 + r.beneath ≤ end) × Kept letters d named pool tape end start (i + 1 + r.beneath) (capped (size + n))
      kept-read r there =
          let e = record-here tape end on_tape i more in
          let same : r ≡ nth_record tape i = cc in
          rw same (turn_inside, kept-turn)
