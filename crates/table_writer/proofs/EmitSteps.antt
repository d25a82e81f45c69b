-- The steps of the second pass: a record with those beneath it, and the records of a table or an array one by one.
use mathlib.Core.Path.{◌≡◌, refl, sym, ap, ◌∙◌}
use mathlib.Core.Bool.{Bool, true, false, ◌&&◌}
use mathlib.Core.Logic.{inl}
use mathlib.Core.List.{List, [], ◌∷◌, ◌++◌, append_assoc, append-nil}
use Rattle.std.specs.Prelude.{Option, Some, None, IsSome, Result, Ok, Err, IsOk}
use Prim.Native.Nat.{ℕ, ◌+◌, ◌-◌, ◌*◌, ◌^◌, ◌≤◌, ◌<◌}
use native.Mathlib.Omega.{arith}
use lib.ListN.{length, take, drop, length-append}
use lib.Dec.{ltb, eqb}
use Rattle.types.specs.Answer.{Refusal, bad_tape}
use Rattle.types.specs.Octets.{octets}
use Rattle.types.specs.Strings.{octets_of, long_str, judge_short_str}
use Rattle.types.specs.Judgement.{or_else, test}
use Rattle.types.specs.declared.Span.{Span}
use Rattle.types.specs.declared.WireError.{WireError}
use Rattle.types.proofs.Chain.{or_else-none}
use Rattle.types.proofs.Tests.{yes_leb}
use Rattle.types.specs.AnswerOf.{or_refusal}
use Rattle.tables.specs.Letters as kind
use Rattle.tables.specs.Letters.{number, boolean, decimal, leaf, container, unknown, Letters, kind_of, is_table}
use Rattle.tables.specs.Forest.{Words, payload_meaning, meaning_of}
use Rattle.tables.specs.Tape.{Record, record_at, unflatten}
use Rattle.tables.specs.Writing.{payload_octets, name_octets, body, in_pool, judge_name, judge_payload, judge_record, judge_records}
use Rattle.tables.specs.AnswerOf.{answer_of_kind, kind_or_unknown, record_of}
use Rattle.tables.specs.declared.Kind.{Kind}
use Rattle.tables.specs.declared.Kind.TheVariants as code
use Rattle.tables.specs.declared.TapeRecord.{TapeRecord}
use Rattle.tables.proofs.TapeLaws.{forest_step}
use Rattle.tables.proofs.JudgeLaws.{Passed, passed, judge-step, count-le, letter-octet, Octets}
use Rattle.table_writer.specs.Sizes.{records_from, records_octets, first_octets, judge_first}
use Rattle.table_writer.specs.Emitting.{Emitted, Ready, leaf_payload}
use Rattle.table_writer.proofs.RecordLaws.{nth_record, records-none, length-records, record-here, records-step, records-take, records-drop}
use Rattle.table_writer.proofs.EmitLaws.{none_emitted, emitted-length, emitted-after, long-before, leaf-payload}

-- the number of a record stands only in its refusals
test-anywhere : (b : Bool) (i : ℕ) (o : Option Refusal) → test b (bad_tape i) o ≡ None → test b (bad_tape 0) o ≡ None
test-anywhere true i o e = e
test-anywhere false i o e = let z : ◌≡◌ {A = ℕ} 0 1 = cc in absurd (omega arith)

pub name-anywhere : (named : Bool) (pool : List ℕ) (i : ℕ) (n : Span) → judge_name named pool i n ≡ None → judge_name named pool 0 n ≡ None
name-anywhere true pool i n e = test-anywhere (in_pool pool n.start n.len) i (judge_short_str (octets_of pool n)) e
name-anywhere false pool i n e = test-anywhere (eqb n.start 0 && eqb n.len 0) i None e

pub payload-anywhere : (k : kind.Kind) (pool : List ℕ) (i : ℕ) (x : Words) → judge_payload k pool i x ≡ None → judge_payload k pool 0 x ≡ None
payload-anywhere (leaf (number k)) pool i x e = test-anywhere (ltb x.first (256 ^ k) && eqb x.second 0) i None e
payload-anywhere (leaf boolean) pool i x e = test-anywhere (ltb x.first 2 && eqb x.second 0) i None e
payload-anywhere (leaf decimal) pool i x e = test-anywhere (ltb x.first 256 && ltb x.second (256 ^ 4)) i None e
payload-anywhere (leaf kind.long_str) pool i x e = test-anywhere (in_pool pool x.first x.second) i None e
payload-anywhere (leaf kind.short_str) pool i x e = name-anywhere true pool i (record { start = x.first; len = x.second }) e
payload-anywhere (container named) pool i x e = test-anywhere (eqb x.first 0 && eqb x.second 0) i None e
payload-anywhere unknown pool i x e = let z : ◌≡◌ {A = ℕ} 0 1 = cc in absurd (omega arith)

-- the record that is read
pub is_there : (tape : List ℕ) (i end : ℕ) (q : Result TapeRecord WireError) → i + 1 ≤ end → end * 6 ≤ length tape → or_refusal record_of q ≡ record_at tape i → IsOk q
is_there tape i end (Ok r) h o e = refl
is_there tape i end (Err x) h o e = let a = e ∙ record-here tape end o i (omega arith) in let z : ◌≡◌ {A = ℕ} 0 1 = cc in absurd (omega arith)

pub was_read : (tape : List ℕ) (i end : ℕ) (r : Record) → i + 1 ≤ end → end * 6 ≤ length tape → inl r ≡ record_at tape i → r ≡ nth_record tape i
was_read tape i end r h o e = let a = e ∙ record-here tape end o i (omega arith) in cc

-- the records beneath record i
abbrev pub beneath_of : List ℕ → ℕ → Record → List Record
beneath_of tape i r = records_from tape (i + 1) (i + 1 + r.beneath)

-- the octets of a record's name, and of its payload where the records us stand beneath
abbrev pub name_of : Bool → List ℕ → Record → List ℕ
name_of named pool r = name_octets named (octets_of pool r.name)

abbrev pub payload_of : Letters → List ℕ → Record → List Record → List ℕ
payload_of letters pool r us =
    payload_octets (kind_of letters r.letter) (payload_meaning (kind_of letters r.letter) pool r.payload)
    (records_octets letters (is_table (kind_of letters r.letter)) pool us)

module _ (letters : Letters) (named : Bool) (pool : List ℕ) where
  -- the octets of a record with those beneath it, and of records
  pub first-octets : (r : Record) (rs : List Record)
      → first_octets letters named pool (r ∷ rs) ≡ name_of named pool r ++ octets 1 r.letter ++ payload_of letters pool r (take r.beneath rs)
  unfolding first_octets records_octets body meaning_of
  first-octets r rs = simp (append-nil, append_assoc)

  pub octets-step : (r : Record) (rs : List Record)
      → records_octets letters named pool (r ∷ rs) ≡ first_octets letters named pool (r ∷ rs) ++ records_octets letters named pool (drop r.beneath rs)
  unfolding first_octets records_octets body meaning_of
  octets-step r rs = rw (forest_step r rs) (simp (append-nil, append_assoc))

  pub octets-none : records_octets letters named pool [] ≡ []
  unfolding records_octets body meaning_of unflatten
  octets-none = refl

  -- the judgement of a record with those beneath it, taken apart
  first-passed : (d i : ℕ) (r : Record) (rs : List Record) → judge_first letters named pool d i (r ∷ rs) ≡ None
      → Passed letters d named pool i r (length rs) × (judge_records letters (d - 1) (is_table (kind_of letters r.letter)) pool (i + 1) (take r.beneath rs) ≡ None)
  unfolding judge_first
  first-passed d i r rs e =
      let a = or_else-none (judge_record letters d named pool i r (length rs)) (judge_records letters (d - 1) (is_table (kind_of letters r.letter)) pool (i + 1) (take r.beneath rs)) e in
      (passed letters d named pool i r (length rs) a.0, a.1)

  -- and of records
  all-passed : (d i : ℕ) (r : Record) (rs : List Record) → judge_records letters d named pool i (r ∷ rs) ≡ None
      → (judge_first letters named pool d i (r ∷ rs) ≡ None) × (judge_records letters d named pool (i + 1 + r.beneath) (drop r.beneath rs) ≡ None)
  unfolding judge_first
  all-passed d i r rs e =
      let o = judge_records letters (d - 1) (is_table (kind_of letters r.letter)) pool (i + 1) (take r.beneath rs) in
      let p = judge_records letters d named pool (i + 1 + r.beneath) (drop r.beneath rs) in
      let a = or_else-none (judge_record letters d named pool i r (length rs)) (or_else o p) (sym (judge-step letters d named pool i r rs) ∙ e) in
      let b = or_else-none o p a.1 in
      (rw (a.0, b.0), b.1)

  -- a record that is to be written, with those beneath it
  pub record Here (levels i end : ℕ) (tape : List ℕ) (at : ℕ) (out : List ℕ) (r : Record) : Type 0 where
    pub judged : Passed letters levels named pool i r (length (records_from tape (i + 1) end))
    pub inside : i + 1 + r.beneath ≤ end
    pub beneath : judge_records letters (levels - 1) (is_table (kind_of letters r.letter)) pool (i + 1) (beneath_of tape i r) ≡ None
    pub whole : first_octets letters named pool (records_from tape i end) ≡ name_of named pool r ++ octets 1 r.letter ++ payload_of letters pool r (beneath_of tape i r)
    pub lengths : length (name_of named pool r) + 1 + length (payload_of letters pool r (beneath_of tape i r)) ≤ 4294967295 + 5
    pub space : at + (length (name_of named pool r) + 1 + length (payload_of letters pool r (beneath_of tape i r))) ≤ length out
    pub on_tape : end * 6 ≤ length tape

  pub here : (levels i end : ℕ) (tape : List ℕ) (at : ℕ) (out : List ℕ) (r : Record) → r ≡ nth_record tape i → i + 1 ≤ end
      → Ready (judge_first letters named pool levels i (records_from tape i end)) (first_octets letters named pool (records_from tape i end)) at out end tape
      → Here levels i end tape at out r
  here levels i end tape at out r e h y =
      let rs = records_from tape (i + 1) end in
      let step : records_from tape i end ≡ r ∷ rs = records-step tape end y.on_tape i (omega arith) ∙ ap (λ (q : Record). q ∷ rs) (sym e) in
      let p = first-passed levels i r rs (ap (judge_first letters named pool levels i) (sym step) ∙ y.passes) in
      let inside : i + 1 + r.beneath ≤ end = omega (arith, count-le (kind_of letters r.letter) r.beneath (length rs) p.0.count, length-records tape end y.on_tape (i + 1)) in
      let cut : take r.beneath rs ≡ beneath_of tape i r = records-take tape end y.on_tape (i + 1) r.beneath inside in
      let us = beneath_of tape i r in
      let whole : first_octets letters named pool (records_from tape i end) ≡ name_of named pool r ++ octets 1 r.letter ++ payload_of letters pool r us =
      ap (first_octets letters named pool) step ∙ first-octets r rs ∙ ap (λ (l : List Record). name_of named pool r ++ octets 1 r.letter ++ payload_of letters pool r l) cut in
      let long : length (first_octets letters named pool (records_from tape i end)) ≡ length (name_of named pool r) + 1 + length (payload_of letters pool r us) =
      ap length whole ∙ length-append (name_of named pool r ++ octets 1 r.letter) (payload_of letters pool r us) ∙ ap (λ (n : ℕ). n + length (payload_of letters pool r us)) (length-append (name_of named pool r) (octets 1 r.letter)) in
      record {
        judged = p.0;
        inside = inside;
        beneath = ap (judge_records letters (levels - 1) (is_table (kind_of letters r.letter)) pool (i + 1)) (sym cut) ∙ p.1;
        whole = whole;
        lengths = omega (arith, y.lengths);
        space = omega (arith, y.space);
        on_tape = y.on_tape;
      }

-- a payload that is still to be written
pub record Left (xs whole : List ℕ) (at : ℕ) (out : List ℕ) (next : ℕ) (mid : List ℕ) : Type 0 where
  pub lengths : length xs ≤ 4294967295 + 4
  pub space : next + length xs ≤ length mid
  pub rest : {after : List ℕ} {n : ℕ} → Emitted xs next mid after n → Emitted whole at out after n

-- the payload of a table or an array: its records behind the place of the length, and then the length
pub record Body (letters : Letters) (pool : List ℕ) (levels i : ℕ) (tape : List ℕ) (r : Record) (inner : Bool) (whole : List ℕ) (at : ℕ) (out : List ℕ) (next : ℕ) (mid : List ℕ) : Type 0 where
  pub level : 0 < levels
  pub short : length (records_octets letters inner pool (beneath_of tape i r)) ≤ 4294967295
  pub space : next + 4 + length (records_octets letters inner pool (beneath_of tape i r)) ≤ length mid
  pub ready : Ready (judge_records letters (levels - 1) inner pool (i + 1) (beneath_of tape i r)) (records_octets letters inner pool (beneath_of tape i r)) (next + 4) mid (i + 1 + r.beneath) tape
  pub rest : {after : List ℕ} {n : ℕ} → Emitted (long_str (records_octets letters inner pool (beneath_of tape i r))) next mid after n → Emitted whole at out after n

module _ {letters : Letters} {pool : List ℕ} {levels i : ℕ} {tape : List ℕ} {r : Record} {inner : Bool} {whole : List ℕ} {at : ℕ} {out : List ℕ} {next : ℕ} {mid : List ℕ}
    (b : Body letters pool levels i tape r inner whole at out next mid) {low : List ℕ} {last : ℕ} (d : Emitted (records_octets letters inner pool (beneath_of tape i r)) (next + 4) mid low last) where
  pub body-count : (next + 4 ≤ last) × (last - (next + 4) ≤ 4294967295)
  body-count = (omega (arith, d.next), omega (arith, d.next, b.short))

  pub body-emitted : {high : List ℕ} {m : ℕ} → Emitted (octets 4 (last - (next + 4))) next low high m → Emitted whole at out high last
  body-emitted q = b.rest (long-before (last - (next + 4)) (omega (arith, d.next)) b.space d q)

module _ {letters : Letters} {named : Bool} {pool : List ℕ} {levels i end : ℕ} {tape : List ℕ} {at : ℕ} {out : List ℕ} {r : Record} (x : Here letters named pool levels i end tape at out r) where
  pub letter-small : Octets letters → r.letter < 256
  letter-small o = letter-octet letters r.letter o x.judged.known

  -- each letter that was judged is known
  pub has_kind : (q : Option Kind) → kind_or_unknown q ≡ kind_of letters r.letter → IsSome q
  has_kind (Some k) e = refl
  has_kind None e = let h = rw (← e) at x.judged.known in let z : ◌≡◌ {A = ℕ} 0 1 = cc in absurd (omega arith)

  pub name-passes : judge_name named pool 0 r.name ≡ None
  name-passes = name-anywhere named pool i r.name x.judged.name

  pub name-space : at + length (name_of named pool r) ≤ length out
  name-space = omega (arith, x.space)

  module _ {b : List ℕ} {m : ℕ} (p : Emitted (name_of named pool r) at out b m) where
    pub letter-space : m + 1 ≤ length b
    letter-space = omega (arith, x.space, p.next, emitted-length name-space p)

    -- the name and the letter are written
    pub left : {mid : List ℕ} {next : ℕ} → Emitted (octets 1 r.letter) m b mid next
        → Left (payload_of letters pool r (beneath_of tape i r)) (first_octets letters named pool (records_from tape i end)) at out next mid
    left {mid} {next} q =
        let head : Emitted (name_of named pool r ++ octets 1 r.letter) at out mid next = emitted-after name-space p q in
        let fits : at + length (name_of named pool r ++ octets 1 r.letter) ≤ length out = omega (arith, x.space, length-append (name_of named pool r) (octets 1 r.letter)) in
        record {
          lengths = omega (arith, x.lengths);
          space = omega (arith, x.space, head.next, emitted-length fits head, length-append (name_of named pool r) (octets 1 r.letter));
          rest = λ d. rw x.whole (emitted-after fits head d);
        }

  module _ {whole : List ℕ} {next : ℕ} {mid : List ℕ} (l : Left (payload_of letters pool r (beneath_of tape i r)) whole at out next mid) where
    pub body_of : (inner : Bool) → kind_of letters r.letter ≡ container inner → Body letters pool levels i tape r inner whole at out next mid
    body_of inner e =
        let ys = records_octets letters inner pool (beneath_of tape i r) in
        let all : payload_of letters pool r (beneath_of tape i r) ≡ long_str ys = rw e in
        let long : length (payload_of letters pool r (beneath_of tape i r)) ≡ 4 + length ys = ap length all ∙ length-append (octets 4 (length ys)) ys in
        record {
          level = yes_leb 1 levels (rw e at x.judged.level);
          short = omega (arith, l.lengths);
          space = omega (arith, l.space);
          ready =
              record {
                passes = rw e at x.beneath;
                lengths = omega (arith, l.lengths);
                space = omega (arith, l.space);
                on_tape = omega (arith, x.inside, x.on_tape);
              };
          rest = λ d. l.rest (rw all d);
        }

    -- a leaf
    module _ (k : Kind) (e : answer_of_kind k ≡ kind_of letters r.letter) (o : (named : Bool) → k ≡ code.Container named → ⊥) where
      leaf-is : payload_of letters pool r (beneath_of tape i r) ≡ leaf_payload (answer_of_kind k) pool r.payload
      leaf-is =
          let us = beneath_of tape i r in
          ap (λ (h : kind.Kind). payload_octets h (payload_meaning h pool r.payload) (records_octets letters (is_table h) pool us)) (sym e)
          ∙ leaf-payload k pool r.payload (records_octets letters (is_table (answer_of_kind k)) pool us) o

      pub leaf-ready : (judge_payload (answer_of_kind k) pool 0 r.payload ≡ None) × (length (leaf_payload (answer_of_kind k) pool r.payload) ≤ 4294967295 + 4)
          × (next + length (leaf_payload (answer_of_kind k) pool r.payload) ≤ length mid)
      leaf-ready =
          (rw e (payload-anywhere (kind_of letters r.letter) pool i r.payload x.judged.payload), omega (arith, l.lengths, ap length leaf-is), omega (arith, l.space, ap length leaf-is))

      pub leaf-emitted : {after : List ℕ} {n : ℕ} → Emitted (leaf_payload (answer_of_kind k) pool r.payload) next mid after n → Emitted whole at out after n
      leaf-emitted d = l.rest (rw leaf-is d)

-- the loop over records: what is left to write, written, writes the whole
pub record Going (letters : Letters) (named : Bool) (pool : List ℕ) (levels : ℕ) (tape : List ℕ) (first end : ℕ) (out₀ : List ℕ) (at : ℕ) (out : List ℕ) (now i : ℕ) : Type 0 where
  pub le : i ≤ end
  pub ready : Ready (judge_records letters levels named pool i (records_from tape i end)) (records_octets letters named pool (records_from tape i end)) now out end tape
  pub rest : {after : List ℕ} {n : ℕ} → Emitted (records_octets letters named pool (records_from tape i end)) now out after n → Emitted (records_octets letters named pool (records_from tape first end)) at out₀ after n
  pub same : length out ≡ length out₀

module _ {letters : Letters} {named : Bool} {pool : List ℕ} {levels : ℕ} {tape : List ℕ} {first end : ℕ} {out₀ : List ℕ} {at : ℕ} {out : List ℕ} {now i : ℕ} (go : Going letters named pool levels tape first end out₀ at out now i) where
  pub at-end : end ≤ i → Emitted (records_octets letters named pool (records_from tape first end)) at out₀ out now
  at-end h =
      let e : i ≡ end = omega (arith, go.le) in
      let no : records_octets letters named pool (records_from tape i end) ≡ [] =
      ap (λ (j : ℕ). records_octets letters named pool (records_from tape j end)) e ∙ ap (records_octets letters named pool) (records-none tape end) ∙ octets-none letters named pool in
      go.rest (rw no (none_emitted now out))

  module _ (more : i < end) where
    step-passed : (judge_first letters named pool levels i (records_from tape i end) ≡ None)
        × (judge_records letters levels named pool (i + 1 + (nth_record tape i).beneath) (drop (nth_record tape i).beneath (records_from tape (i + 1) end)) ≡ None)
    step-passed =
        let step = records-step tape end go.ready.on_tape i more in
        rw step (all-passed letters named pool levels i (nth_record tape i) (records_from tape (i + 1) end) (rw step at go.ready.passes))

    step-octets : records_octets letters named pool (records_from tape i end)
        ≡ first_octets letters named pool (records_from tape i end) ++ records_octets letters named pool (drop (nth_record tape i).beneath (records_from tape (i + 1) end))
    step-octets =
        let step = records-step tape end go.ready.on_tape i more in
        rw step (octets-step letters named pool (nth_record tape i) (records_from tape (i + 1) end))

    first-shorter : length (first_octets letters named pool (records_from tape i end)) ≤ length (records_octets letters named pool (records_from tape i end))
    first-shorter =
        let rest = records_octets letters named pool (drop (nth_record tape i).beneath (records_from tape (i + 1) end)) in
        omega (arith, ap length step-octets, length-append (first_octets letters named pool (records_from tape i end)) rest)

    pub turn-ready : Ready (judge_first letters named pool levels i (records_from tape i end)) (first_octets letters named pool (records_from tape i end)) now out end tape
    turn-ready =
        record {
          passes = step-passed.0;
          lengths = omega (arith, go.ready.lengths, first-shorter);
          space = omega (arith, go.ready.space, first-shorter);
          on_tape = go.ready.on_tape;
        }

    pub turn_inside : i + 1 + (nth_record tape i).beneath ≤ end
    turn_inside = (here letters named pool levels i end tape now out (nth_record tape i) refl (omega arith) turn-ready).inside

    pub turn-again : {out' : List ℕ} {now' : ℕ} → Emitted (first_octets letters named pool (records_from tape i end)) now out out' now'
        → Going letters named pool levels tape first end out₀ at out' now' (i + 1 + (nth_record tape i).beneath)
    turn-again {out'} {now'} d =
        let j = i + 1 + (nth_record tape i).beneath in
        let xs = first_octets letters named pool (records_from tape i end) in
        let ys = records_octets letters named pool (records_from tape j end) in
        let cut : drop (nth_record tape i).beneath (records_from tape (i + 1) end) ≡ records_from tape j end = records-drop tape end go.ready.on_tape (i + 1) (nth_record tape i).beneath turn_inside in
        let both : records_octets letters named pool (records_from tape i end) ≡ xs ++ ys = rw cut at step-octets in
        let long : length (records_octets letters named pool (records_from tape i end)) ≡ length xs + length ys = ap length both ∙ length-append xs ys in
        let same : length out' ≡ length out = emitted-length turn-ready.space d in
        record {
          le = turn_inside;
          ready =
              record {
                passes = rw cut at step-passed.1;
                lengths = omega (arith, go.ready.lengths);
                space = omega (arith, go.ready.space, d.next);
                on_tape = go.ready.on_tape;
              };
          rest = λ q. go.rest (rw both (emitted-after turn-ready.space d q));
          same = same ∙ go.same;
        }

    -- by the record that was read
    pub turn-read : (r : Record) → inl r ≡ record_at tape i → {out' : List ℕ} {now' : ℕ} → Emitted (first_octets letters named pool (records_from tape i end)) now out out' now'
        → (i + 1 + r.beneath ≤ end) × Going letters named pool levels tape first end out₀ at out' now' (i + 1 + r.beneath)
    turn-read r there d = let same = was_read tape i end r (omega (arith, more)) go.ready.on_tape there in rw same (turn_inside, turn-again d)
