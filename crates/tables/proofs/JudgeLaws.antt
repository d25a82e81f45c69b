-- A tape that passes the writer's judgement means a forest that fits, with a record for each value.
use mathlib.Core.Path.{◌≡◌, refl, ap, ◌∙◌}
use mathlib.Core.Bool.{Bool, true, false, ◌&&◌, cond}
use Rattle.std.specs.Prelude.{None}
use mathlib.Core.List.{List, [], ◌∷◌, ◌++◌}
use Prim.Native.Nat.{ℕ, zero, suc, ◌+◌, ◌-◌, ◌^◌, ◌≤◌, ◌<◌}
use native.Mathlib.Omega.{arith}
use lib.ListN.{length, take, drop, length-append, length-take, length-drop}
use lib.Seq.{take_all}
use lib.Dec.{ltb, eqb, eqb→eq}
use Rattle.types.specs.Answer.{bad_tape, too_deep}
use Rattle.types.specs.Octets.{octets}
use Rattle.types.specs.Strings.{octets_of, judge_short_str}
use Rattle.types.specs.Judgement.{test, or_else}
use Rattle.types.specs.Records.{records}
use Rattle.types.specs.declared.Span.{Span}
use Rattle.types.proofs.Tests.{yes_leb, true-T}
use Rattle.types.proofs.Standing.{length-zero}
use Rattle.types.proofs.Chain.{test-none, or_else-none}
use Rattle.types.proofs.RoundTrip.{short-fit}
use Rattle.tables.specs.Letters as kind
use Rattle.tables.specs.Letters.{Leaf, number, boolean, decimal, Kind, leaf, container, unknown, Letters, kind_of, is_table}
use Rattle.tables.specs.Forest.{none, item, size, Words, PayloadMeaning, TableMeaning, LocatedTable, leaf_meaning, payload_meaning, meaning_of}
use Rattle.tables.specs.Tape.{Record, tape_records, unflatten, forest_of}
use Rattle.tables.specs.Writing.{leaf_octets, payload_octets, name_octets, body, is_known, has_level, in_pool, judge_name, judge_leaf, judge_payload, count_ok, judge_record, judge_with_fuel, judge_records, judge_table, judge_lone, judge_lone_value, tape_meaning}
use Rattle.tables.proofs.Fit.{FitLeaf, FitName, FitValue, FitForest}
use Rattle.tables.proofs.TapeLaws.{CountsFit, size-unflatten, size-meaning}

pub and-true : (a b : Bool) → (a && b) ≡ true → (a ≡ true) × (b ≡ true)
and-true true b e = (refl, e)
and-true false b e = let z : ◌≡◌ {A = ℕ} 0 1 = cc in absurd (omega arith)

pub eqb_is : (m n : ℕ) → eqb m n ≡ true → m ≡ n
eqb_is m n e = eqb→eq m n (true-T e)

-- every letter of the list is an octet
abbrev pub Octets : Letters → Type 0
Octets [] = Unit {0}
Octets (l ∷ ls) = (l.octet < 256) × Octets ls

pub letter-octet : (letters : Letters) (c : ℕ) → Octets letters → is_known (kind_of letters c) ≡ true → c < 256
unfolding kind_of
letter-octet [] c a e = let z : ◌≡◌ {A = ℕ} 0 1 = cc in absurd (omega arith)
letter-octet (l ∷ ls) c a e = go (letter-octet ls c a.1) (eqb c l.octet) refl e
  where
    go : (is_known (kind_of ls c) ≡ true → c < 256) → (b : Bool) → eqb c l.octet ≡ b → is_known (cond b l.value (kind_of ls c)) ≡ true → c < 256
    go ih true q h = omega (arith, eqb_is c l.octet q, a.0)
    go ih false q h = ih h

name-fit : (b : Bool) (pool : List ℕ) (i : ℕ) (n : Span) → judge_name b pool i n ≡ None → FitName b (octets_of pool n)
name-fit true pool i n e = short-fit (octets_of pool n) (test-none (in_pool pool n.start n.len) (bad_tape i) (judge_short_str (octets_of pool n)) e).1
name-fit false pool i n e =
    let a = test-none (eqb n.start 0 && eqb n.len 0) (bad_tape i) None e in
    let z : n.len ≡ 0 = eqb_is n.len 0 (and-true (eqb n.start 0) (eqb n.len 0) a.0).1 in
    ap (λ (k : ℕ). take k (drop n.start pool)) z

passes : (a b : Bool) (i : ℕ) → test (a && b) (bad_tape i) None ≡ None → (a ≡ true) × (b ≡ true)
passes a b i e = and-true a b (test-none (a && b) (bad_tape i) None e).0

leaf-fit : (l : Leaf) (pool : List ℕ) (i : ℕ) (x : Words) → judge_leaf l pool i x ≡ None → length (leaf_octets l (leaf_meaning l pool x)) < 256 ^ 4 + 4
    → FitLeaf l (leaf_meaning l pool x)
leaf-fit (number k) pool i x e h =
    let a = passes (ltb x.first (256 ^ k)) (eqb x.second 0) i e in
    (yes_leb (suc x.first) (256 ^ k) a.0, eqb_is x.second 0 a.1, refl)
leaf-fit boolean pool i x e h =
    let a = passes (ltb x.first 2) (eqb x.second 0) i e in
    (yes_leb (suc x.first) 2 a.0, eqb_is x.second 0 a.1, refl)
leaf-fit decimal pool i x e h =
    let a = passes (ltb x.first 256) (ltb x.second (256 ^ 4)) i e in
    (yes_leb (suc x.first) 256 a.0, yes_leb (suc x.second) (256 ^ 4) a.1, refl)
leaf-fit kind.long_str pool i x e h = (refl, refl, omega arith)
leaf-fit kind.short_str pool i x e h = (refl, refl, name-fit true pool i (record { start = x.first; len = x.second }) e)

pub count-le : (k : Kind) (n left : ℕ) → count_ok k n left ≡ true → n ≤ left
count-le (leaf l) n left e = omega (arith, eqb_is n 0 e)
count-le (container b) n left e = yes_leb n left e
count-le unknown n left e = let q : ◌≡◌ {A = ℕ} 0 1 = cc in absurd (omega arith)

no-records : (k : ℕ) → unflatten k [] ≡ none
unfolding unflatten
no-records zero = refl
no-records (suc k) = refl

module _ (letters : Letters) where
  value-fit : (k : Kind) (d : ℕ) (pool : List ℕ) (i : ℕ) (x : Words) (n left : ℕ) (u : TableMeaning) → is_known k ≡ true → has_level k d ≡ true → judge_payload k pool i x ≡ None
      → count_ok k n left ≡ true → (n ≡ 0 → u ≡ none) → (length (body letters (is_table k) u) < 256 ^ 4 → FitForest letters (is_table k) (d - 1) u)
      → length (payload_octets k (payload_meaning k pool x) (body letters (is_table k) u)) < 256 ^ 4 + 4
      → FitValue letters k d (payload_meaning k pool x) u (λ b' d'. FitForest letters b' d' u)
  value-fit (leaf l) d pool i x n left u ek eh ew ec z ih h = (leaf-fit l pool i x ew h, z (eqb_is n 0 ec))
  value-fit (container b) zero pool i x n left u ek eh ew ec z ih h = let q : ◌≡◌ {A = ℕ} 0 1 = cc in absurd (omega arith)
  value-fit (container b) (suc d) pool i x n left u ek eh ew ec z ih h =
      let a = passes (eqb x.first 0) (eqb x.second 0) i ew in
      let a0 = eqb_is x.first 0 a.0 in
      let a1 = eqb_is x.second 0 a.1 in
      let l : length (body letters b u) < 256 ^ 4 = omega arith in
      let e : suc d - 1 ≡ d = omega arith in
      (λ j. record { first = a0 j; second = a1 j; text = [] }, rw e at (ih l), l)
  value-fit unknown d pool i x n left u ek eh ew ec z ih h = let q : ◌≡◌ {A = ℕ} 0 1 = cc in absurd (omega arith)

  -- the judgement of a record, taken apart
  pub record Passed (d : ℕ) (b : Bool) (pool : List ℕ) (i : ℕ) (r : Record) (left : ℕ) : Type 0 where
    pub known : is_known (kind_of letters r.letter) ≡ true
    pub level : has_level (kind_of letters r.letter) d ≡ true
    pub name : judge_name b pool i r.name ≡ None
    pub payload : judge_payload (kind_of letters r.letter) pool i r.payload ≡ None
    pub count : count_ok (kind_of letters r.letter) r.beneath left ≡ true

  pub passed : (d : ℕ) (b : Bool) (pool : List ℕ) (i : ℕ) (r : Record) (left : ℕ) → judge_record letters d b pool i r left ≡ None → Passed d b pool i r left
  unfolding judge_record
  passed d b pool i r left e =
      let k = kind_of letters r.letter in
      let o5 = test (count_ok k r.beneath left) (bad_tape i) None in
      let o4 = or_else (judge_payload k pool i r.payload) o5 in
      let o3 = or_else (judge_name b pool i r.name) o4 in
      let a1 = test-none (is_known k) (bad_tape i) (test (has_level k d) too_deep o3) e in
      let a2 = test-none (has_level k d) too_deep o3 a1.1 in
      let a3 = or_else-none (judge_name b pool i r.name) o4 a2.1 in
      let a4 = or_else-none (judge_payload k pool i r.payload) o5 a3.1 in
      let a5 = test-none (count_ok k r.beneath left) (bad_tape i) None a4.1 in
      record { known = a1.0; level = a2.0; name = a3.0; payload = a4.0; count = a5.0 }

  -- and of those beneath and behind it
  pub judge-fuel-passed : (k d : ℕ) (b : Bool) (pool : List ℕ) (i : ℕ) (r : Record) (rs : List Record) → judge_with_fuel letters (suc k) d b pool i (r ∷ rs) ≡ None
      → Passed d b pool i r (length rs)
      × (judge_with_fuel letters k (d - 1) (is_table (kind_of letters r.letter)) pool (i + 1) (take r.beneath rs) ≡ None)
      × (judge_with_fuel letters k d b pool (i + 1 + r.beneath) (drop r.beneath rs) ≡ None)
  unfolding judge_with_fuel
  judge-fuel-passed k d b pool i r rs e =
      let o1 = judge_with_fuel letters k (d - 1) (is_table (kind_of letters r.letter)) pool (i + 1) (take r.beneath rs) in
      let o2 = judge_with_fuel letters k d b pool (i + 1 + r.beneath) (drop r.beneath rs) in
      let a = or_else-none (judge_record letters d b pool i r (length rs)) (or_else o1 o2) e in
      let c = or_else-none o1 o2 a.1 in
      (passed d b pool i r (length rs) a.0, c.0, c.1)

  unflatten-nil : (k : ℕ) (pool : List ℕ) (rs : List Record) (n : ℕ) → n ≡ 0 → meaning_of letters pool (unflatten k (take n rs)) ≡ none
  unfolding unflatten meaning_of
  unflatten-nil zero pool rs n e = refl
  unflatten-nil (suc k) pool rs n e = rw e

  pub judge-fit : (k d : ℕ) (b : Bool) (pool : List ℕ) (i : ℕ) (rs : List Record) → Octets letters → judge_with_fuel letters k d b pool i rs ≡ None
      → length (body letters b (meaning_of letters pool (unflatten k rs))) < 256 ^ 4 + 5 → FitForest letters b d (meaning_of letters pool (unflatten k rs))
  unfolding unflatten meaning_of body
  judge-fit zero d b pool i rs o e h = tt
  judge-fit (suc k) d b pool i [] o e h = tt
  judge-fit (suc k) d b pool i (r ∷ rs) o e h =
      let a = judge-fuel-passed k d b pool i r rs e in
      let sh = kind_of letters r.letter in
      let u = meaning_of letters pool (unflatten k (take r.beneath rs)) in
      let t = meaning_of letters pool (unflatten k (drop r.beneath rs)) in
      let x = payload_meaning sh pool r.payload in
      let N = name_octets b (octets_of pool r.name) in
      let P = payload_octets sh x (body letters (is_table sh) u) in
      let l1 = length-append N (octets 1 r.letter ++ (P ++ body letters b t)) in
      let l2 = length-append P (body letters b t) in (
        name-fit b pool i r.name a.0.name,
        letter-octet letters r.letter o a.0.known,
        value-fit sh d pool i r.payload r.beneath (length rs) u a.0.known a.0.level a.0.payload a.0.count (unflatten-nil k pool rs r.beneath)
            (λ l. judge-fit k (d - 1) (is_table sh) pool (i + 1) (take r.beneath rs) o a.1 (omega arith)) (omega arith),
        judge-fit k d b pool (i + 1 + r.beneath) (drop r.beneath rs) o a.2 (omega arith),
      )

  pub judge-counts : (k d : ℕ) (b : Bool) (pool : List ℕ) (i : ℕ) (rs : List Record) → judge_with_fuel letters k d b pool i rs ≡ None → CountsFit k rs
  judge-counts zero d b pool i rs e = tt
  judge-counts (suc k) d b pool i [] e = tt
  judge-counts (suc k) d b pool i (r ∷ rs) e =
      let a = judge-fuel-passed k d b pool i r rs e in (
        count-le (kind_of letters r.letter) r.beneath (length rs) a.0.count,
        judge-counts k (d - 1) (is_table (kind_of letters r.letter)) pool (i + 1) (take r.beneath rs) a.1,
        judge-counts k d b pool (i + 1 + r.beneath) (drop r.beneath rs) a.2,
      )

  -- A whole tape
  pub table-fit : (pool tape : List ℕ) → Octets letters → judge_table letters pool tape ≡ None → length (body letters true (tape_meaning letters pool tape)) < 256 ^ 4
      → FitForest letters true 15 (tape_meaning letters pool tape)
  unfolding judge_table judge_records tape_meaning
  table-fit pool tape o e h =
      let rs = records tape_records tape in
      judge-fit (length rs) 15 true pool 0 rs o (or_else-none (judge_with_fuel letters (length rs) 15 true pool 0 rs) _ e).0 (omega arith)

  -- has a record for each value
  pub table-size : (pool tape : List ℕ) → judge_table letters pool tape ≡ None → size (tape_meaning letters pool tape) ≡ length (records tape_records tape)
  unfolding judge_table judge_records tape_meaning
  table-size pool tape e =
      let rs = records tape_records tape in
      size-meaning letters pool (forest_of rs)
      ∙ size-unflatten (length rs) rs (omega arith) (judge-counts (length rs) 15 true pool 0 rs (or_else-none (judge_with_fuel letters (length rs) 15 true pool 0 rs) _ e).0)

  -- The judgement with no fuel
  pub judge-agree : (k j d : ℕ) (b : Bool) (pool : List ℕ) (i : ℕ) (rs : List Record) → length rs ≤ k → length rs ≤ j → judge_with_fuel letters k d b pool i rs ≡ judge_with_fuel letters j d b pool i rs
  unfolding judge_with_fuel
  judge-agree zero zero d b pool i rs hk hj = refl
  judge-agree zero (suc j) d b pool i [] hk hj = refl
  judge-agree zero (suc j) d b pool i (r ∷ rs) hk hj = absurd (omega arith)
  judge-agree (suc k) zero d b pool i [] hk hj = refl
  judge-agree (suc k) zero d b pool i (r ∷ rs) hk hj = absurd (omega arith)
  judge-agree (suc k) (suc j) d b pool i [] hk hj = refl
  judge-agree (suc k) (suc j) d b pool i (r ∷ rs) hk hj =
      let l = length-take r.beneath rs in
      let m = length-drop r.beneath rs in
      rw (
        judge-agree k j (d - 1) (is_table (kind_of letters r.letter)) pool (i + 1) (take r.beneath rs) (omega arith) (omega arith),
        judge-agree k j d b pool (i + 1 + r.beneath) (drop r.beneath rs) (omega arith) (omega arith),
      )

  pub judge-nil : (k d : ℕ) (b : Bool) (pool : List ℕ) (i : ℕ) → judge_with_fuel letters k d b pool i [] ≡ None
  unfolding judge_with_fuel
  judge-nil zero d b pool i = refl
  judge-nil (suc k) d b pool i = refl

  pub judge-end : (d : ℕ) (b : Bool) (pool : List ℕ) (i : ℕ) → judge_records letters d b pool i [] ≡ None
  unfolding judge_records judge_with_fuel
  judge-end d b pool i = refl

  pub judge-step : (d : ℕ) (b : Bool) (pool : List ℕ) (i : ℕ) (r : Record) (rs : List Record)
      → judge_records letters d b pool i (r ∷ rs)
      ≡ or_else (judge_record letters d b pool i r (length rs))
      (or_else (judge_records letters (d - 1) (is_table (kind_of letters r.letter)) pool (i + 1) (take r.beneath rs))
      (judge_records letters d b pool (i + 1 + r.beneath) (drop r.beneath rs)))
  unfolding judge_records judge_with_fuel
  judge-step d b pool i r rs =
      let l = length-take r.beneath rs in
      let m = length-drop r.beneath rs in
      rw (
        judge-agree (length rs) (length (take r.beneath rs)) (d - 1) (is_table (kind_of letters r.letter)) pool (i + 1) (take r.beneath rs) (omega arith) (omega arith),
        judge-agree (length rs) (length (drop r.beneath rs)) d b pool (i + 1 + r.beneath) (drop r.beneath rs) (omega arith) (omega arith),
      )

  -- A lone value that passes fits
  lone-judge-fuel : (pool : List ℕ) (r : Record) (rs : List Record) → judge_lone letters pool (r ∷ rs) ≡ None
      → (judge_with_fuel letters (suc (length rs)) 15 false pool 0 (r ∷ rs) ≡ None) × (r.beneath ≡ length rs)
  unfolding judge_with_fuel judge_records
  lone-judge-fuel pool r rs e =
      let k = is_table (kind_of letters r.letter) in
      let a = or_else-none (judge_record letters 15 false pool 0 r (length rs)) _ e in
      let b = test-none (eqb r.beneath (length rs)) (bad_tape 0) _ a.1 in
      let n = eqb_is r.beneath (length rs) b.0 in
      let t : take r.beneath rs ≡ rs = take_all r.beneath rs (omega arith) in
      let d : drop r.beneath rs ≡ [] = length-zero (drop r.beneath rs) (omega (arith, length-drop r.beneath rs)) in
      let x : judge_with_fuel letters (length rs) (15 - 1) k pool (0 + 1) (take r.beneath rs) ≡ None = rw t b.1 in
      let y : judge_with_fuel letters (length rs) 15 false pool (0 + 1 + r.beneath) (drop r.beneath rs) ≡ None = rw d (judge-nil (length rs) 15 false pool (0 + 1 + r.beneath)) in
      (rw (a.0, x, y), n)

  pub lone-fit : (pool tape : List ℕ) → Octets letters → judge_lone_value letters pool tape ≡ None → length (body letters false (tape_meaning letters pool tape)) < 256 ^ 4 + 5
      → FitForest letters false 15 (tape_meaning letters pool tape)
  unfolding judge_lone_value tape_meaning
  lone-fit pool tape o e h = go (records tape_records tape) (or_else-none (judge_lone letters pool (records tape_records tape)) _ e).0 h
    where
      go : (rs : List Record) → judge_lone letters pool rs ≡ None → length (body letters false (meaning_of letters pool (forest_of rs))) < 256 ^ 4 + 5
          → FitForest letters false 15 (meaning_of letters pool (forest_of rs))
      go [] e h = let z : ◌≡◌ {A = ℕ} 0 1 = cc in absurd (omega arith)
      go (r ∷ rs) e h = judge-fit (suc (length rs)) 15 false pool 0 (r ∷ rs) o (lone-judge-fuel pool r rs e).0 h

  -- its records pass as those of an array of one value do
  pub lone-passes : (pool tape : List ℕ) → judge_lone_value letters pool tape ≡ None → judge_records letters 15 false pool 0 (records tape_records tape) ≡ None
  unfolding judge_lone_value judge_records
  lone-passes pool tape e = go (records tape_records tape) (or_else-none (judge_lone letters pool (records tape_records tape)) _ e).0
    where
      go : (rs : List Record) → judge_lone letters pool rs ≡ None → judge_with_fuel letters (length rs) 15 false pool 0 rs ≡ None
      go [] e = let z : ◌≡◌ {A = ℕ} 0 1 = cc in absurd (omega arith)
      go (r ∷ rs) e = (lone-judge-fuel pool r rs e).0

  -- has a record for each value
  pub lone-size : (pool tape : List ℕ) → judge_lone_value letters pool tape ≡ None → size (tape_meaning letters pool tape) ≡ length (records tape_records tape)
  unfolding judge_lone_value tape_meaning
  lone-size pool tape e = go (records tape_records tape) (or_else-none (judge_lone letters pool (records tape_records tape)) _ e).0
    where
      go : (rs : List Record) → judge_lone letters pool rs ≡ None → size (meaning_of letters pool (forest_of rs)) ≡ length rs
      go [] e = let z : ◌≡◌ {A = ℕ} 0 1 = cc in absurd (omega arith)
      go (r ∷ rs) e =
          size-meaning letters pool (forest_of (r ∷ rs))
          ∙ size-unflatten (suc (length rs)) (r ∷ rs) (omega arith) (judge-counts (suc (length rs)) 15 false pool 0 (r ∷ rs) (lone-judge-fuel pool r rs e).0)

  -- and is one value with those beneath it
  pub record One (m : TableMeaning) : Type 0 where
    pub name : List ℕ
    pub letter : ℕ
    pub payload : PayloadMeaning
    pub beneath : TableMeaning
    pub same : m ≡ item name letter payload beneath none

  pub lone-one : (pool tape : List ℕ) → judge_lone_value letters pool tape ≡ None → One (tape_meaning letters pool tape)
  unfolding judge_lone_value tape_meaning unflatten meaning_of
  lone-one pool tape e = go (records tape_records tape) (or_else-none (judge_lone letters pool (records tape_records tape)) _ e).0
    where
      go : (rs : List Record) → judge_lone letters pool rs ≡ None → One (meaning_of letters pool (forest_of rs))
      go [] e = let z : ◌≡◌ {A = ℕ} 0 1 = cc in absurd (omega arith)
      go (r ∷ rs) e =
          let n = (lone-judge-fuel pool r rs e).1 in
          let d : drop r.beneath rs ≡ [] = length-zero (drop r.beneath rs) (omega (arith, length-drop r.beneath rs)) in
          record {
            name = octets_of pool r.name;
            letter = r.letter;
            payload = payload_meaning (kind_of letters r.letter) pool r.payload;
            beneath = meaning_of letters pool (unflatten (length rs) (take r.beneath rs));
            same = rw d (ap (λ (t : LocatedTable). item (octets_of pool r.name) r.letter (payload_meaning (kind_of letters r.letter) pool r.payload) (meaning_of letters pool (unflatten (length rs) (take r.beneath rs))) (meaning_of letters pool t)) (no-records (length rs)));
          }
