-- The sizes that the first pass counts, and its answer of some records from the answers of the first and of the rest.
use mathlib.Core.Path.{◌≡◌, refl, sym, ap, ◌∙◌}
use mathlib.Core.Logic.{◌⊎◌, inl, inr}
use mathlib.Core.Bool.{Bool, true, false, cond}
use Rattle.std.specs.Prelude.{Option, Some, None, min}
use mathlib.Core.List.{List, [], ◌∷◌, ◌++◌}
use Prim.Native.Nat.{ℕ, ◌+◌, ◌-◌, ◌≤◌, ◌<◌}
use native.Mathlib.Omega.{arith}
use lib.ListN.{length, take, drop, length-append, length-drop}
use lib.Seq.{length-take-le}
use lib.Dec.{leb}
use Rattle.utf8.specs.Utf8.{utf8}
use Rattle.types.specs.Answer.{Refusal, bad_tape, short_str_too_long, not_utf8}
use Rattle.types.specs.Octets.{octets}
use Rattle.types.specs.Strings.{octets_of, octets_in, short_str, judge_short_str}
use Rattle.types.specs.Judgement.{test, or_else}
use Rattle.types.specs.declared.Span.{Span}
use Rattle.types.proofs.Tests.{yes_leb}
use Rattle.types.proofs.Chain.{test-none}
use Rattle.types.proofs.NumberLaws.{length-octets}
use Rattle.tables.specs.Letters as kind
use Rattle.tables.specs.Letters.{Leaf, number, boolean, decimal, Kind, leaf, container, unknown, Letters, kind_of, is_table}
use Rattle.tables.specs.Forest.{Words, leaf_meaning, payload_meaning, meaning_of}
use Rattle.tables.specs.Tape.{Record, unflatten, forest_of}
use Rattle.tables.specs.Writing.{leaf_octets, payload_octets, name_octets, body, in_pool, judge_name, judge_leaf, judge_payload, count_ok, judge_record, judge_records}
use Rattle.tables.proofs.TapeLaws.{forest_step}
use Rattle.tables.proofs.JudgeLaws.{passed, judge-end, judge-step, eqb_is}
use Rattle.table_writer.specs.Sizes.{capped, sized, own_leaf, own_payload, own_size, records_octets, first_octets, judge_first, sized_first, sized_records}

-- Sizes up to the cap

pub capped_le : (n : ℕ) → capped n ≤ 0x200000000
unfolding capped
capped_le n = omega arith

pub capped-zero : (n : ℕ) → n ≤ 0x200000000 → capped (n + 0) ≡ n
unfolding capped
capped-zero n h = omega arith

pub capped-right : (m n : ℕ) → capped (m + capped n) ≡ capped (m + n)
unfolding capped
capped-right m n = omega arith

capped-both : (m n : ℕ) → capped (capped m + capped n) ≡ capped (m + n)
unfolding capped
capped-both m n = omega arith

-- Answers: the first refusal, or the sum of the sizes

unfoldable pub both : ℕ ⊎ Refusal → ℕ ⊎ Refusal → ℕ ⊎ Refusal
both (inl m) (inl n) = inl (capped (m + n))
both (inl m) (inr r) = inr r
both (inr r) b = inr r

pub sized-given : (o : Option Refusal) (n m : ℕ) → sized o n ≡ inl m → (o ≡ None) × (n ≡ m)
sized-given None n m e = (refl, cc)
sized-given (Some r) n m e = let z : ◌≡◌ {A = ℕ} 0 1 = cc in absurd (omega arith)

pub sized-refused : (o : Option Refusal) (n : ℕ) (r : Refusal) → inr r ≡ sized o n → o ≡ Some r
sized-refused None n r e = let z : ◌≡◌ {A = ℕ} 0 1 = cc in absurd (omega arith)
sized-refused (Some q) n r e = let same : q ≡ r = cc in ap Some same

-- one judgement and then another, where the sizes add up if the first passes
sized-both : (a b : Option Refusal) (m n k : ℕ) → (a ≡ None → k ≡ capped (m + n)) → sized (or_else a b) k ≡ both (sized a m) (sized b n)
unfolding both
sized-both None None m n k h = ap inl (h refl)
sized-both None (Some r) m n k h = refl
sized-both (Some r) b m n k h = refl

-- a size so far
pub both_zero : (o : Option Refusal) (n : ℕ) → both (inl 0) (sized o (capped n)) ≡ sized o (capped n)
unfolding both capped
both_zero None n = ap inl (omega arith)
both_zero (Some r) n = refl

pub both-both : (m n : ℕ) (a : ℕ ⊎ Refusal) → both (inl m) (both (inl n) a) ≡ both (inl (capped (m + n))) a
unfolding both capped
both-both m n (inl k) = ap inl (omega arith)
both-both m n (inr r) = refl

or_else-assoc : (a b c : Option Refusal) → or_else a (or_else b c) ≡ or_else (or_else a b) c
or_else-assoc None b c = refl
or_else-assoc (Some r) b c = refl

-- Spans

pub span-length : (pool : List ℕ) (n : Span) → n.start + n.len ≤ length pool → length (octets_of pool n) ≡ n.len
span-length pool n h = length-take-le n.len (drop n.start pool) (omega (arith, length-drop n.start pool))

-- the octets of one that is in the pool, and one that is not
found : (b : Bool) (xs o : List ℕ) → Some xs ≡ cond b (Some o) None → (b ≡ true) × (xs ≡ o)
found true xs o e = (refl, cc)
found false xs o e = let z : ◌≡◌ {A = ℕ} 0 1 = cc in absurd (omega arith)

missed : (b : Bool) (o : List ℕ) → None ≡ cond b (Some o) None → b ≡ false
missed true o e = let z : ◌≡◌ {A = ℕ} 0 1 = cc in absurd (omega arith)
missed false o e = refl

pub octets-there : (pool xs : List ℕ) (v : Span) → Some xs ≡ octets_in pool v → (in_pool pool v.start v.len ≡ true) × (xs ≡ octets_of pool v)
unfolding octets_in
octets-there pool xs v e = found (in_pool pool v.start v.len) xs (octets_of pool v) e

pub octets-missing : (pool : List ℕ) (v : Span) → None ≡ octets_in pool v → in_pool pool v.start v.len ≡ false
unfolding octets_in
octets-missing pool v e = missed (in_pool pool v.start v.len) (octets_of pool v) e

-- and how many they are
pub octets-count : (pool xs : List ℕ) (v : Span) → Some xs ≡ octets_in pool v → length xs ≡ v.len
octets-count pool xs v e =
    let o = octets-there pool xs v e in ap length o.1 ∙ span-length pool v (yes_leb (v.start + v.len) (length pool) o.0)

-- a long string
pub string-given : (pool xs : List ℕ) (i m start len : ℕ) → Some xs ≡ octets_in pool (record { start = start; len = len }) → m ≡ min (length xs) 0x1FFFFFFFC
    → inl (4 + m) ≡ sized (test (in_pool pool start len) (bad_tape i) None) (capped (4 + len))
unfolding capped
string-given pool xs i m start len e h =
    let v : Span = record { start = start; len = len } in
    rw (octets-there pool xs v e).0 (ap inl (omega (arith, octets-count pool xs v e)))

in-pool : (pool : List ℕ) (n : Span) (i : ℕ) (o : Option Refusal) → test (in_pool pool n.start n.len) (bad_tape i) o ≡ None → length (octets_of pool n) ≡ n.len
in-pool pool n i o e = span-length pool n (yes_leb (n.start + n.len) (length pool) (test-none (in_pool pool n.start n.len) (bad_tape i) o e).0)

pub name-length : (named : Bool) (pool : List ℕ) (i : ℕ) (n : Span) → judge_name named pool i n ≡ None → length (name_octets named (octets_of pool n)) ≤ 256
name-length true pool i n e =
    let a = test-none (in_pool pool n.start n.len) (bad_tape i) (judge_short_str (octets_of pool n)) e in
    let l = length (octets_of pool n) in
    let b = test-none (leb l 255) short_str_too_long (test (utf8 (octets_of pool n)) not_utf8 None) a.1 in
    omega (arith, yes_leb l 255 b.0)
name-length false pool i n e = omega arith

-- Names of a table's entries

module _ (pool : List ℕ) (i : ℕ) (n : Span) where
  abbrev sized_name : Bool → ℕ ⊎ Refusal
  sized_name named = sized (judge_name named pool i n) (length (name_octets named (octets_of pool n)))

  module _ (xs : List ℕ) (there : Some xs ≡ octets_in pool n) where
    inside : in_pool pool n.start n.len ≡ true
    inside = (octets-there pool xs n there).0

    same : xs ≡ octets_of pool n
    same = (octets-there pool xs n there).1

    judged : {o : Option Refusal} → o ≡ judge_short_str xs → sized o (length (short_str (octets_of pool n))) ≡ sized_name true
    judged {o} e =
        ap (λ (o : Option Refusal). sized o (length (short_str (octets_of pool n)))) (e ∙ ap judge_short_str same)
        ∙ sym (ap (λ (b : Bool). sized (test b (bad_tape i) (judge_short_str (octets_of pool n))) (length (short_str (octets_of pool n)))) inside)

    pub name-refused : {r : Refusal} → Some r ≡ judge_short_str xs → inr r ≡ sized_name true
    name-refused e = judged e

    pub name-given : None ≡ judge_short_str xs → inl (1 + length xs) ≡ sized_name true
    name-given e = let l : 1 + length xs ≡ length (short_str (octets_of pool n)) = omega (arith, ap length same) in ap inl l ∙ judged e

-- Octets of records that pass

leaf-length : (l : Leaf) (pool : List ℕ) (i : ℕ) (x : Words) → judge_leaf l pool i x ≡ None → length (leaf_octets l (leaf_meaning l pool x)) ≡ own_leaf l x.second
leaf-length (number k) pool i x e = length-octets k x.first
leaf-length boolean pool i x e = refl
leaf-length decimal pool i x e = refl
leaf-length kind.long_str pool i x e = omega (arith, in-pool pool (record { start = x.first; len = x.second }) i None e)
leaf-length kind.short_str pool i x e =
    let n : Span = record { start = x.first; len = x.second } in
    omega (arith, in-pool pool n i (judge_short_str (octets_of pool n)) e)

-- a leaf has nothing beneath it
payload-length : (k : Kind) (pool : List ℕ) (i : ℕ) (x : Words) (n left : ℕ) (u : List ℕ) → judge_payload k pool i x ≡ None → count_ok k n left ≡ true → (n ≡ 0 → u ≡ [])
    → length (payload_octets k (payload_meaning k pool x) u) ≡ own_payload k x.second + length u
payload-length (leaf l) pool i x n left u e c z = rw (z (eqb_is n 0 c)) (leaf-length l pool i x e ∙ omega arith)
payload-length (container named) pool i x n left u e c z = omega arith
payload-length unknown pool i x n left u e c z = let q : ◌≡◌ {A = ℕ} 0 1 = cc in absurd (omega arith)

-- no records, no octets
no-octets : (letters : Letters) (named : Bool) (pool : List ℕ) (n : ℕ) (rs : List Record) → n ≡ 0 → records_octets letters named pool (take n rs) ≡ []
unfolding records_octets body meaning_of unflatten
no-octets letters named pool n rs e = rw e

module _ (letters : Letters) (named : Bool) (pool : List ℕ) where
  -- the first with those beneath it, and the rest
  records-length : (r : Record) (rs : List Record)
      → length (records_octets letters named pool (r ∷ rs)) ≡ length (first_octets letters named pool (r ∷ rs)) + length (records_octets letters named pool (drop r.beneath rs))
  unfolding records_octets first_octets body meaning_of
  records-length r rs =
      let k = kind_of letters r.letter in
      let N = name_octets named (octets_of pool r.name) in
      let P = payload_octets k (payload_meaning k pool r.payload) (body letters (is_table k) (meaning_of letters pool (forest_of (take r.beneath rs)))) in
      let T = body letters named (meaning_of letters pool (forest_of (drop r.beneath rs))) in
      rw (forest_step r rs)
      (omega (arith, length-append N (octets 1 r.letter ++ (P ++ T)), length-append P T, length-append N (octets 1 r.letter ++ (P ++ [])), length-append P []))

  -- its own octets, and those beneath
  first-length : (d i left : ℕ) (r : Record) (rs : List Record) → judge_record letters d named pool i r left ≡ None
      → capped (length (first_octets letters named pool (r ∷ rs)))
      ≡ capped (own_size letters named pool r + capped (length (records_octets letters (is_table (kind_of letters r.letter)) pool (take r.beneath rs))))
  unfolding records_octets first_octets body meaning_of own_size
  first-length d i left r rs e =
      let p = passed letters d named pool i r left e in
      let k = kind_of letters r.letter in
      let N = name_octets named (octets_of pool r.name) in
      let U = records_octets letters (is_table k) pool (take r.beneath rs) in
      let P = payload_octets k (payload_meaning k pool r.payload) U in
      let own = length N + 1 + own_payload k r.payload.second in
      let l = payload-length k pool i r.payload r.beneath left U p.payload p.count (λ z. no-octets letters (is_table k) pool r.beneath rs z) in
      let s : length (first_octets letters named pool (r ∷ rs)) ≡ own + length U = omega (arith, length-append N (octets 1 r.letter ++ (P ++ [])), length-append P [], l) in
      ap capped s ∙ sym (capped-both own (length U))

  -- Answers of records

  pub sized-first : (d i : ℕ) (r : Record) (rs : List Record)
      → sized_first letters named pool d i (r ∷ rs)
      ≡ both (sized (judge_record letters d named pool i r (length rs)) (own_size letters named pool r))
      (sized_records letters (is_table (kind_of letters r.letter)) pool (d - 1) (i + 1) (take r.beneath rs))
  unfolding judge_first
  sized-first d i r rs = sized-both (judge_record letters d named pool i r (length rs)) _ _ _ _ (first-length d i (length rs) r rs)

  pub sized-records : (d i : ℕ) (r : Record) (rs : List Record)
      → sized_records letters named pool d i (r ∷ rs)
      ≡ both (sized_first letters named pool d i (r ∷ rs)) (sized_records letters named pool d (i + 1 + r.beneath) (drop r.beneath rs))
  unfolding judge_first
  sized-records d i r rs =
      let a = judge_record letters d named pool i r (length rs) in
      let b = judge_records letters (d - 1) (is_table (kind_of letters r.letter)) pool (i + 1) (take r.beneath rs) in
      let c = judge_records letters d named pool (i + 1 + r.beneath) (drop r.beneath rs) in
      let first = length (first_octets letters named pool (r ∷ rs)) in
      let rest = length (records_octets letters named pool (drop r.beneath rs)) in
      rw (judge-step letters d named pool i r rs, or_else-assoc a b c)
      (sized-both (or_else a b) c (capped first) (capped rest) (capped (length (records_octets letters named pool (r ∷ rs)))) (λ e. ap capped (records-length r rs) ∙ sym (capped-both first rest)))

  pub sized-none : (d i : ℕ) → sized_records letters named pool d i [] ≡ inl 0
  unfolding records_octets body meaning_of unflatten capped
  sized-none d i = rw (judge-end letters d named pool i)
