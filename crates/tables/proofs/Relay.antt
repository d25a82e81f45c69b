-- What a reader puts on the tape passes a writer's judgement over the same octets.
use mathlib.Core.Path.{◌≡◌, refl, sym, ap, ◌∙◌, subst}
use mathlib.Core.Bool.{Bool, true, false}
use Rattle.std.specs.Prelude.{None}
use mathlib.Core.List.{List, ◌++◌, append-nil}
use Prim.Native.Nat.{ℕ, zero, suc, ◌+◌, ◌-◌, ◌^◌, ◌≤◌, ◌<◌, min}
use native.Mathlib.Omega.{arith}
use lib.ListN.{length, take, drop, length-append, length-drop}
use lib.Seq.{length-take-le, take-append_seam, drop-append_seam}
use lib.Dec.{ltb}
use Rattle.utf8.specs.Utf8.{utf8}
use Rattle.types.specs.Answer.{given, not_utf8}
use Rattle.types.specs.Octets.{uint_at}
use Rattle.types.specs.Strings.{octets_of, span_at, long_str_at, short_str_at}
use Rattle.types.specs.declared.Span.{Span}
use Rattle.types.proofs.NumberLaws.{Octets, uint_at-lt}
use Rattle.types.proofs.Tests.{leb_yes, yes_leb, no_leb, eqb_yes, decide}
use Rattle.types.proofs.Chain.{then-go, need-given, given-value}
use Rattle.types.proofs.RoundTrip.{span-move, long-start}
use Rattle.tables.specs.Letters as kind
use Rattle.tables.specs.Letters.{Leaf, number, boolean, decimal, Kind, leaf, container, unknown, Letters, kind_of, is_table}
use Rattle.tables.specs.Forest.{none, item, size, Words, words, LocatedTable}
use Rattle.tables.specs.Reading.{Value, leaf_at, no_name, name_at, entries_with_fuel, entries_at, container_at, payload_at, value_at, table_at, lone_value_at}
use Rattle.tables.specs.Tape.{flatten}
use Rattle.tables.specs.Writing.{is_known, has_level, judge_name, judge_leaf, judge_payload, count_ok, judge_record, judge_with_fuel, judge_records, judge_lone}
use Rattle.tables.proofs.ReadingLaws.{entries-fuel-zero, entries-fuel-end, entries-fuel-step, below_at, value-is}
use Rattle.tables.proofs.TapeLaws.{length-flatten}
use Rattle.tables.proofs.JudgeLaws.{judge-nil}

module _ (s : List ℕ) (octet : Octets s) where
  short-judged : (i p : ℕ) (v : Span) (q : ℕ) → short_str_at s p ≡ given v q → judge_name true s i v ≡ None
  unfolding short_str_at
  short-judged i p v q e =
      then-go (uint_at 1 s p) _ v q e
      (λ n r e1 h1.
      then-go (span_at n s r) _ v q h1
      (λ w t e2 h2.
      let a = span-move n s r w t e2 in
      let b = need-given (utf8 (octets_of s w)) not_utf8 (given w t) v q h2 in
      let u : utf8 (take n (drop r s)) ≡ true = rw a.2 at b.0 in
      let lt : n < 256 ^ 1 = uint_at-lt 1 s p octet (sym e1) in
      let l = length-take-le n (drop r s) (omega (arith, a.0, a.1, length-drop r s)) in
      rw (← (given-value w v t q b.1), a.2, leb_yes (r + n) (length s) (omega (arith, a.0, a.1)), leb_yes (length (take n (drop r s))) 255 (omega arith), u)))

  name-judged : (b : Bool) (i p : ℕ) (v : Span) (q : ℕ) → name_at b s p ≡ given v q → judge_name b s i v ≡ None
  unfolding name_at
  name-judged true i p v q e = short-judged i p v q e
  name-judged false i p v q e = rw (← (given-value no_name v p q e))

  leaf-judged : (l : Leaf) (i p : ℕ) (x : Words) (q : ℕ) → leaf_at l s p ≡ given x q → judge_leaf l s i x ≡ None
  unfolding leaf_at
  leaf-judged (number k) i p x q e =
      then-go (uint_at k s p) _ x q e
      (λ n r e1 h1. rw (← (given-value (words n 0) x r q h1), leb_yes (suc n) (256 ^ k) (uint_at-lt k s p octet (sym e1))))
  leaf-judged boolean i p x q e =
      then-go (uint_at 1 s p) _ x q e
      (λ n r e1 h1. rw (← (given-value (words (min n 1) 0) x r q h1), leb_yes (suc (min n 1)) 2 (omega arith)))
  leaf-judged decimal i p x q e =
      then-go (uint_at 1 s p) _ x q e
      (λ a r e1 h1.
      then-go (uint_at 4 s r) _ x q h1
      (λ b t e2 h2.
      rw (
        ← (given-value (words a b) x t q h2),
        leb_yes (suc a) 256 (uint_at-lt 1 s p octet (sym e1)),
        leb_yes (suc b) (256 ^ 4) (uint_at-lt 4 s r octet (sym e2)),
      )))
  leaf-judged kind.long_str i p x q e =
      then-go (long_str_at s p) _ x q e
      (λ v r e1 h1.
      let a = long-start s p v r e1 in
      rw (← (given-value (words v.start v.len) x r q h1), leb_yes (v.start + v.len) (length s) (omega (arith, a.1, a.2))))
  leaf-judged kind.short_str i p x q e =
      then-go (short_str_at s p) _ x q e (λ v r e1 h1. rw (← (given-value (words v.start v.len) x r q h1)) (short-judged i p v r e1))

  module _ (letters : Letters) where
    -- a value, as the record that it will be is judged, with d levels below it
    record Sound (d : ℕ) (k : Kind) (v : Value) : Type 0 where
      known : is_known k ≡ true
      level : has_level k d ≡ true
      payload : (i : ℕ) → judge_payload k s i v.payload ≡ None
      count : (left : ℕ) → size v.beneath ≤ left → count_ok k (size v.beneath) left ≡ true
      below : (i f : ℕ) → length (flatten v.beneath) ≤ f → judge_with_fuel letters f (d - 1) (is_table k) s i (flatten v.beneath) ≡ None

    abbrev SoundValues : ℕ → Type 0
    SoundValues d = (p room : ℕ) (v : Value) (n : ℕ) → value_at letters d s p room ≡ given v n → Sound d (kind_of letters v.letter) v

    item-judged : (d : ℕ) (b : Bool) (i k : ℕ) (name : Span) (v : Value) (after : LocatedTable) → judge_name b s i name ≡ None → Sound d (kind_of letters v.letter) v
        → ((i' k' : ℕ) → length (flatten after) ≤ k' → judge_with_fuel letters k' d b s i' (flatten after) ≡ None)
        → length (flatten (item name v.letter v.payload v.beneath after)) ≤ k
        → judge_with_fuel letters k d b s i (flatten (item name v.letter v.payload v.beneath after)) ≡ None
    unfolding flatten judge_with_fuel judge_record
    item-judged d b i zero name v after en sv rest h = absurd (omega arith)
    item-judged d b i (suc k) name v after en sv rest h =
        let u = v.beneath in
        let l = length-append (flatten u) (flatten after) in
        let lu = length-flatten u in
        let tk : take (size u) (flatten u ++ flatten after) ≡ flatten u = rw (← lu) (take-append_seam (flatten u) (flatten after)) in
        let dr : drop (size u) (flatten u ++ flatten after) ≡ flatten after = rw (← lu) (drop-append_seam (flatten u) (flatten after)) in
        rw (
          sv.known,
          sv.level,
          en,
          sv.payload i,
          sv.count (length (flatten u ++ flatten after)) (omega arith),
          tk,
          dr,
          sv.below (i + 1) k (omega arith),
          rest (i + 1 + size u) k (omega arith),
        )

    entries-fuel-judged : (d : ℕ) → SoundValues d → (b : Bool) (f p end room : ℕ) (t : LocatedTable) (n : ℕ) → entries_with_fuel (value_at letters d) b f s p end room ≡ given t n
        → (i k : ℕ) → length (flatten t) ≤ k → judge_with_fuel letters k d b s i (flatten t) ≡ None
    unfolding flatten
    entries-fuel-judged d sound b zero p end room t n e i k h =
        rw (← (given-value none t p n (sym (entries-fuel-zero (value_at letters d) b s p end room) ∙ e))) (judge-nil letters k d b s i)
    entries-fuel-judged d sound b (suc f) p end room t n e i k h =
        decide (ltb p end)
        (λ y.
        then-go (name_at b s p) _ t n (sym (entries-fuel-step (value_at letters d) b s f p end room (yes_leb (suc p) end y)) ∙ e)
        (λ name q e1 h1.
        then-go (value_at letters d s q room) _ t n h1
        (λ v r e2 h2.
        then-go (entries_with_fuel (value_at letters d) b f s r end (room - suc (size v.beneath))) _ t n h2
        (λ after u e3 h3.
        let w = given-value (item name v.letter v.payload v.beneath after) t u n h3 in
        subst (λ (x : LocatedTable). length (flatten x) ≤ k → judge_with_fuel letters k d b s i (flatten x) ≡ None) w
        (item-judged d b i k name v after (name-judged b i p name q e1) (sound q room v r e2)
        (λ i' k' h'. entries-fuel-judged d sound b f r end (room - suc (size v.beneath)) after u e3 i' k' h'))
        h))))
        (λ x.
        rw (← (given-value none t p n (sym (entries-fuel-end (value_at letters d) b s (suc f) p end room (omega (arith, no_leb (suc p) end x))) ∙ e))) (judge-nil letters k d b s i))

    container-judged : (d : ℕ) → SoundValues d → (b : Bool) (p room : ℕ) (t : LocatedTable) (n : ℕ) → container_at (value_at letters d) b s p room ≡ given t n
        → (i k : ℕ) → length (flatten t) ≤ k → judge_with_fuel letters k d b s i (flatten t) ≡ None
    unfolding container_at entries_at
    container-judged d sound b p room t n e i k h =
        then-go (long_str_at s p) _ t n e (λ v end e1 h1. entries-fuel-judged d sound b (end - v.start) v.start end room t n h1 i k h)

    -- what is shown of the readers beneath
    abbrev SoundBelow : ℕ → Type 0
    SoundBelow d = (b : Bool) (p room : ℕ) (t : LocatedTable) (n : ℕ) → below_at letters d b s p room ≡ given t n
        → (i k : ℕ) → length (flatten t) ≤ k → judge_with_fuel letters k (d - 1) b s i (flatten t) ≡ None

    payload-sound : (d : ℕ) → SoundBelow d → (c : ℕ) (k : Kind) (p room : ℕ) (v : Value) (n : ℕ) → payload_at d (below_at letters d) c k s p room ≡ given v n
        → (c ≡ v.letter) × Sound d k v
    unfolding payload_at size flatten
    payload-sound d below c unknown p room v n e = let z : ◌≡◌ {A = ℕ} 0 1 = cc in absurd (omega arith)
    payload-sound d below c (leaf l) p room v n e =
        let o = need-given (ltb 0 room) _ _ v n e in
        then-go (leaf_at l s p) _ v n o.1
        (λ x q e1 h1.
        rw (← (given-value (record { letter = c; payload = x; beneath = none }) v q n h1)) (
          refl,
          record {
            known = refl;
            level = refl;
            payload = λ i. leaf-judged l i p x q e1;
            count = λ left h. refl;
            below = λ i f h. judge-nil letters f (d - 1) false s i;
          },
        ))
    payload-sound d below c (container b) p room v n e =
        let o = need-given (ltb 0 d) _ _ v n e in
        let o2 = need-given (ltb 0 room) _ _ v n o.1 in
        then-go (below_at letters d b s p (room - 1)) _ v n o2.1
        (λ u q e1 h1.
        rw (← (given-value (record { letter = c; payload = words 0 0; beneath = u }) v q n h1)) (
          refl,
          record {
            known = refl;
            level = o.0;
            payload = λ i. refl;
            count = λ left h. leb_yes (size u) left h;
            below = λ i f h. below b p (room - 1) u q e1 i f h;
          },
        ))

    value-from : (d : ℕ) → SoundBelow d → SoundValues d
    value-from d below p room v n e =
        then-go (uint_at 1 s p) _ v n (sym (value-is letters d s p room) ∙ e)
        (λ c q e1 h1.
        let a = payload-sound d below c (kind_of letters c) q room v n h1 in
        subst (λ (x : ℕ). Sound d (kind_of letters x) v) a.0 a.1)

    value-sound : (d : ℕ) → SoundValues d
    value-sound zero = value-from zero (λ b p room t n e i k h. let z : ◌≡◌ {A = ℕ} 0 1 = cc in absurd (omega arith))
    value-sound (suc d) =
        value-from (suc d)
        (λ b p room t n e i k h.
        let m : suc d - 1 ≡ d = omega arith in
        rw m (container-judged d (value-sound d) b p room t n e i k h))

    -- a table that is read: its records pass
    pub table-relayed : (p room : ℕ) (t : LocatedTable) (n : ℕ) → table_at letters s p room ≡ given t n → judge_records letters 15 true s 0 (flatten t) ≡ None
    unfolding table_at judge_records
    table-relayed p room t n e = container-judged 15 (value-sound 15) true p room t n e 0 (length (flatten t)) (omega arith)

    -- and a lone value's
    pub value-relayed : (p room : ℕ) (t : LocatedTable) (n : ℕ) → lone_value_at letters s p room ≡ given t n → judge_lone letters s (flatten t) ≡ None
    unfolding lone_value_at flatten judge_record judge_records
    value-relayed p room t n e =
        then-go (value_at letters 15 s p room) _ t n e
        (λ v q e1 h1.
        let u = v.beneath in
        let sound = value-sound 15 p room v q e1 in
        let l : length (flatten u) ≡ size u = length-flatten u in
        rw (
          ← (given-value (item no_name v.letter v.payload u none) t q n h1),
          append-nil (flatten u),
          sound.known,
          sound.level,
          sound.payload 0,
          sound.count (length (flatten u)) (omega arith),
          l,
          eqb_yes (size u),
        )
        (ap (λ (k : ℕ). judge_with_fuel letters k 14 (is_table (kind_of letters v.letter)) s 1 (flatten u)) (sym l) ∙ sound.below 1 (length (flatten u)) (omega arith)))
