-- The laws of tables and lone values on the tape, for any list of letters. What a writer accepts is read back with the same meaning
-- and to its last octet, whatever follows, and every strict prefix of it is Truncated. What a reader puts on the tape is accepted by
-- a writer, and means what was read. A table has at most as many records as octets less 4.
use mathlib.Core.Path.{◌≡◌, refl, ap, ◌∙◌}
use mathlib.Core.Bool.{true, false}
use Rattle.std.specs.Prelude.{None}
use mathlib.Core.List.{List, [], ◌∷◌, ◌++◌, append-nil}
use Prim.Native.Nat.{ℕ, zero, suc, ◌+◌, ◌-◌, ◌*◌, ◌/◌, ◌%◌, ◌^◌, ◌≤◌, ◌<◌}
use native.Mathlib.Omega.{arith}
use native.Mathlib.Nat.{add-zero}
use lib.ListN.{length, length-append}
use lib.Seq.{take_at, drop_at}
use Rattle.types.specs.Answer.{given, refused, truncated}
use Rattle.types.specs.Octets.{octets}
use Rattle.types.specs.Records.{RecordFormat, concat_map, first_records, records}
use Rattle.types.proofs.Tests.{leb_yes, yes_leb}
use Rattle.types.proofs.Chain.{test-none, or_else-none}
use Rattle.types.proofs.Standing.{Stands, Cut, stands-right, cut-split}
use Rattle.types.proofs.NumberLaws as numbers
use Rattle.types.proofs.RoundTrip.{number-here, number_past, short_cut, long-cut}
use Rattle.tables.specs.Letters as kind
use Rattle.tables.specs.Letters.{Leaf, number, boolean, decimal, Kind, leaf, container, unknown, Letters, kind_of, is_table}
use Rattle.tables.specs.Forest.{none, item, size, PayloadMeaning, TableMeaning, LocatedTable, meaning_of}
use Rattle.tables.specs.Reading.{leaf_at, no_name, payload_at, container_at, table_at, lone_value_at}
use Rattle.tables.specs.Tape.{tape_records, flatten}
use Rattle.tables.specs.Writing.{leaf_octets, payload_octets, body, table_octets, judge_table, judge_lone_value, tape_meaning, table_refusal, lone_refusal}
use Rattle.tables.proofs.Fit.{FitLeaf, FitValue, FitForest, place_payload, place_name, place_forest}
use Rattle.tables.proofs.ReadingLaws.{below_at, value-is, table-move}
use Rattle.tables.proofs.TapeLaws.{length-concat_map, unflatten-flatten}
use Rattle.tables.proofs.JudgeLaws.{Octets, table-fit, lone-fit, table-size, lone-size, One, lone-one}
use Rattle.tables.proofs.RoundTrip.{table_here, table-cut, lone-here, forest-meaning}
use Rattle.tables.proofs.Relay.{table-relayed, value-relayed}

-- The records of a tape that holds nothing but the records rs

first-all : {R : Type 0} (C : RecordFormat R) → ((r : R) → length (C.words r) ≡ C.size) → ((r : R) → C.read (C.words r) ≡ r)
    → (rs : List R) → first_records C (length rs) (concat_map C.words rs) ≡ rs
unfolding first_records
first-all C sizes back [] = refl
first-all C sizes back (r ∷ rs) =
    rw (
      take_at (C.words r) (concat_map C.words rs) C.size (sizes r),
      drop_at (C.words r) (concat_map C.words rs) C.size (sizes r),
      back r,
      first-all C sizes back rs,
    )

-- the tape of a table that was read
abbrev pub tape_of : LocatedTable → List ℕ
tape_of t = concat_map tape_records.words (flatten t)

length-tape : (t : LocatedTable) → length (tape_of t) ≡ length (flatten t) * 6
length-tape t = length-concat_map tape_records (λ r. refl) (flatten t)

pub records-tape : (t : LocatedTable) → records tape_records (tape_of t) ≡ flatten t
records-tape t =
    let n : length (tape_of t) / 6 ≡ length (flatten t) = omega (arith, length-tape t) in
    rw n (first-all tape_records (λ r. refl) (λ r. refl) (flatten t))

-- A lone value that is cut short

leaf-cut : {s : List ℕ} {p : ℕ} (l : Leaf) (x : PayloadMeaning) → FitLeaf l x → Cut s p (leaf_octets l x) → leaf_at l s p ≡ refused truncated
unfolding leaf_at
leaf-cut {s} {p} (number k) x f c = rw (number_past k s p (omega (arith, c.less, numbers.length-octets k x.first)))
leaf-cut {s} {p} boolean x f c = rw (number_past 1 s p (omega (arith, c.less)))
leaf-cut {s} {p} decimal x f c =
    cut-split (octets 1 x.first) (octets 4 x.second) c
    (λ a. rw (number_past 1 s p (omega (arith, a.less))))
    (λ a b. rw (number-here 1 x.first f.0 a, number_past 4 s (p + 1) (omega (arith, b.less))))
leaf-cut {s} {p} kind.long_str x f c = rw (long-cut x.text f.2 c)
leaf-cut {s} {p} kind.short_str x f c = rw (short_cut x.text f.2 c)

module _ (letters : Letters) where
  payload_cut : {s : List ℕ} {p : ℕ} (k : Kind) (c d : ℕ) (x : PayloadMeaning) (u : TableMeaning) (room : ℕ)
      → FitValue letters k d x u (λ b' d'. FitForest letters b' d' u) → 0 < room → Cut s p (payload_octets k x (body letters (is_table k) u))
      → payload_at d (below_at letters d) c k s p room ≡ refused truncated
  unfolding payload_at container_at
  payload_cut {s} {p} (leaf l) c d x u room f h cut = rw (leb_yes 1 room h, leaf-cut l x f.0 cut)
  payload_cut {s} {p} (container b) c zero x u room f h cut = absurd f
  payload_cut {s} {p} (container b) c (suc d) x u room f h cut =
      rw (leb_yes 1 (suc d) (omega arith), leb_yes 1 room h, long-cut (body letters b u) f.2 cut)
  payload_cut {s} {p} unknown c d x u room f h cut = absurd f

  -- a lone value where it is written
  place-lone : (p c : ℕ) (x : PayloadMeaning) (u : TableMeaning)
      → place_forest letters false p (item [] c x u none)
      ≡ item no_name c (place_payload (kind_of letters c) (p + 1) x) (place_forest letters (is_table (kind_of letters c)) (p + 1 + 4) u) none
  unfolding place_forest place_name
  place-lone p c x u = rw (add-zero p)

  -- What a writer accepts

  module _ (octet : Octets letters) (pool tape : List ℕ) where
    abbrev meaning : TableMeaning
    meaning = tape_meaning letters pool tape

    module _ (accepted : table_refusal letters pool tape ≡ None) where
      judged : judge_table letters pool tape ≡ None
      judged = (or_else-none (judge_table letters pool tape) _ accepted).0

      small : length (body letters true meaning) < 256 ^ 4
      small = omega (arith, yes_leb (length (body letters true meaning)) 4294967295 (test-none _ _ _ (or_else-none (judge_table letters pool tape) _ accepted).1).0)

      pub table-returned : (s : List ℕ) (p room : ℕ) → Stands s p (table_octets letters meaning) → length (records tape_records tape) ≤ room
          → (t : LocatedTable) × (table_at letters s p room ≡ given t (p + length (table_octets letters meaning))) × (meaning_of letters s t ≡ meaning)
      table-returned s p room h r =
          let f = table-fit letters pool tape octet judged small in (
            place_forest letters true (p + 4) meaning,
            table_here letters meaning room f small (omega (arith, table-size letters pool tape judged)) h,
            forest-meaning letters meaning 15 true s (p + 4) f (stands-right (octets 4 (length (body letters true meaning))) (body letters true meaning) h),
          )

      pub table-truncated : (s : List ℕ) (p room : ℕ) → Cut s p (table_octets letters meaning) → table_at letters s p room ≡ refused truncated
      table-truncated s p room c = table-cut letters meaning room small c

    module _ (accepted : lone_refusal letters pool tape ≡ None) where
      judged_lone : judge_lone_value letters pool tape ≡ None
      judged_lone = (or_else-none (judge_lone_value letters pool tape) _ accepted).0

      fit : FitForest letters false 15 meaning
      fit =
          lone-fit letters pool tape octet judged_lone
          (omega (arith, yes_leb (length (body letters false meaning) - 5) 4294967295 (test-none _ _ _ (or_else-none (judge_lone_value letters pool tape) _ accepted).1).0))

      one : One letters meaning
      one = lone-one letters pool tape judged_lone

      pub value-returned : (s : List ℕ) (p room : ℕ) → Stands s p (body letters false meaning) → length (records tape_records tape) ≤ room
          → (t : LocatedTable) × (lone_value_at letters s p room ≡ given t (p + length (body letters false meaning))) × (meaning_of letters s t ≡ meaning)
      unfolding body size
      value-returned s p room h r =
          let c = one.letter in
          let x = one.payload in
          let u = one.beneath in
          let n = lone-size letters pool tape judged_lone in
          let m : meaning ≡ item [] c x u none = one.same ∙ ap (λ (l : List ℕ). item l c x u none) (rw one.same at fit).0 in
          let f : FitForest letters false 15 (item [] c x u none) = rw m at fit in
          let h' : Stands s p (body letters false (item [] c x u none)) = rw m at h in
          let n' : size (item [] c x u none) ≡ length (records tape_records tape) = rw m at n in
          let P = payload_octets (kind_of letters c) x (body letters (is_table (kind_of letters c)) u) in
          let located = item no_name c (place_payload (kind_of letters c) (p + 1) x) (place_forest letters (is_table (kind_of letters c)) (p + 1 + 4) u) none in
          let end : p + 1 + length P ≡ p + length (octets 1 c ++ (P ++ [])) = omega (arith, length-append P []) in
          rw m (
            place_forest letters false p (item [] c x u none),
            rw (place-lone p c x u) (lone-here letters c x u room f.1 f.2 (omega arith) h' ∙ ap (given located) end),
            forest-meaning letters (item [] c x u none) 15 false s p f h',
          )

      pub value-truncated : (s : List ℕ) (p room : ℕ) → Cut s p (body letters false meaning) → 0 < room → lone_value_at letters s p room ≡ refused truncated
      unfolding body lone_value_at
      value-truncated s p room cut h =
          let c = one.letter in
          let x = one.payload in
          let u = one.beneath in
          let m : meaning ≡ item [] c x u none = one.same ∙ ap (λ (l : List ℕ). item l c x u none) (rw one.same at fit).0 in
          let f : FitForest letters false 15 (item [] c x u none) = rw m at fit in
          let P = payload_octets (kind_of letters c) x (body letters (is_table (kind_of letters c)) u) in
          let cut' : Cut s p (octets 1 c ++ (P ++ [])) = rw m at cut in
          cut-split (octets 1 c) (P ++ []) cut'
          (λ a. rw (value-is letters 15 s p room, number_past 1 s p (omega (arith, a.less))))
          (λ a b. rw (value-is letters 15 s p room, number-here 1 c f.1 a, payload_cut (kind_of letters c) c 15 x u room f.2 h (rw (append-nil P) at b)))

  -- What a reader puts on the tape

  module _ (s : List ℕ) (octet : numbers.Octets s) (p room : ℕ) (t : LocatedTable) (n : ℕ) where
    means : tape_meaning letters s (tape_of t) ≡ meaning_of letters s t
    unfolding tape_meaning
    means = rw (records-tape t, unflatten-flatten t (length (flatten t)) (omega arith))

    whole : length (tape_of t) % 6 ≡ 0
    whole = omega (arith, length-tape t)

    pub table-accepted : table_at letters s p room ≡ given t n → (judge_table letters s (tape_of t) ≡ None) × (tape_meaning letters s (tape_of t) ≡ meaning_of letters s t)
    unfolding judge_table
    table-accepted e = (rw (records-tape t, table-relayed s octet letters p room t n e, whole), means)

    pub value-accepted : lone_value_at letters s p room ≡ given t n → (judge_lone_value letters s (tape_of t) ≡ None) × (tape_meaning letters s (tape_of t) ≡ meaning_of letters s t)
    unfolding judge_lone_value
    value-accepted e = (rw (records-tape t, value-relayed s octet letters p room t n e, whole), means)

    pub table-records : table_at letters s p room ≡ given t n → (size t ≤ n - p - 4) × (n ≤ length s)
    table-records e = let m = table-move letters s p room t n e in (omega (arith, m.far), m.inside)
