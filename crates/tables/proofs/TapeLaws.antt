-- A forest flattened to tape records and unflattened is the same again, and so are records; records that were written are read again.
use mathlib.Core.Path.{◌≡◌, refl, sym, ap, ◌∙◌}
use mathlib.Core.Bool.{Bool}
use mathlib.Core.List.{List, [], ◌∷◌, ◌++◌, append_assoc, IsPrefix}
use Prim.Native.Nat.{ℕ, zero, suc, ◌+◌, ◌*◌, ◌/◌, ◌≤◌, ◌<◌}
use native.Mathlib.Omega.{arith}
use native.Mathlib.Nat.{add-zero}
use lib.ListN.{length, take, drop, get_or, length-append, length-take, length-drop, take-append-drop}
use lib.Seq.{drop-drop, length-take-le, take-append_seam, drop-append_seam, take_at, drop_at, get_or-take, get_or-drop}
use Rattle.types.specs.Memory.{splice}
use Rattle.types.specs.Records.{RecordFormat, concat_map, first_records}
use Rattle.types.proofs.Splice.{splice-head}
use Rattle.types.proofs.Standing.{length-zero}
use Rattle.types.proofs.Tests.{leb_yes, leb_no}
use Rattle.types.specs.Answer.{bad_tape}
use mathlib.Core.Logic.{inl, inr}
use Rattle.tables.specs.Letters.{Letters}
use Rattle.tables.specs.Forest.{none, item, size, words, LocatedTable, TableMeaning, meaning_of}
use Rattle.std.specs.Simd.{first_chunks}
use Rattle.tables.specs.Tape.{Record, tape_records, record_at, flatten, unflatten, forest_of}
use Rattle.tables.proofs.Fit.{place_forest}

pub length-flatten : (t : LocatedTable) → length (flatten t) ≡ size t
unfolding flatten size
length-flatten none = refl
length-flatten (item n c x u t) = ap suc (length-append (flatten u) (flatten t) ∙ (rw (length-flatten u, length-flatten t)))

-- the words of records, each of the same size
pub length-concat_map : {R : Type 0} (C : RecordFormat R) → ((r : R) → length (C.words r) ≡ C.size) → (rs : List R) → length (concat_map C.words rs) ≡ length rs * C.size
length-concat_map C h [] = omega arith
length-concat_map C h (r ∷ rs) = length-append (C.words r) (concat_map C.words rs) ∙ (rw (h r, length-concat_map C h rs) (omega arith))

pub concat_map-append : {R : Type 0} (f : R → List ℕ) (xs ys : List R) → concat_map f (xs ++ ys) ≡ concat_map f xs ++ concat_map f ys
concat_map-append f [] ys = refl
concat_map-append f (x ∷ xs) ys = ap (λ l. f x ++ l) (concat_map-append f xs ys) ∙ sym (append_assoc (f x) (concat_map f xs) (concat_map f ys))

-- a forest, flattened and unflattened
pub unflatten-flatten : (t : LocatedTable) (k : ℕ) → length (flatten t) ≤ k → unflatten k (flatten t) ≡ t
unfolding flatten unflatten
unflatten-flatten none zero h = refl
unflatten-flatten none (suc k) h = refl
unflatten-flatten (item n c x u t) zero h = absurd (omega arith)
unflatten-flatten (item n c x u t) (suc k) h =
    let l = length-append (flatten u) (flatten t) in
    let e = length-flatten u in
    rw (
      ← (length-flatten u),
      take-append_seam (flatten u) (flatten t),
      drop-append_seam (flatten u) (flatten t),
      unflatten-flatten u k (omega arith),
      unflatten-flatten t k (omega arith),
    )

-- no count runs past its parent's end
abbrev pub CountsFit : ℕ → List Record → Type 0
CountsFit zero rs = Unit {0}
CountsFit (suc k) [] = Unit {0}
CountsFit (suc k) (r ∷ rs) = (r.beneath ≤ length rs) × CountsFit k (take r.beneath rs) × CountsFit k (drop r.beneath rs)

-- so the records of the forest are they themselves
pub size-unflatten : (k : ℕ) (rs : List Record) → length rs ≤ k → CountsFit k rs → size (unflatten k rs) ≡ length rs
unfolding size unflatten
size-unflatten zero rs h c = omega arith
size-unflatten (suc k) [] h c = refl
size-unflatten (suc k) (r ∷ rs) h c =
    let b = r.beneath in
    let e = c.0 in
    let l = length-take-le b rs e in
    let m = length-drop b rs in
    rw (size-unflatten k (take b rs) (omega arith) c.1, size-unflatten k (drop b rs) (omega arith) c.2) (omega arith)

pub flatten-unflatten : (k : ℕ) (rs : List Record) → length rs ≤ k → CountsFit k rs → flatten (unflatten k rs) ≡ rs
unfolding flatten unflatten
flatten-unflatten zero rs h c = sym (length-zero rs (omega arith))
flatten-unflatten (suc k) [] h c = refl
flatten-unflatten (suc k) (r ∷ rs) h c =
    let b = r.beneath in
    let l = length-take b rs in
    let m = length-drop b rs in
    rw (
      size-unflatten k (take b rs) (omega arith) c.1,
      flatten-unflatten k (take b rs) (omega arith) c.1,
      flatten-unflatten k (drop b rs) (omega arith) c.2,
      length-take-le b rs c.0,
      take-append-drop b rs,
    )

module _ (letters : Letters) where
  pub size-meaning : (pool : List ℕ) (t : LocatedTable) → size (meaning_of letters pool t) ≡ size t
  unfolding size meaning_of
  size-meaning pool none = refl
  size-meaning pool (item n c x u t) = rw (size-meaning pool u, size-meaning pool t)

  -- what is located, on the tape and off it again
  pub forest-place : (b : Bool) (p : ℕ) (t : TableMeaning) → forest_of (flatten (place_forest letters b p t)) ≡ place_forest letters b p t
  forest-place b p t = unflatten-flatten (place_forest letters b p t) (length (flatten (place_forest letters b p t))) (omega arith)

-- records that were written are read again, whatever stands behind them
module _ {R : Type 0} (C : RecordFormat R) (sizes : (r : R) → length (C.words r) ≡ C.size) (back : (r : R) → C.read (C.words r) ≡ r) where
  pub first-concat_map : (rs : List R) (ws : List ℕ) (n : ℕ) → length rs ≤ n → IsPrefix rs (first_records C n (concat_map C.words rs ++ ws))
  unfolding first_records
  first-concat_map [] ws n h = (first_records C n ws, refl)
  first-concat_map (r ∷ rs) ws zero h = absurd (omega arith)
  first-concat_map (r ∷ rs) ws (suc n) h =
      let a : C.words r ++ concat_map C.words rs ++ ws ≡ C.words r ++ (concat_map C.words rs ++ ws) = append_assoc (C.words r) (concat_map C.words rs) ws in
      let t = take_at (C.words r) (concat_map C.words rs ++ ws) C.size (sizes r) in
      let d = drop_at (C.words r) (concat_map C.words rs ++ ws) C.size (sizes r) in
      let i = first-concat_map rs ws n (omega arith) in
      rw (a, t, d, back r) (i.0, ap (λ (k : List R). r ∷ k) i.1)

  pub held : (rs : List R) (old : List ℕ) (n : ℕ) → length rs ≤ n → IsPrefix rs (first_records C n (splice 0 (concat_map C.words rs) old))
  held rs old n h = rw (splice-head (concat_map C.words rs) old) (first-concat_map rs (drop (length (concat_map C.words rs)) old) n h)

-- the forest of records, with no fuel
pub unflatten-agree : (k j : ℕ) (rs : List Record) → length rs ≤ k → length rs ≤ j → unflatten k rs ≡ unflatten j rs
unfolding unflatten
unflatten-agree zero zero rs hk hj = refl
unflatten-agree zero (suc j) [] hk hj = refl
unflatten-agree zero (suc j) (r ∷ rs) hk hj = absurd (omega arith)
unflatten-agree (suc k) zero [] hk hj = refl
unflatten-agree (suc k) zero (r ∷ rs) hk hj = absurd (omega arith)
unflatten-agree (suc k) (suc j) [] hk hj = refl
unflatten-agree (suc k) (suc j) (r ∷ rs) hk hj =
    let l = length-take r.beneath rs in
    let m = length-drop r.beneath rs in
    rw (unflatten-agree k j (take r.beneath rs) (omega arith) (omega arith), unflatten-agree k j (drop r.beneath rs) (omega arith) (omega arith))

pub forest_step : (r : Record) (rs : List Record)
    → forest_of (r ∷ rs) ≡ item r.name r.letter r.payload (forest_of (take r.beneath rs)) (forest_of (drop r.beneath rs))
unfolding unflatten
forest_step r rs =
    let l = length-take r.beneath rs in
    let m = length-drop r.beneath rs in
    rw (
      unflatten-agree (length rs) (length (take r.beneath rs)) (take r.beneath rs) (omega arith) (omega arith),
      unflatten-agree (length rs) (length (drop r.beneath rs)) (drop r.beneath rs) (omega arith) (omega arith),
    )

-- a record where there is one, word by word
pub record-there : (tape : List ℕ) (k : ℕ) → k < length tape / 6
    → record_at tape k
    ≡ inl (record {
      letter = get_or tape (k * 6) 0;
      name = record { start = get_or tape (k * 6 + 1) 0; len = get_or tape (k * 6 + 2) 0 };
      payload = words (get_or tape (k * 6 + 3) 0) (get_or tape (k * 6 + 4) 0);
      beneath = get_or tape (k * 6 + 5) 0;
    })
unfolding record_at
record-there tape k h = rw (leb_yes (suc k) (length tape / 6) h) (ap inl (λ i. record {
  letter = (word 0 (omega arith) ∙ ap (λ (m : ℕ). get_or tape m 0) (add-zero (k * 6))) i;
  name = record { start = word 1 (omega arith) i; len = word 2 (omega arith) i };
  payload = words (word 3 (omega arith) i) (word 4 (omega arith) i);
  beneath = word 5 (omega arith) i;
}))
  where
    word : (j : ℕ) → j < 6 → get_or (take 6 (drop (k * 6) tape)) j 0 ≡ get_or tape (k * 6 + j) 0
    word j l = get_or-take 6 (drop (k * 6) tape) j 0 l ∙ get_or-drop (k * 6) tape j 0

pub record-missing : (tape : List ℕ) (k : ℕ) → length tape / 6 ≤ k → record_at tape k ≡ inr (bad_tape k)
unfolding record_at
record-missing tape k h = rw (leb_no (suc k) (length tape / 6) (omega arith))

-- a record by its words, which are one of the tape's chunks
chunk-at : (tape : List ℕ) (n k : ℕ) (d : List ℕ) → k < n → get_or (first_chunks 6 n tape) k d ≡ take 6 (drop (k * 6) tape)
chunk-at tape zero k d h = absurd (omega arith)
chunk-at tape (suc n) zero d h = refl
chunk-at tape (suc n) (suc k) d h = chunk-at (drop 6 tape) n k d (omega arith) ∙ ap (take 6) (drop-drop (k * 6) 6 tape ∙ ap (λ (i : ℕ). drop i tape) (omega arith))

pub record-in_chunks : (tape xs d : List ℕ) (k : ℕ) → k < length tape / 6 → xs ≡ get_or (first_chunks 6 (length tape / 6) tape) k d → inl (tape_records.read xs) ≡ record_at tape k
unfolding record_at
record-in_chunks tape xs d k h e = rw (leb_yes (suc k) (length tape / 6) h, e, chunk-at tape (length tape / 6) k d h)
