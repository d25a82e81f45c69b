-- The records of a tape one by one: what code that goes over a tape reads.
use mathlib.Core.Path.{◌≡◌, refl, sym, ap, ◌∙◌}
use mathlib.Core.Logic.{◌⊎◌, inl}
use mathlib.Core.List.{List, [], ◌∷◌}
use Prim.Native.Nat.{ℕ, zero, suc, ◌+◌, ◌-◌, ◌*◌, ◌/◌, ◌≤◌, ◌<◌}
use native.Mathlib.Omega.{arith}
use native.Mathlib.Nat.{zero-mul, sub-zero}
use lib.ListN.{length, take, drop, get_or, length-take, length-drop}
use lib.Seq.{drop-drop, take_all, take-take, take-nil}
use Rattle.types.specs.Records.{RecordFormat, first_records, records}
use Rattle.types.proofs.Tests.{leb_yes}
use Rattle.tables.specs.Forest.{words}
use Rattle.tables.specs.Tape.{Record, tape_records, record_at}
use Rattle.tables.proofs.TapeLaws.{record-there}
use Rattle.table_writer.specs.Sizes.{records_from}

drop-take : {A : Type 0} (b n : ℕ) (l : List A) → drop b (take n l) ≡ take (n - b) (drop b l)
drop-take zero n l = rw (sub-zero n)
drop-take (suc b) zero l = let e : 0 - suc b ≡ 0 = omega arith in rw e
drop-take (suc b) (suc n) [] = sym (take-nil (suc n - suc b))
drop-take (suc b) (suc n) (x ∷ xs) = let e : suc n - suc b ≡ n - b = omega arith in rw e (drop-take b n xs)

module _ {R : Type 0} (C : RecordFormat R) where
  pub length-first : (n : ℕ) (ws : List ℕ) → length (first_records C n ws) ≡ n
  unfolding first_records
  length-first zero ws = refl
  length-first (suc n) ws = ap suc (length-first n (drop C.size ws))

  pub drop-first : (k n : ℕ) (ws : List ℕ) → k < n → drop k (first_records C n ws) ≡ C.read (take C.size (drop (k * C.size) ws)) ∷ drop (suc k) (first_records C n ws)
  unfolding first_records
  drop-first zero zero ws h = absurd (omega arith)
  drop-first zero (suc n) ws h = rw (zero-mul C.size)
  drop-first (suc k) zero ws h = absurd (omega arith)
  drop-first (suc k) (suc n) ws h =
      let e : C.size + k * C.size ≡ suc k * C.size = omega arith in
      drop-first k n (drop C.size ws) (omega arith)
      ∙ ap (λ (l : List ℕ). C.read (take C.size l) ∷ drop (suc k) (first_records C n (drop C.size ws))) (drop-drop (k * C.size) C.size ws ∙ ap (λ (m : ℕ). drop m ws) e)

-- record i, word by word
abbrev pub nth_record : List ℕ → ℕ → Record
nth_record tape i =
    record {
      letter = get_or tape (i * 6) 0;
      name = record { start = get_or tape (i * 6 + 1) 0; len = get_or tape (i * 6 + 2) 0 };
      payload = words (get_or tape (i * 6 + 3) 0) (get_or tape (i * 6 + 4) 0);
      beneath = get_or tape (i * 6 + 5) 0;
    }

inl-inj : {A B : Type 0} (x y : A) → ◌≡◌ {A = A ⊎ B} (inl x) (inl y) → x ≡ y
inl-inj x y e = cc

module _ (tape : List ℕ) where
  pub records-none : (i : ℕ) → records_from tape i i ≡ []
  unfolding records_from
  records-none i = let z : i - i ≡ 0 = omega arith in rw z

  pub records-all : records_from tape 0 (length tape / 6) ≡ records tape_records tape
  unfolding records_from
  records-all = take_all (length tape / 6 - 0) (records tape_records tape) (omega (arith, length-first tape_records (length tape / 6) tape))

  module _ (end : ℕ) (on_tape : end * 6 ≤ length tape) where
    inside : end ≤ length tape / 6
    inside = omega arith

    pub length-records : (i : ℕ) → length (records_from tape i end) ≡ end - i
    unfolding records_from
    length-records i =
        length-take (end - i) (drop i (records tape_records tape))
        ∙ (rw (length-drop i (records tape_records tape), length-first tape_records (length tape / 6) tape) (omega (arith, inside)))

    pub record-here : (i : ℕ) → i < end → record_at tape i ≡ inl (nth_record tape i)
    record-here i h = record-there tape i (omega (arith, inside))

    pub records-step : (i : ℕ) → i < end → records_from tape i end ≡ nth_record tape i ∷ records_from tape (i + 1) end
    unfolding records_from record_at
    records-step i h =
        let r = tape_records.read (take 6 (drop (i * 6) tape)) in
        let n : end - i ≡ suc (end - (i + 1)) = omega arith in
        let m : suc i ≡ i + 1 = omega arith in
        let same : r ≡ nth_record tape i = inl-inj r (nth_record tape i) (rw (leb_yes (suc i) (length tape / 6) (omega (arith, inside))) at (record-here i h)) in
        rw (drop-first tape_records i (length tape / 6) tape (omega (arith, inside)), n, same, m)

    pub records-take : (i b : ℕ) → i + b ≤ end → take b (records_from tape i end) ≡ records_from tape i (i + b)
    unfolding records_from
    records-take i b h = let e : i + b - i ≡ b = omega arith in rw (take-take b (end - i) (drop i (records tape_records tape)) (omega arith), e)

    pub records-drop : (i b : ℕ) → i + b ≤ end → drop b (records_from tape i end) ≡ records_from tape (i + b) end
    unfolding records_from
    records-drop i b h =
        let e : end - i - b ≡ end - (i + b) = omega arith in
        rw (drop-take b (end - i) (drop i (records tape_records tape)), drop-drop b i (records tape_records tape), e)
