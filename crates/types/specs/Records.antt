-- Records of a fixed number of words on lent memory. What is over at the end, less than a record, is no record.
use Rattle.std.specs.Prelude.{ℕ, zero, suc, ◌/◌, List, [], ◌∷◌, ◌++◌, length, take, drop}

pub record RecordFormat (R : Type 0) : Type 0 where
  pub size : ℕ
  pub words : R → List ℕ
  pub read : List ℕ → R

-- joined in order
abbrev pub concat_map : {R : Type 0} → (R → List ℕ) → List R → List ℕ
concat_map f [] = []
concat_map f (r ∷ rs) = f r ++ concat_map f rs

-- the first n records of a memory
unfoldable pub first_records : {R : Type 0} → RecordFormat R → ℕ → List ℕ → List R
first_records C zero ws = []
first_records C (suc n) ws = C.read (take C.size ws) ∷ first_records C n (drop C.size ws)

-- how many a memory has, and all of them
abbrev pub record_count : {R : Type 0} → RecordFormat R → List ℕ → ℕ
record_count C ws = length ws / C.size

abbrev pub records : {R : Type 0} → RecordFormat R → List ℕ → List R
records C ws = first_records C (record_count C ws) ws
