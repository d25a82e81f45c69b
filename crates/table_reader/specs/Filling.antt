-- What the second pass leaves on the tape. It goes over what the first has accepted, so there is no refusal.
use Rattle.std.specs.Prelude.{ℕ, ◌+◌, ◌*◌, ◌≤◌, ◌≡◌, List, ◌∷◌, length}
use Rattle.types.specs.Answer.{Answer, given, refused, truncated}
use Rattle.types.specs.Memory.{splice}
use Rattle.types.specs.Records.{concat_map}
use Rattle.types.specs.declared.Span.{Span}
use Rattle.tables.specs.Letters.{Kind, leaf, container, unknown}
use Rattle.tables.specs.Forest.{size, Words}
use Rattle.tables.specs.Reading.{Value, leaf_at}
use Rattle.tables.specs.Tape.{Record, tape_records, flatten}
use Rattle.types.specs.declared.Cursor.{Cursor}

abbrev pub Given : {A : Type 0} → Answer A → Type 0
Given (given x n) = Unit
Given (refused r) = ⊥

-- what is accepted, and its records fit from record k on
abbrev pub Fits : {A : Type 0} → (A → List Record) → Answer A → ℕ → List ℕ → Type 0
Fits rs (given x n) k tape = (k + length (rs x)) * tape_records.size ≤ length tape
Fits rs (refused r) k tape = ⊥

-- the next record, and the next position
abbrev pub Filled : Type 0
Filled = ℕ × Cursor

-- the tape after a call that began at record k, and what the call gave
pub record Holds (rs : List Record) (k next : ℕ) (before after : List ℕ) (r : Filled) : Type 0 where
  pub memory : after ≡ splice (k * tape_records.size) (concat_map tape_records.words rs) before
  pub place : r.1.at ≡ next
  pub count : r.0 ≡ k + length rs

abbrev pub Stored : {A : Type 0} → (A → List Record) → Answer A → ℕ → List ℕ → List ℕ → Filled → Type 0
Stored rs (given x n) k before after r = Holds (rs x) k n before after r
Stored rs (refused e) k before after r = ⊥

-- the records of a value with a name
abbrev pub records_of : Span → Value → List Record
records_of name v = record { letter = v.letter; name = name; payload = v.payload; beneath = size v.beneath } ∷ flatten v.beneath

-- the payload of a leaf, by its kind
abbrev pub payload_of : Kind → List ℕ → ℕ → Answer Words
payload_of (leaf l) s at = leaf_at l s at
payload_of (container named) s at = refused truncated
payload_of unknown s at = refused truncated
