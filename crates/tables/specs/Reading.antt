-- Reading a table, an array or a lone value at a position: 0-9-1, 4.2.5.5, and document 01, "types.rs: tables and the tape".
use Rattle.std.specs.Prelude.{ℕ, zero, suc, ◌-◌, min, Bool, true, false, cond, List, ltb}
use Rattle.types.specs.Answer.{Answer, given, refused, unsupported_field_type, too_deep, tape_full, and_then, need}
use Rattle.types.specs.Octets.{uint_at}
use Rattle.types.specs.Strings.{long_str_at, short_str_at}
use Rattle.types.specs.declared.Span.{Span}
use Rattle.tables.specs.Letters.{Leaf, number, boolean, decimal, long_str, short_str, Kind, leaf, container, unknown, Letters, kind_of}
use Rattle.tables.specs.Forest.{none, item, size, Words, words, LocatedTable}

-- octets, position, tape records left
abbrev pub Reader : Type 0 → Type 0
Reader A = List ℕ → ℕ → ℕ → Answer A

-- a value that has no name yet
pub record Value : Type 0 where
  pub letter : ℕ
  pub payload : Words
  pub beneath : LocatedTable

abbrev pub span_words : Answer Span → Answer Words
span_words a = and_then a (λ v q. given (words v.start v.len) q)

-- a leaf's payload, as its two words
unfoldable pub leaf_at : Leaf → List ℕ → ℕ → Answer Words
leaf_at (number k) s p = and_then (uint_at k s p) (λ n q. given (words n 0) q)
leaf_at boolean s p = and_then (uint_at 1 s p) (λ n q. given (words (min n 1) 0) q)
leaf_at decimal s p = and_then (uint_at 1 s p) (λ scale q. and_then (uint_at 4 s q) (λ n r. given (words scale n) r))
leaf_at long_str s p = span_words (long_str_at s p)
leaf_at short_str s p = span_words (short_str_at s p)

-- names in arrays and of a lone value are 0 and 0
abbrev pub no_name : Span
no_name = record { start = 0; len = 0 }

unfoldable pub name_at : Bool → List ℕ → ℕ → Answer Span
name_at true s p = short_str_at s p
name_at false s p = given no_name p

-- names and values until the position has reached the end, which the last may run past. At most `fuel` of them: each has an octet at least
unfoldable pub entries_with_fuel : Reader Value → Bool → ℕ → List ℕ → ℕ → ℕ → ℕ → Answer LocatedTable
entries_with_fuel value named zero s p end room = given none p
entries_with_fuel value named (suc fuel) s p end room =
    cond (ltb p end)
    (and_then (name_at named s p)
    (λ name q.
    and_then (value s q room)
    (λ v r.
    and_then (entries_with_fuel value named fuel s r end (room - suc (size v.beneath)))
    (λ after t. given (item name v.letter v.payload v.beneath after) t))))
    (given none p)

unfoldable pub entries_at : Reader Value → Bool → List ℕ → ℕ → ℕ → ℕ → Answer LocatedTable
entries_at value named s p end room = entries_with_fuel value named (end - p) s p end room

-- a table (named) or an array: the length of its body, then its entries
unfoldable pub container_at : Reader Value → Bool → Reader LocatedTable
container_at value named s p room = and_then (long_str_at s p) (λ body end. entries_at value named s body.start end room)

-- a value whose letter c, of kind k, is read: letter known (3), then for F and A depth (8), then 10, then payload. It has d levels below it
unfoldable pub payload_at : ℕ → (Bool → Reader LocatedTable) → ℕ → Kind → Reader Value
payload_at d below c unknown s p room = refused (unsupported_field_type c)
payload_at d below c (leaf l) s p room =
    need (ltb 0 room) tape_full (and_then (leaf_at l s p) (λ x q. given (record { letter = c; payload = x; beneath = none }) q))
payload_at d below c (container named) s p room =
    need (ltb 0 d) too_deep
    (need (ltb 0 room) tape_full
    (and_then (below named s p (room - 1)) (λ u q. given (record { letter = c; payload = words 0 0; beneath = u }) q)))

module _ (letters : Letters) where
  unfoldable pub value_with : ℕ → (Bool → Reader LocatedTable) → Reader Value
  value_with d below s p room = and_then (uint_at 1 s p) (λ c q. payload_at d below c (kind_of letters c) s q room)

  -- a value with d levels below it
  unfoldable pub value_at : ℕ → Reader Value
  value_at zero = value_with 0 (λ named s p room. refused too_deep)
  value_at (suc d) = value_with (suc d) (container_at (value_at d))

  -- values of the outermost table, and a lone value, stand at depth 1: no table or array may stand at depth 16
  unfoldable pub table_at : Reader LocatedTable
  table_at = container_at (value_at 15) true

  unfoldable pub lone_value_at : Reader LocatedTable
  lone_value_at s p room = and_then (value_at 15 s p room) (λ v q. given (item no_name v.letter v.payload v.beneath none) q)
