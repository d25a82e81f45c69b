-- What the first pass sees of a reader: how many records it would fill, and the next position.
use Rattle.std.specs.Prelude.{ℕ, suc, ◌+◌, ltb}
use Rattle.types.specs.Answer.{Answer, given, refused, tape_full, and_then, need}
use Rattle.tables.specs.Forest.{size, LocatedTable}
use Rattle.tables.specs.Reading.{Value}
use Rattle.tables.specs.Tape.{WithCount}

-- a number of what was read, in its place
unfoldable pub counting : {A : Type 0} → (A → ℕ) → Answer A → Answer ℕ
counting f (given x n) = given (f x) n
counting f (refused r) = refused r

-- what takes one, where there is room for it
abbrev pub one_record : {A : Type 0} → ℕ → Answer A → Answer ℕ
one_record room a = need (ltb 0 room) tape_full (counting (λ _. 1) a)

-- k records more
unfoldable pub more : ℕ → Answer ℕ → Answer ℕ
more k (given m n) = given (m + k) n
more k (refused r) = refused r

-- the records of a value: its own, and those beneath it
abbrev pub size_of : Value → ℕ
size_of v = suc (size v.beneath)

abbrev pub with_count : Answer ℕ → Answer (WithCount Unit)
with_count a = and_then a (λ k n. given (record { value = tt; count = k }) n)

-- the number of a table's records
abbrev pub count_records : Answer LocatedTable → Answer (WithCount Unit)
count_records a = with_count (counting size a)
