-- The two passes together: from what the first has counted to the answer and the tape at exit.
use mathlib.Core.Path.{◌≡◌, refl, sym, ap, ◌∙◌}
use mathlib.Core.Bool.{true, false}
use mathlib.Core.List.{List, []}
use Prim.Native.Nat.{ℕ, zero, suc, ◌+◌, ◌*◌, ◌≤◌, ◌<◌}
use native.Mathlib.Omega.{arith}
use borrow.Author.Tests.{eq-eqb, ne_eqb}
use lib.ListN.{length}
use Rattle.std.specs.Prelude.{Result, Ok, Err}
use Rattle.std.specs.Result.{IsOk}
use Rattle.types.specs.Answer.{Answer, Refusal, given, refused, and_then}
use Rattle.types.specs.Memory.{splice, outcome}
use Rattle.types.specs.Records.{concat_map}
use Rattle.types.specs.Strings.{span_at}
use Rattle.types.specs.declared.Span.{Span}
use Rattle.types.proofs.RoundTrip.{span-here}
use Rattle.types.proofs.Chain.{given-next, given-value}
use Rattle.types.proofs.Splice.{splice-nil}
use Rattle.types.proofs.Standing.{length-zero}
use Rattle.tables.specs.Letters.{Letters}
use Rattle.tables.specs.Forest.{none, item, size, LocatedTable}
use Rattle.tables.specs.Reading.{Value, no_name, entries_at, container_at, value_at, table_at, lone_value_at}
use Rattle.tables.specs.Tape.{tape_records, flatten, WithCount, room_of, fill_tape, as_tape, read_table, read_lone_value}
use Rattle.tables.proofs.ReadingLaws.{table-move, value-move, lone-entries}
use Rattle.tables.proofs.TapeLaws.{length-flatten}
use Rattle.table_reader.specs.Counting.{counting, with_count, count_records}
use Rattle.types.specs.AnswerOf.{answer_of}
use Rattle.types.specs.declared.Cursor.{Cursor}
use Rattle.types.specs.declared.WireError.{WireError}
use Rattle.table_reader.specs.AnswerOf.{count_alone, answer_of_records}
use Rattle.table_reader.specs.Filling.{Filled, Fits, Stored, Holds}
use Rattle.table_reader.specs.Ending.{ending_at, read_table_to}
use Rattle.table_reader.proofs.FillLaws.{value-whole, container-whole}

-- the count that the code answers
pub records-counted : (r : Result (ℕ × Cursor) WireError) → answer_of_records r ≡ with_count (answer_of r)
records-counted (Ok (k, next)) = refl
records-counted (Err e) = refl

pub count-given : (a : Answer LocatedTable) (k n : ℕ) → count_records a ≡ given (count_alone k) n → (t : LocatedTable) × (a ≡ given t n) × (size t ≡ k)
unfolding counting
count-given (given t m) k n e =
    (t, ap (given t) (given-next _ _ m n e), ap (λ (w : WithCount Unit). w.count) (given-value (count_alone (size t)) (count_alone k) m n e))
count-given (refused r) k n e = let z : ◌≡◌ {A = ℕ} 0 1 = cc in absurd (omega arith)

pub count-refused : (a : Answer LocatedTable) (r : Refusal) → count_records a ≡ refused r → a ≡ refused r
unfolding counting
count-refused (given t m) r e = let z : ◌≡◌ {A = ℕ} 0 1 = cc in absurd (omega arith)
count-refused (refused q) r e = let same : q ≡ r = cc in ap refused same

-- the whole outcome of a reader, once its records stand on the tape
filled : (a : Answer LocatedTable) (used : ℕ) (tape after : List ℕ) (t : LocatedTable) (k n : ℕ) → a ≡ given t n → size t ≡ k
    → after ≡ splice (used * 6) (concat_map tape_records.words (flatten t)) tape → outcome (given (count_alone k) n) after ≡ fill_tape used tape (as_tape a)
filled a used tape after t k n e c m = rw (e, m, length-flatten t, c)

not-filled : (a : Answer LocatedTable) (used : ℕ) (tape : List ℕ) (r : Refusal) → count_records a ≡ refused r → outcome (refused r) tape ≡ fill_tape used tape (as_tape a)
not-filled a used tape r e = rw (count-refused a r e)

-- in the room behind the used records there is space for k records, if k is not 0
space : (used k : ℕ) (tape : List ℕ) → (k ≡ 0 → ⊥) → k ≤ room_of used tape → (used + k) * 6 ≤ length tape
space used zero tape h f = absurd (h refl)
space used (suc k) tape h f = omega arith

module _ (letters : Letters) (s : List ℕ) (at used : ℕ) (tape : List ℕ) where
  abbrev table_read : Answer LocatedTable
  table_read = table_at letters s at (room_of used tape)

  abbrev value_read : Answer LocatedTable
  value_read = lone_value_at letters s at (room_of used tape)

  pub table-refused : (r : Refusal) → count_records table_read ≡ refused r → outcome (refused r) tape ≡ read_table letters s at used tape
  unfolding read_table
  table-refused r e = not-filled table_read used tape r e

  pub value-refused : (r : Refusal) → count_records value_read ≡ refused r → outcome (refused r) tape ≡ read_lone_value letters s at used tape
  unfolding read_lone_value
  value-refused r e = not-filled value_read used tape r e

  module _ (k n : ℕ) (e : count_records table_read ≡ given (count_alone k) n) where
    pub table_empty : k ≡ 0 → outcome (given (count_alone k) n) tape ≡ read_table letters s at used tape
    unfolding read_table
    table_empty z =
        let a = count-given table_read k n e in
        let no : flatten a.0 ≡ [] = length-zero (flatten a.0) (length-flatten a.0 ∙ a.2 ∙ z) in
        filled table_read used tape tape a.0 k n a.1 a.2 (rw no (sym (splice-nil (used * 6) tape)))

    table-whole : (t : LocatedTable) → table_read ≡ given t n → container_at (value_at letters 15) true s at (length s) ≡ given t n
    unfolding table_at
    table-whole t a = container-whole letters 15 s true at (room_of used tape) t n a

    pub table_fits : (k ≡ 0 → ⊥) → Fits flatten (container_at (value_at letters 15) true s at (length s)) used tape
    table_fits h =
        let a = count-given table_read k n e in
        let m = table-move letters s at (room_of used tape) a.0 n a.1 in
        let l = length-flatten a.0 in
        rw (table-whole a.0 a.1, l, a.2) (space used k tape h (omega (arith, m.fits, a.2)))

    pub table_filled : (after : List ℕ) (r : Filled) → Stored flatten (container_at (value_at letters 15) true s at (length s)) used tape after r
        → outcome (given (count_alone k) n) after ≡ read_table letters s at used tape
    unfolding read_table
    table_filled after r h =
        let a = count-given table_read k n e in
        let stored : Holds (flatten a.0) used n tape after r = rw (table-whole a.0 a.1) at h in
        filled table_read used tape after a.0 k n a.1 a.2 stored.memory

  -- a table that is filled only where it ends at a given position
  module _ (end : ℕ) where
    pub ended-refused : (r : Refusal) → count_records table_read ≡ refused r → outcome (refused r) tape ≡ read_table_to letters s at end used tape
    unfolding read_table_to
    ended-refused r e = ap (ending_at end tape) (table-refused r e)

    pub ended_here : (k n : ℕ) (after : List ℕ) → n ≡ end → outcome (given (count_alone k) n) after ≡ read_table letters s at used tape
        → outcome (given (count_alone k) n) after ≡ read_table_to letters s at end used tape
    unfolding read_table_to
    ended_here k n after h e = rw (← e, eq-eqb n end h)

    pub ended-elsewhere : (k n : ℕ) → count_records table_read ≡ given (count_alone k) n → (n ≡ end → ⊥)
        → outcome (given (count_alone k) n) tape ≡ read_table_to letters s at end used tape
    unfolding read_table_to read_table
    ended-elsewhere k n e h =
        let a = count-given table_read k n e in
        rw (a.1, ne_eqb n end h, length-flatten a.0, a.2)

  -- a lone value, as the value that it is
  lone-given : (a : Answer Value) (t : LocatedTable) (n : ℕ) → and_then a (λ v q. given (item no_name v.letter v.payload v.beneath none) q) ≡ given t n
      → (v : Value) × (a ≡ given v n) × (item no_name v.letter v.payload v.beneath none ≡ t)
  lone-given (given v m) t n e =
      let same : m ≡ n = cc in
      let value : item no_name v.letter v.payload v.beneath none ≡ t = cc in
      (v, ap (given v) same, value)
  lone-given (refused r) t n e = let z : ◌≡◌ {A = ℕ} 0 1 = cc in absurd (omega arith)

  module _ (k n : ℕ) (e : count_records value_read ≡ given (count_alone k) n) where
    record Lone : Type 0 where
      table : LocatedTable
      reads : value_read ≡ given table n
      count : size table ≡ k
      some : 0 < k
      fits : k ≤ room_of used tape
      there : at < length s
      whole : entries_at (value_at letters 15) false s at (at + 1) (length s) ≡ given table n

    lone : Lone
    unfolding lone_value_at size
    lone =
        let a = count-given value_read k n e in
        let v = lone-given (value_at letters 15 s at (room_of used tape)) a.0 n a.1 in
        let m = value-move letters 15 s at (room_of used tape) v.0 n v.1 in
        let z : suc (size v.0.beneath + 0) ≡ size a.0 = ap size v.2 in
        let inside : at < length s = omega (arith, m.far, m.inside) in
        record {
          table = a.0;
          reads = a.1;
          count = a.2;
          some = omega (arith, z, a.2);
          fits = omega (arith, z, a.2, m.fits);
          there = inside;
          whole = lone-entries letters s at (length s) inside ∙ (rw (value-whole letters 15 s at (room_of used tape) v.0 n v.1) (ap (λ (t : LocatedTable). given t n) v.2));
        }

    -- the octet of its letter
    pub value-alone : (q : Result (Span × Cursor) WireError) → answer_of q ≡ span_at 1 s at → IsOk q
    value-alone (Ok x) e = refl
    value-alone (Err r) e = let g = e ∙ span-here 1 s at (omega (arith, lone.there)) in let z : ◌≡◌ {A = ℕ} 0 1 = cc in absurd (omega arith)

    pub value-fits : (at + 1 ≤ length s) × Fits flatten (entries_at (value_at letters 15) false s at (at + 1) (length s)) used tape
    value-fits =
        let a = lone in
        let l = length-flatten a.table in
        let room : (used + length (flatten a.table)) * 6 ≤ length tape = rw (l, a.count) (space used k tape (λ z. omega (arith, a.some)) a.fits) in
        (omega (arith, a.there), rw a.whole room)

    pub value-filled : (after : List ℕ) (r : Filled) → Stored flatten (entries_at (value_at letters 15) false s at (at + 1) (length s)) used tape after r
        → outcome (given (count_alone k) n) after ≡ read_lone_value letters s at used tape
    unfolding read_lone_value
    value-filled after r h =
        let a = lone in
        let stored : Holds (flatten a.table) used n tape after r = rw a.whole at h in
        filled value_read used tape after a.table k n a.reads a.count stored.memory
