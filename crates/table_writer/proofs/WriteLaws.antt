-- The two passes together: from what the first has judged to the answer and the output at exit.
use mathlib.Core.Path.{◌≡◌, sym, ap, ◌∙◌}
use mathlib.Core.Logic.{inl, inr}
use mathlib.Core.Bool.{Bool, true, false}
use mathlib.Core.List.{List}
use Rattle.std.specs.Prelude.{Option, None, Some}
use Prim.Native.Nat.{ℕ, ◌+◌, ◌-◌, ◌/◌, ◌≤◌, ◌<◌}
use native.Mathlib.Omega.{arith}
use lib.ListN.{length, length-append}
use Rattle.types.specs.Answer.{Refusal, given, refused, too_long, no_space}
use Rattle.types.specs.Octets.{octets}
use Rattle.types.specs.Strings.{long_str, judge_length}
use Rattle.types.specs.Judgement.{or_else}
use Rattle.types.specs.Memory.{Outcome, outcome}
use Rattle.types.specs.Records.{records}
use Rattle.types.proofs.Tests.{leb_yes, leb_no}
use Rattle.types.proofs.Chain.{or_else-none}
use Rattle.types.proofs.NumberLaws.{length-octets}
use Rattle.writers.specs.Writers.{write_at}
use Rattle.writers.proofs.WriterLaws.{write-full, write-given}
use Rattle.tables.specs.Letters.{Letters}
use Rattle.tables.specs.Tape.{tape_records}
use Rattle.tables.specs.Writing.{body, judge_records, judge_table, judge_lone_value, tape_meaning, write_table, write_lone_value}
use Rattle.tables.proofs.JudgeLaws.{lone-passes}
use Rattle.table_writer.specs.Sizes.{capped, sized, records_from, records_octets, tape_size}
use Rattle.table_writer.specs.Emitting.{Emitted, Ready}
use Rattle.table_writer.proofs.RecordLaws.{records-all}
use Rattle.table_writer.proofs.SizeLaws.{sized-given, sized-refused}

-- a size that is no more than some limit below the cap is exact, and one over it is over it
exact : (n m limit : ℕ) → limit ≤ 4294967295 + 5 → capped m ≡ n → n ≤ limit → m ≡ n
unfolding capped
exact n m limit l e h = omega arith

over : (n m limit : ℕ) → limit ≤ 4294967295 + 5 → capped m ≡ n → limit < n → limit < m
unfolding capped
over n m limit l e h = omega arith

-- A writer of the octets xs that judges first, then a length

module _ (judged : Option Refusal) (len : ℕ) (xs : List ℕ) (at : ℕ) (out : List ℕ) where
  abbrev written : Outcome Unit
  written = write_at (or_else judged (judge_length len)) xs at out

  write-judged : (r : Refusal) → judged ≡ Some r → outcome (refused r) out ≡ written
  unfolding write_at
  write-judged r e = rw e

  module _ (passes : judged ≡ None) where
    write-long : 4294967295 < len → outcome (refused too_long) out ≡ written
    unfolding write_at
    write-long h = rw (passes, leb_no len 4294967295 h)

    write-no-space : len ≤ 4294967295 → length out < at + length xs → outcome (refused no_space) out ≡ written
    write-no-space h f = rw (passes, leb_yes len 4294967295 h) (sym (write-full xs at out f))

    write-emitted : (after : List ℕ) (r : ℕ) → len ≤ 4294967295 → at + length xs ≤ length out → Emitted xs at out after r → outcome (given tt r) after ≡ written
    write-emitted after r h f e = rw (passes, leb_yes len 4294967295 h, e.next, e.memory) (sym (write-given xs at out f))

module _ (letters : Letters) (pool tape : List ℕ) (at : ℕ) (out : List ℕ) where
  all : (named : Bool) → records_octets letters named pool (records_from tape 0 (length tape / 6)) ≡ body letters named (tape_meaning letters pool tape)
  unfolding records_octets tape_meaning
  all named = rw (records-all tape)

  -- A table

  abbrev table_body : List ℕ
  table_body = body letters true (tape_meaning letters pool tape)

  length-table : length (long_str table_body) ≡ 4 + length table_body
  length-table = length-append (octets 4 (length table_body)) table_body ∙ ap (λ (k : ℕ). k + length table_body) (length-octets 4 (length table_body))

  pub table-refused : (r : Refusal) → inr r ≡ sized (judge_table letters pool tape) (tape_size letters true pool tape) → outcome (refused r) out ≡ write_table letters pool tape at out
  unfolding write_table
  table-refused r e = write-judged (judge_table letters pool tape) (length table_body) (long_str table_body) at out r (sized-refused (judge_table letters pool tape) (tape_size letters true pool tape) r e)

  module _ (n : ℕ) (e : inl n ≡ sized (judge_table letters pool tape) (tape_size letters true pool tape)) where
    table-passes : (judge_table letters pool tape ≡ None) × (capped (length table_body) ≡ n)
    table-passes = sized-given (judge_table letters pool tape) (tape_size letters true pool tape) n (sym e)

    pub table-too-long : 4294967295 < n → outcome (refused too_long) out ≡ write_table letters pool tape at out
    unfolding write_table
    table-too-long h =
        write-long (judge_table letters pool tape) (length table_body) (long_str table_body) at out table-passes.0 (over n (length table_body) 4294967295 (omega arith) table-passes.1 h)

    module _ (h : n ≤ 4294967295) where
      pub table-exact : length table_body ≡ n
      table-exact = exact n (length table_body) 4294967295 (omega arith) table-passes.1 h

      pub table-length : n ≡ length (records_octets letters true pool (records_from tape 0 (length tape / 6)))
      table-length = rw (all true) (sym table-exact)

      pub table-space : at + (n + 4) ≤ length out → at + 4 + length (records_octets letters true pool (records_from tape 0 (length tape / 6))) ≤ length out
      table-space f = omega (arith, table-length)

      pub table-no-space : length out < at + (n + 4) → outcome (refused no_space) out ≡ write_table letters pool tape at out
      unfolding write_table
      table-no-space f =
          write-no-space (judge_table letters pool tape) (length table_body) (long_str table_body) at out table-passes.0 (omega (arith, table-exact)) (omega (arith, table-exact, length-table))

      pub table-ready : at + (n + 4) ≤ length out
          → Ready (judge_records letters 15 true pool 0 (records_from tape 0 (length tape / 6))) (records_octets letters true pool (records_from tape 0 (length tape / 6))) (at + 4) out (length tape / 6) tape
      unfolding judge_table
      table-ready f =
          record {
            passes = rw (records-all tape) (or_else-none (judge_records letters 15 true pool 0 (records tape_records tape)) _ table-passes.0).0;
            lengths = rw (all true) (omega (arith, table-exact));
            space = rw (all true) (omega (arith, table-exact));
            on_tape = omega arith;
          }

      pub table-emitted : (after : List ℕ) (r : ℕ) → at + (n + 4) ≤ length out → Emitted (long_str (records_octets letters true pool (records_from tape 0 (length tape / 6)))) at out after r
          → outcome (given tt r) after ≡ write_table letters pool tape at out
      unfolding write_table
      table-emitted after r f p =
          write-emitted (judge_table letters pool tape) (length table_body) (long_str table_body) at out table-passes.0 after r (omega (arith, table-exact)) (omega (arith, table-exact, length-table))
          (rw (all true) at p)

  -- A lone value

  abbrev value_body : List ℕ
  value_body = body letters false (tape_meaning letters pool tape)

  pub value-refused : (r : Refusal) → inr r ≡ sized (judge_lone_value letters pool tape) (tape_size letters false pool tape) → outcome (refused r) out ≡ write_lone_value letters pool tape at out
  unfolding write_lone_value
  value-refused r e = write-judged (judge_lone_value letters pool tape) (length value_body - 5) value_body at out r (sized-refused (judge_lone_value letters pool tape) (tape_size letters false pool tape) r e)

  module _ (n : ℕ) (e : inl n ≡ sized (judge_lone_value letters pool tape) (tape_size letters false pool tape)) where
    value_passes : (judge_lone_value letters pool tape ≡ None) × (capped (length value_body) ≡ n)
    value_passes = sized-given (judge_lone_value letters pool tape) (tape_size letters false pool tape) n (sym e)

    pub value-too-long : 4294967295 + 5 < n → outcome (refused too_long) out ≡ write_lone_value letters pool tape at out
    unfolding write_lone_value
    value-too-long h =
        write-long (judge_lone_value letters pool tape) (length value_body - 5) value_body at out value_passes.0
        (omega (arith, over n (length value_body) (4294967295 + 5) (omega arith) value_passes.1 h))

    module _ (h : n ≤ 4294967295 + 5) where
      value-exact : length value_body ≡ n
      value-exact = exact n (length value_body) (4294967295 + 5) (omega arith) value_passes.1 h

      pub value-no-space : length out < at + n → outcome (refused no_space) out ≡ write_lone_value letters pool tape at out
      unfolding write_lone_value
      value-no-space f =
          write-no-space (judge_lone_value letters pool tape) (length value_body - 5) value_body at out value_passes.0 (omega (arith, value-exact)) (omega (arith, value-exact))

      pub value-ready : at + n ≤ length out
          → Ready (judge_records letters 15 false pool 0 (records_from tape 0 (length tape / 6))) (records_octets letters false pool (records_from tape 0 (length tape / 6))) at out (length tape / 6) tape
      value-ready f =
          record {
            passes = rw (records-all tape) (lone-passes letters pool tape value_passes.0);
            lengths = rw (all false) (omega (arith, value-exact));
            space = rw (all false) (omega (arith, value-exact));
            on_tape = omega arith;
          }

      pub value-emitted : (after : List ℕ) (r : ℕ) → at + n ≤ length out → Emitted (records_octets letters false pool (records_from tape 0 (length tape / 6))) at out after r
          → outcome (given tt r) after ≡ write_lone_value letters pool tape at out
      unfolding write_lone_value
      value-emitted after r f p =
          write-emitted (judge_lone_value letters pool tape) (length value_body - 5) value_body at out value_passes.0 after r (omega (arith, value-exact)) (omega (arith, value-exact)) (rw (all false) at p)
