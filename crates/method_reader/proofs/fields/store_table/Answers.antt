-- `method_reader::fields::store_table` meets its contract. Assumes nothing.
use mathlib.Core.Path.{◌≡◌, sym, ap}
use mathlib.Core.List.{List}
use Prim.Native.Nat.{ℕ}
use lib.ListN.{set}
use Rattle.std.proofs.Common.{rules}
use Rattle.types.specs.Answer.{Refusal, given, refused}
use Rattle.tables.specs.Letters.{errata}
use Rattle.tables.specs.Forest.{LocatedTable}
use Rattle.tables.specs.Reading.{table_at}
use Rattle.table_reader.proofs.ReaderLaws.{count-given, count-refused}
use Rattle.method.specs.Fields.{table}
use Rattle.method.specs.Reading.{arg_at}
use Rattle.method_reader.proofs.FieldLaws.{stored_refused, stored-given}
use Rattle.method_reader.proofs.fields.store_table.Goals as goal

module _ (s : List ℕ) (p room : ℕ) where
  table-refused : (e : Refusal) → table_at errata s p room ≡ refused e → refused e ≡ arg_at errata table s p room
  unfolding arg_at
  table-refused e h = rw h

  table-read : (t : LocatedTable) (q : ℕ) → table_at errata s p room ≡ given t q → given (record { start = p; entries = t }) q ≡ arg_at errata table s p room
  unfolding arg_at
  table-read t q h = rw h

pub returns-in_err-records : goal.returns-in_err-records
returns-in_err-records c =
    stored_refused _ _ _ _ _ _ _ _ _ (table-refused _ _ _ _ (count-refused _ _ (sym c.in_err-records.ensures))) (search rules)

pub returns : goal.returns
returns c =
    let a = c.args in
    let e = count-given (table_at errata a.s.now a.at.at a.room) _ _ (sym c.in_ok-records.ensures) in
    stored-given _ table a.s.now a.at.at a.room _ _ (record { start = a.at.at; entries = e.0 }) _ _ (table-read _ _ _ _ _ e.1) (sym e.2) c.requires (ap (set a.words.now 0) (sym e.2))
