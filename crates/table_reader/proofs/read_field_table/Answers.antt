-- `table_reader::read_field_table` meets its contract. Assumes nothing.
use mathlib.Core.Path.{sym}
use Rattle.std.proofs.Common.{rules}
use Rattle.tables.specs.Letters.{errata}
use Rattle.table_reader.proofs.ReaderLaws.{table-refused}
use Rattle.table_reader.proofs.read_field_table.Goals as goal

pub returns-in_err-count : goal.returns-in_err-count
returns-in_err-count c =
    rw (← (table-refused errata _ _ _ _ _ (rw c.room.ensures at (sym c.in_err-count.ensures)))) (search rules)
