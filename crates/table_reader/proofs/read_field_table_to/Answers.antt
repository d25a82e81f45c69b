-- `table_reader::read_field_table_to` meets its contract. Assumes nothing.
use mathlib.Core.Path.{sym}
use Rattle.std.proofs.Common.{rules}
use Rattle.tables.specs.Letters.{errata}
use Rattle.table_reader.proofs.ReaderLaws.{ended-refused, ended_here, ended-elsewhere}
use Rattle.table_reader.proofs.read_field_table_to.Goals as goal

pub returns-in_err-count : goal.returns-in_err-count
returns-in_err-count c =
    rw (← (ended-refused errata _ _ _ _ _ _ (rw c.room.ensures at (sym c.in_err-count.ensures)))) (search rules)

pub returns-then-next-end : goal.returns-then-next-end
returns-then-next-end c =
    ended_here errata _ _ _ _ _ _ _ _ c.if-next-end.true c.fill_counted.ensures

pub returns-else-next-end : goal.returns-else-next-end
returns-else-next-end c =
    ended-elsewhere errata _ _ _ _ _ _ _ (rw c.room.ensures at (sym c.in_ok-count.ensures)) c.if-next-end.false
