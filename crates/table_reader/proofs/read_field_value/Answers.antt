-- `table_reader::read_field_value` meets its contract. Assumes nothing.
use mathlib.Core.Path.{sym}
use Rattle.std.proofs.Common.{rules}
use Rattle.types.proofs.StringLaws.{span_at-read}
use Rattle.tables.specs.Letters.{errata}
use Rattle.table_reader.proofs.ReaderLaws.{value-refused, value-alone, value-fits, value-filled}
use Rattle.table_reader.proofs.read_field_value.Goals as goal

pub returns-in_err-count : goal.returns-in_err-count
returns-in_err-count c =
    rw (← (value-refused errata _ _ _ _ _ (rw c.room.ensures at (sym c.in_err-count.ensures)))) (search rules)

pub unwrap-requires : goal.unwrap-requires
unwrap-requires c =
    value-alone errata _ _ _ _ _ _ (rw c.room.ensures at (sym c.in_ok-count.ensures)) c.span.result c.span.ensures

pub fill_entries-requires : goal.fill_entries-requires
fill_entries-requires c =
    let alone = span_at-read 1 _ _ (rw c.unwrap.ensures at c.span.ensures) in
    rw (alone.start, alone.len) (value-fits errata _ _ _ _ _ _ (rw c.room.ensures at (sym c.in_ok-count.ensures)))

pub returns : goal.returns
returns c =
    let alone = span_at-read 1 _ _ (rw c.unwrap.ensures at c.span.ensures) in
    value-filled errata _ _ _ _ _ _ (rw c.room.ensures at (sym c.in_ok-count.ensures)) _ _ (rw (alone.start, alone.len) at c.fill_entries.ensures)
