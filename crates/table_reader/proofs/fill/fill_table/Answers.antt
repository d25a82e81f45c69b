-- `table_reader::fill::fill_table` meets its contract. Assumes nothing.
use mathlib.Core.Path.{sym}
use Rattle.table_reader.proofs.FillLaws.{body-inside, entries_fit, entries-stored, has_body}
use Rattle.table_reader.proofs.fill.fill_table.Goals as goal

pub unwrap-requires : goal.unwrap-requires
unwrap-requires c =
    has_body _ _ _ _ _ _ _ c.long_str.result c.long_str.ensures c.requires

pub fill_entries-requires : goal.fill_entries-requires
fill_entries-requires c =
    let read = sym (rw c.unwrap.ensures at c.long_str.ensures) in
    (body-inside _ _ _ _ read, entries_fit _ _ _ _ _ _ _ read _ _ c.requires)

pub returns : goal.returns
returns c =
    let read = sym (rw c.unwrap.ensures at c.long_str.ensures) in
    entries-stored _ _ _ _ _ _ _ read _ _ _ _ c.fill_entries.ensures
