-- `table_reader::fill_counted` meets its contract. Assumes nothing.
use Rattle.tables.specs.Letters.{errata}
use Rattle.table_reader.proofs.ReaderLaws.{table_empty, table_fits, table_filled}
use Rattle.table_reader.proofs.fill_counted.Goals as goal

pub fill_table-requires : goal.fill_table-requires
fill_table-requires c =
    let a = c.args in
    table_fits errata a.s.now a.at.at a.used a.tape.now _ _ c.requires c.if-count-ne0.true

pub returns-then-count-ne0 : goal.returns-then-count-ne0
returns-then-count-ne0 c =
    let a = c.args in
    table_filled errata a.s.now a.at.at a.used a.tape.now _ _ c.requires _ _ c.fill_table.ensures

pub returns-else-count-ne0 : goal.returns-else-count-ne0
returns-else-count-ne0 c =
    let a = c.args in
    table_empty errata a.s.now a.at.at a.used a.tape.now _ _ c.requires c.if-count-ne0.false
