-- `table_writer::judge_field_table` meets its contract. Assumes nothing.
use mathlib.Core.Path.{◌∙◌}
use Rattle.tables.specs.Letters.{errata}
use Rattle.table_writer.proofs.WholeLaws.{table-tape}
use Rattle.table_writer.proofs.judge_field_table.Goals as goal

pub returns : goal.returns
returns c =
    let a = c.args in
    c.judge_tape.ensures ∙ table-tape errata a.pool.now a.tape.now
