-- `table_reader::judge_field_table` meets its contract. Assumes nothing.
use mathlib.Core.Path.{sym, ap, ◌∙◌}
use Rattle.std.proofs.Common.{rules}
use Rattle.tables.specs.Letters.{errata}
use Rattle.tables.specs.Reading.{table_at}
use Rattle.table_reader.specs.Counting.{with_count}
use Rattle.table_reader.proofs.CountingLaws.{container-cut, container-in}
use Rattle.table_reader.proofs.FillLaws.{body-inside}
use Rattle.table_reader.proofs.ReaderLaws.{records-counted}
use Rattle.table_reader.proofs.judge_field_table.Goals as goal

pub returns-in_err-body : goal.returns-in_err-body
unfolding table_at
returns-in_err-body c =
    rw (container-cut errata _ _ _ _ _ c.in_err-body.ensures) (search rules)

pub judge_entries-requires : goal.judge_entries-requires
judge_entries-requires c =
    body-inside _ _ _ _ (sym c.in_ok-body.ensures)

pub returns : goal.returns
unfolding table_at
returns c =
    records-counted _ ∙ ap with_count (c.judge_entries.ensures ∙ sym (container-in errata _ _ _ _ _ _ _ c.in_ok-body.ensures))
