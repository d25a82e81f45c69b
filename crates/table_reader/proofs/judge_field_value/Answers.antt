-- `table_reader::judge_field_value` meets its contract. Assumes nothing.
use mathlib.Core.Path.{ap, ◌∙◌}
use native.Mathlib.Omega.{arith}
use Rattle.std.proofs.Common.{rules}
use Rattle.types.proofs.StringLaws.{span_at-read}
use Rattle.tables.specs.Letters.{errata}
use Rattle.table_reader.specs.Counting.{with_count}
use Rattle.table_reader.proofs.CountingLaws.{lone-counted, lone-refused}
use Rattle.table_reader.proofs.ReaderLaws.{records-counted}
use Rattle.table_reader.proofs.judge_field_value.Goals as goal

pub returns-in_err-alone : goal.returns-in_err-alone
returns-in_err-alone c =
    rw (← lone-refused errata _ _ _ c.in_err-alone.ensures) (search rules)

pub judge_entries-requires : goal.judge_entries-requires
judge_entries-requires c =
    let alone = span_at-read 1 _ _ c.in_ok-alone.ensures in
    omega (arith, alone.start, alone.len, alone.within)

pub returns : goal.returns
returns c =
    records-counted _ ∙ ap with_count (c.judge_entries.ensures ∙ lone-counted errata _ _ _ _ c.in_ok-alone.ensures)
