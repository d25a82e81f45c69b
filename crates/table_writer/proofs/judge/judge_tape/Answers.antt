-- `table_writer::judge::judge_tape` meets its contract. Assumes nothing.
use Rattle.std.proofs.Common.{rules}
use Rattle.tables.specs.Letters.{errata}
use Rattle.table_writer.proofs.WholeLaws.{tape-refused, tape-left-over, tape-given}
use Rattle.table_writer.proofs.judge.judge_tape.Goals as goal

pub returns-in_err-size : goal.returns-in_err-size
returns-in_err-size c =
    let a = c.args in
    rw (← tape-refused errata a.source.pool.now a.source.tape.now a.named _ (rw c.records_in-count.ensures at c.in_err-size.ensures)) (search rules)

pub returns-then-source-ne0 : goal.returns-then-source-ne0
returns-then-source-ne0 c =
    let a = c.args in
    rw c.records_in-count.ensures (tape-left-over errata a.source.pool.now a.source.tape.now a.named _ (rw c.records_in-count.ensures at c.in_ok-size.ensures) c.if-source-ne0.true)

pub returns : goal.returns
returns c =
    let a = c.args in
    tape-given errata a.source.pool.now a.source.tape.now a.named _ (rw c.records_in-count.ensures at c.in_ok-size.ensures) c.if-source-ne0.false
