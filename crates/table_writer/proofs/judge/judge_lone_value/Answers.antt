-- `table_writer::judge::judge_lone_value` meets its contract. Assumes nothing.
use mathlib.Core.Path.{◌∙◌}
use native.Mathlib.Omega.{arith}
use Rattle.std.proofs.Common.{rules}
use Rattle.tables.specs.Letters.{errata}
use Rattle.table_writer.proofs.WholeLaws.{lone-missing, lone-there, lone-tape, lone-refused, lone-miscounts}
use Rattle.table_writer.proofs.judge.judge_lone_value.Goals as goal

pub returns-in_err-r : goal.returns-in_err-r
returns-in_err-r c =
    let a = c.args in
    rw (← lone-missing errata a.source.pool.now a.source.tape.now _ c.in_err-r.ensures) (search rules)

pub overflow_sub-records_in : goal.overflow_sub-records_in
overflow_sub-records_in c =
    let a = c.args in
    rw c.records_in.ensures (lone-there errata a.source.pool.now a.source.tape.now _ c.in_ok-r.ensures)

pub returns-then-r-records_in : goal.returns-then-r-records_in
returns-then-r-records_in c =
    let a = c.args in
    c.judge_tape.ensures ∙ lone-tape errata a.source.pool.now a.source.tape.now _ c.in_ok-r.ensures (rw c.records_in.ensures at c.if-r-records_in.true)

pub judge_records-requires : goal.judge_records-requires
judge_records-requires c =
    let a = c.args in
    let one = lone-there errata a.source.pool.now a.source.tape.now _ c.in_ok-r.ensures in
    (omega arith, omega arith)

pub returns-in_err-judge_records : goal.returns-in_err-judge_records
returns-in_err-judge_records c =
    let a = c.args in
    rw (← lone-refused errata a.source.pool.now a.source.tape.now _ c.in_ok-r.ensures (rw c.records_in.ensures at c.if-r-records_in.false) _ c.in_err-judge_records.ensures) (search rules)

pub returns : goal.returns
returns c =
    let a = c.args in
    lone-miscounts errata a.source.pool.now a.source.tape.now _ c.in_ok-r.ensures (rw c.records_in.ensures at c.if-r-records_in.false) _ c.in_ok-judge_records.ensures
