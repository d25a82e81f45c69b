-- `table_writer::judge::judge_name` meets its contract. Assumes nothing.
use Rattle.std.proofs.lemmas.Result.{err_from_is_err_and}
use Rattle.table_writer.proofs.SizeLaws.{octets-missing, name-refused, name-given}
use Rattle.table_writer.proofs.judge.judge_name.Goals as goal

pub returns-in_default : goal.returns-in_default
returns-in_default c =
    rw (c.if-not-named.false, octets-missing c.args.pool.now c.args.name c.in_default.ensures)

pub returns-in_err-judge_short_str : goal.returns-in_err-judge_short_str
returns-in_err-judge_short_str c =
    let p = err_from_is_err_and c.from_residual.result c.from_residual.ensures.1 in
    rw (p.1, p.2, c.if-not-named.false) (name-refused _ _ _ _ c.in-Some.ensures c.in_err-judge_short_str.ensures)

pub returns : goal.returns
returns c =
    rw c.if-not-named.false (name-given _ _ _ _ c.in-Some.ensures c.in_ok-judge_short_str.ensures)
