-- `writers::write_short_str` meets its contract. Assumes nothing.
use Rattle.std.proofs.lemmas.Result.{err_from_is_err_and}
use Rattle.writers.proofs.WriterLaws.{short-refused, short-written}
use Rattle.writers.proofs.write_short_str.Goals as goal

pub returns-in_err-judge_short_str : goal.returns-in_err-judge_short_str
returns-in_err-judge_short_str c =
    let p = err_from_is_err_and c.from_residual.result c.from_residual.ensures.1 in
    rw (p.1, p.2) (short-refused _ _ _ c.in_err-judge_short_str.ensures)

pub returns : goal.returns
returns c =
    short-written _ _ _ c.in_ok-judge_short_str.ensures c.write_counted.ensures
