-- `method_writer::sizes::size_short_str` meets its contract. Assumes nothing.
use native.Mathlib.Omega.{arith}
use Rattle.std.proofs.lemmas.Result.{err_from_is_err_and}
use Rattle.method_writer.proofs.SizeLaws.{outside, short-judged, short-enough}
use Rattle.method_writer.proofs.sizes.size_short_str.Goals as goal

pub returns-in_default : goal.returns-in_default
returns-in_default c =
    outside c.args.pool.now c.args.text c.in_default.ensures _ _

pub returns-in_err-judge_short_str : goal.returns-in_err-judge_short_str
returns-in_err-judge_short_str c =
    let p = err_from_is_err_and c.from_residual.result c.from_residual.ensures.1 in
    rw (p.1, p.2) (short-judged c.args.pool.now c.args.text c.in-Some.ensures _ c.in_err-judge_short_str.ensures)

pub overflow_add-result : goal.overflow_add-result
overflow_add-result c =
    omega (arith, short-enough c.args.pool.now c.args.text c.in-Some.ensures c.in_ok-judge_short_str.ensures)

pub returns : goal.returns
returns c =
    short-judged c.args.pool.now c.args.text c.in-Some.ensures _ c.in_ok-judge_short_str.ensures
