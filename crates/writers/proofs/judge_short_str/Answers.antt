-- `writers::judge_short_str` meets its contract. Assumes nothing.
use native.Mathlib.Omega.{arith}
use Rattle.std.proofs.lemmas.Result.{err_from_is_err_and}
use Rattle.utf8.proofs.ScanLaws.{well-formed, ill-formed}
use Rattle.writers.proofs.WriterLaws.{short-too-long, short-not-utf8, short-good}
use Rattle.writers.proofs.judge_short_str.Goals as goal

pub returns-then-s-gt255 : goal.returns-then-s-gt255
returns-then-s-gt255 c =
    short-too-long _ (omega arith)

pub returns-in_err-scan_utf8 : goal.returns-in_err-scan_utf8
returns-in_err-scan_utf8 c =
    let p = err_from_is_err_and c.from_residual.result c.from_residual.ensures.1 in
    rw (p.1, p.2) (short-not-utf8 _ (omega arith) (ill-formed _ c.in_err-scan_utf8.ensures))

pub returns : goal.returns
returns c =
    short-good _ (omega arith) (well-formed _ c.in_ok-scan_utf8.ensures)
