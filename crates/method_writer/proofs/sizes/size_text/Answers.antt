-- `method_writer::sizes::size_text` meets its contract. Assumes nothing.
use mathlib.Core.Bool.{true, false}
use Rattle.std.proofs.lemmas.Result.{err_from_is_err_and}
use Rattle.utf8.proofs.ScanLaws.{well-formed, ill-formed}
use Rattle.method_writer.proofs.SizeLaws.{outside, text-scanned}
use Rattle.method_writer.proofs.sizes.size_text.Goals as goal

pub returns-in_default : goal.returns-in_default
returns-in_default c =
    outside c.args.pool.now c.args.text c.in_default.ensures _ _

pub returns-in_err-scan_utf8 : goal.returns-in_err-scan_utf8
returns-in_err-scan_utf8 c =
    let p = err_from_is_err_and c.from_residual.result c.from_residual.ensures.1 in
    rw (p.1, p.2) (text-scanned c.args.pool.now c.args.text c.in-Some.ensures false (ill-formed _ c.in_err-scan_utf8.ensures))

pub returns : goal.returns
returns c =
    text-scanned c.args.pool.now c.args.text c.in-Some.ensures true (well-formed _ c.in_ok-scan_utf8.ensures)
