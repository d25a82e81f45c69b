-- `types::Cursor::short_str` meets its contract. Assumes nothing.
use native.Mathlib.Omega.{arith}
use Rattle.std.proofs.lemmas.Result.{err_from_is_err_and}
use Rattle.utf8.proofs.ScanLaws.{well-formed, ill-formed}
use Rattle.types.proofs.StringLaws.{span_at-read, scanned, short_str-given, short_str-not_utf8}
use Rattle.types.proofs.Cursor.short_str.Goals as goal

pub slice_bounds-scan_utf8-count : goal.slice_bounds-scan_utf8-count
slice_bounds-scan_utf8-count c =
    omega (arith, span_at-read _ _ _ c.in_ok-v.ensures)

pub slice_bounds-scan_utf8-start : goal.slice_bounds-scan_utf8-start
slice_bounds-scan_utf8-start c =
    omega (arith, span_at-read _ _ _ c.in_ok-v.ensures)

pub slice_bounds-scan_utf8-end : goal.slice_bounds-scan_utf8-end
slice_bounds-scan_utf8-end c =
    omega (arith, span_at-read _ _ _ c.in_ok-v.ensures)

pub returns-in_err-scan_utf8 : goal.returns-in_err-scan_utf8
returns-in_err-scan_utf8 c =
    let p = err_from_is_err_and c.from_residual-in_err-scan_utf8.result c.from_residual-in_err-scan_utf8.ensures.1 in
    rw (p.1, p.2)
    (short_str-not_utf8 _ _ _ _ _ _ c.in_ok-n.ensures c.in_ok-v.ensures (ill-formed _ (scanned _ _ _ c.in_ok-v.ensures c.in_err-scan_utf8.ensures)))

pub returns : goal.returns
returns c =
    short_str-given _ _ _ _ _ _ c.in_ok-n.ensures c.in_ok-v.ensures (well-formed _ (scanned _ _ _ c.in_ok-v.ensures c.in_ok-scan_utf8.ensures))
