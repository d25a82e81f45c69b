-- `method_reader::login::login_text` meets its contract. Assumes nothing.
use Rattle.std.proofs.lemmas.Result.{err_from_is_err_and}
use Rattle.utf8.proofs.ScanLaws.{well-formed, ill-formed}
use Rattle.method_reader.proofs.LoginLaws.{user-refused, password-refused, texts-given}
use Rattle.method_reader.proofs.login.login_text.Goals as goal

pub returns-in_err-scan_utf8 : goal.returns-in_err-scan_utf8
returns-in_err-scan_utf8 c =
    let p = err_from_is_err_and c.from_residual.result c.from_residual.ensures.1 in
    rw (p.1, p.2) (user-refused c.args.s.now c.args.user c.args.nul c.args.next.at (ill-formed _ c.in_err-scan_utf8.ensures))

pub returns-in_err-scan_utf8-2 : goal.returns-in_err-scan_utf8-2
returns-in_err-scan_utf8-2 c =
    let p = err_from_is_err_and c.from_residual-in_err-scan_utf8-2.result c.from_residual-in_err-scan_utf8-2.ensures.1 in
    rw (p.1, p.2) (password-refused c.args.s.now c.args.user c.args.nul c.args.next.at (well-formed _ c.in_ok-scan_utf8.ensures) (ill-formed _ c.in_err-scan_utf8-2.ensures))

pub returns : goal.returns
returns c =
    texts-given c.args.s.now c.args.user c.args.nul c.args.next.at (well-formed _ c.in_ok-scan_utf8.ensures) (well-formed _ c.in_ok-scan_utf8-2.ensures)
