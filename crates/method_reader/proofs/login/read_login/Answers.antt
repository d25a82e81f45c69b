-- `method_reader::login::read_login` meets its contract. Assumes nothing.
use mathlib.Core.Path.{sym, ◌∙◌}
use native.Mathlib.Omega.{arith}
use Rattle.std.proofs.Common.{rules}
use Rattle.tables.specs.Letters.{errata}
use Rattle.method_reader.proofs.LoginLaws.{up_to, user-none, user-of, login-refused, login-inside, login-none, nul-inside, login-found}
use Rattle.method_reader.proofs.login.read_login.Goals as goal

pub returns-in_err-v : goal.returns-in_err-v
returns-in_err-v c =
    rw (login-refused errata _ _ 0 c.in_err-v.ensures) (search rules)

pub slice_bounds-strip_prefix-count : goal.slice_bounds-strip_prefix-count
slice_bounds-strip_prefix-count c =
    omega (arith, login-inside errata c.args.s.now c.args.at.at 0 _ _ c.in_ok-v.ensures)

pub slice_bounds-strip_prefix-start : goal.slice_bounds-strip_prefix-start
slice_bounds-strip_prefix-start c =
    omega (arith, login-inside errata c.args.s.now c.args.at.at 0 _ _ c.in_ok-v.ensures)

pub slice_bounds-strip_prefix-end : goal.slice_bounds-strip_prefix-end
slice_bounds-strip_prefix-end c =
    omega (arith, login-inside errata c.args.s.now c.args.at.at 0 _ _ c.in_ok-v.ensures)

pub returns-in_default : goal.returns-in_default
returns-in_default c =
    sym (login-none errata c.args.s.now c.args.at.at 0 _ _ c.in_ok-v.ensures (user-none (up_to c.args.s.now _ _) c.in_default.ensures.cases))

pub returns-in_default-first_nul : goal.returns-in_default-first_nul
returns-in_default-first_nul c =
    let p = c.in-Some.ensures.cases in
    sym (login-none errata c.args.s.now c.args.at.at 0 _ _ c.in_ok-v.ensures (user-of (up_to c.args.s.now _ _) _ _ p.0 p.1 c.in_default-first_nul.ensures))

pub overflow_add-user-2 : goal.overflow_add-user-2
overflow_add-user-2 c =
    let p = c.in-Some.ensures.cases in
    let n = nul-inside errata c.args.s.now c.args.at.at 0 _ _ c.in_ok-v.ensures _ (user-of (up_to c.args.s.now _ _) _ _ p.0 p.1 c.in-Some-first_nul.ensures) in
    let l = login-inside errata c.args.s.now c.args.at.at 0 _ _ c.in_ok-v.ensures in
    record { fits = omega (arith, n, l.1, c.well_formed.0.0) }

pub login_text-requires : goal.login_text-requires
login_text-requires c =
    let p = c.in-Some.ensures.cases in
    let n = nul-inside errata c.args.s.now c.args.at.at 0 _ _ c.in_ok-v.ensures _ (user-of (up_to c.args.s.now _ _) _ _ p.0 p.1 c.in-Some-first_nul.ensures) in
    let l = login-inside errata c.args.s.now c.args.at.at 0 _ _ c.in_ok-v.ensures in
    (omega arith, omega (arith, n), l.1)

pub returns : goal.returns
returns c =
    let p = c.in-Some.ensures.cases in
    c.login_text.ensures ∙ sym (login-found errata c.args.s.now c.args.at.at 0 _ _ c.in_ok-v.ensures _ (user-of (up_to c.args.s.now _ _) _ _ p.0 p.1 c.in-Some-first_nul.ensures))
