-- `method_writer::sizes::size_login` meets its contract: the user, then the password, then their lengths. Assumes nothing.
use mathlib.Core.Path.{refl, ◌∙◌}
use Rattle.std.proofs.Common.{rules}
use Rattle.method_writer.proofs.SizeLaws.{words-behind, user-refused, password-refused, login-given}
use Rattle.method_writer.proofs.sizes.size_login.Goals as goal

pub returns-in_err-user : goal.returns-in_err-user
returns-in_err-user c =
    let a = c.args in
    rw (← user-refused a.pool.now a.words.now c.span_of.ensures refl _ c.in_err-user.ensures) (search rules)

pub returns-in_err-password : goal.returns-in_err-password
returns-in_err-password c =
    let a = c.args in
    rw (← password-refused a.pool.now a.words.now c.span_of.ensures (rw (words-behind 2 a.words.now) at c.span_of-2.ensures) _ c.in_ok-user.ensures _ c.in_err-password.ensures) (search rules)

pub returns : goal.returns
returns c =
    let a = c.args in
    c.login_size.ensures ∙ login-given a.pool.now a.words.now c.span_of.ensures (rw (words-behind 2 a.words.now) at c.span_of-2.ensures) _ c.in_ok-user.ensures _ c.in_ok-password.ensures
