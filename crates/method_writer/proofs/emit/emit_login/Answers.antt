-- `method_writer::emit::emit_login` meets its contract. Assumes nothing.
use mathlib.Core.List.{[]}
use Prim.Native.Nat.{◌+◌}
use native.Mathlib.Omega.{arith}
use Rattle.types.specs.Octets.{octets}
use Rattle.tables.specs.Letters.{errata}
use Rattle.table_writer.specs.Emitting.{Emitted}
use Rattle.method_writer.proofs.SizeLaws.{words-behind}
use Rattle.method_writer.proofs.EmitLaws.{number-ok, number-written, LoginFits, login-fits, user-space, password-space, login-emitted}
use Rattle.method_writer.proofs.emit.emit_login.Goals as goal
use Rattle.method_writer.proofs.emit.emit_login.Goals.{After-span_of-password, After-unwrap-text}

fits : (c : After-span_of-password) → LoginFits errata c.args.pool.now [] c.args.words.now c.args.at c.args.out.now c.span_of-user.result c.span_of-password.result
fits c =
    let a = c.args in
    login-fits errata a.pool.now [] a.words.now a.at a.out.now c.span_of-user.ensures (rw (words-behind 2 a.words.now) at c.span_of-password.ensures) c.requires.1

length-written : (c : After-unwrap-text) → Emitted (octets 4 (c.span_of-user.result.len + c.span_of-password.result.len + 2)) c.args.at c.args.out.now c.write_u32.new.out c.unwrap-text.result
length-written c =
    number-written 4 _ c.write_u32.result _ _ (omega (arith, (fits (goal.at.After-unwrap-text c).After-span_of-password).space)) c.write_u32.ensures c.unwrap-text.ensures

pub overflow_add-len : goal.overflow_add-len
overflow_add-len c = omega (arith, (fits (goal.at.overflow_add-len c).After-span_of-password).short)

pub overflow_add-len-2 : goal.overflow_add-len-2
overflow_add-len-2 c = omega (arith, (fits (goal.at.overflow_add-len-2 c).After-span_of-password).short)

pub overflow_cast-len : goal.overflow_cast-len
overflow_cast-len c = omega (arith, (fits (goal.at.overflow_cast-len c).After-span_of-password).short)

pub unwrap-text-requires : goal.unwrap-text-requires
unwrap-text-requires c =
    number-ok 4 _ c.write_u32.result _ _ (omega (arith, (fits (goal.at.unwrap-text-requires c).After-span_of-password).space)) c.write_u32.ensures

pub emit_octet_and_text-next-requires : goal.emit_octet_and_text-next-requires
emit_octet_and_text-next-requires c =
    let at = goal.at.emit_octet_and_text-next-requires c in
    let f = fits at.After-span_of-password in
    (f.user_inside, user-space f (length-written at.After-unwrap-text))

pub emit_octet_and_text-requires : goal.emit_octet_and_text-requires
emit_octet_and_text-requires c =
    let at = goal.at.emit_octet_and_text-requires c in
    let f = fits at.After-span_of-password in
    (f.password_inside, password-space f (length-written at.After-unwrap-text) c.emit_octet_and_text-next.ensures)

pub returns : goal.returns
returns c =
    let at = goal.at.returns c in
    login-emitted (fits at.After-span_of-password) (length-written at.After-unwrap-text) c.emit_octet_and_text-next.ensures c.emit_octet_and_text.ensures
