-- `method_writer::sizes::size_field` meets its contract: each arm is the size of its kind. Assumes nothing.
use mathlib.Core.Path.{◌∙◌}
use Rattle.std.proofs.Common.{rules}
use Rattle.method_writer.proofs.SizeLaws.{short-size, short-refused, table-refused, table-given}
use Rattle.method_writer.proofs.sizes.size_field.Goals as goal

pub returns-in_err-len-in-ShortStr : goal.returns-in_err-len-in-ShortStr
returns-in_err-len-in-ShortStr c =
    let a = c.args in
    rw (c.in-ShortStr.is, ← short-refused a.pool.now a.tape.now a.words.now c.span_of.ensures _ c.in_err-len-in-ShortStr.ensures) (search rules)

pub returns-in_ok-len-in-ShortStr : goal.returns-in_ok-len-in-ShortStr
returns-in_ok-len-in-ShortStr c =
    let a = c.args in
    rw c.in-ShortStr.is (short-size a.pool.now a.tape.now a.words.now c.span_of.ensures _ c.in_ok-len-in-ShortStr.ensures)

pub returns-in_err-len-in-Table : goal.returns-in_err-len-in-Table
returns-in_err-len-in-Table c =
    let a = c.args in
    rw (c.in-Table.is, ← table-refused a.pool.now a.tape.now a.words.now _ c.in_err-len-in-Table.ensures) (search rules)

pub returns-in_ok-len-in-Table : goal.returns-in_ok-len-in-Table
returns-in_ok-len-in-Table c =
    let a = c.args in
    rw c.in-Table.is (c.counted.ensures ∙ table-given a.pool.now a.tape.now a.words.now _ c.in_ok-len-in-Table.ensures)
