-- `method_writer::commands::write_call` meets its contract. Assumes nothing.
use mathlib.Core.Path.{◌∙◌}
use Rattle.tables.specs.Letters.{errata}
use Rattle.method.proofs.LayoutLaws.{layout-known, layout-unknown}
use Rattle.method_writer.proofs.WriteLaws.{call_known, call-unknown}
use Rattle.method_writer.proofs.commands.write_call.Goals as goal

pub returns-in_default : goal.returns-in_default
returns-in_default c =
    let a = c.args in
    call-unknown errata a.pool.now a.tape.now a.call (layout-unknown _ _ c.in_default.ensures) a.at a.out.now

pub returns : goal.returns
returns c =
    let a = c.args in
    c.write_fields.ensures ∙ call_known errata a.pool.now a.tape.now a.call (layout-known _ _ _ c.in-Some.ensures).0 a.at a.out.now
