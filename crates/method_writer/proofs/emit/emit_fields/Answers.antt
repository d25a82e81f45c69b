-- `method_writer::emit::emit_fields` meets its contract: the fields left, written, write the whole. Assumes nothing.
use mathlib.Core.Path.{ap}
use Rattle.method.specs.Present.{present_fields}
use Rattle.method_writer.proofs.EmitLaws.{at-start, at-end, turn-ready, turn-next}
use Rattle.method_writer.proofs.emit.emit_fields.Goals as goal

pub loop-field-init : goal.loop-field-init
loop-field-init c =
    at-start (ap present_fields c.into_iter-field-iterator.ensures.into_iter_gives) c.requires.0 c.requires.1

pub emit_field-at-requires : goal.emit_field-at-requires
emit_field-at-requires c =
    turn-ready c.loop-field.invariant c.in-Some.field c.in-Some.ensures.steps

pub loop-field-preserved : goal.loop-field-preserved
loop-field-preserved c =
    turn-next c.loop-field.invariant c.in-Some.field c.in-Some.ensures.steps c.emit_field-at.ensures c.width_of.ensures

pub returns : goal.returns
returns c =
    at-end c.loop-field.invariant c.in-None.ensures.steps.0
