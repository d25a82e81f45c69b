-- `method_writer::sizes::size_fields` meets its contract. The invariant: what it has so far and what is left is the answer. Assumes nothing.
use mathlib.Core.Path.{ap}
use native.Mathlib.Omega.{arith}
use Rattle.std.proofs.Common.{rules}
use Rattle.tables.specs.Letters.{errata}
use Rattle.method.specs.Present.{present_fields}
use Rattle.method_writer.proofs.WriteLaws.{few-present}
use Rattle.method_writer.proofs.SizeLaws.{going_start, going_end, going-there, going-refused, going-small, going-next, all-refused, all_answered}
use Rattle.method_writer.proofs.sizes.size_fields.Goals as goal

pub loop-field-init : goal.loop-field-init
loop-field-init c =
    going_start (ap present_fields c.into_iter-field-iterator.ensures.into_iter_gives) (few-present c.args.fields) c.requires

pub size_field-requires : goal.size_field-requires
size_field-requires c =
    omega (arith, going-there c.loop-field.invariant c.in-Some.field c.in-Some.ensures.steps)

pub returns-in_err-more : goal.returns-in_err-more
returns-in_err-more c =
    rw (← all-refused errata _ _ _ _ _ (going-refused c.loop-field.invariant c.in-Some.field c.in-Some.ensures.steps _ c.in_err-more.ensures)) (search rules)

pub sum-size-requires : goal.sum-size-requires
sum-size-requires c =
    omega (arith, going-small c.loop-field.invariant c.in-Some.field c.in-Some.ensures.steps c.in_ok-more.ensures)

pub loop-field-preserved : goal.loop-field-preserved
loop-field-preserved c =
    going-next c.loop-field.invariant c.in-Some.field c.in-Some.ensures.steps c.in_ok-more.ensures c.sum-size.ensures c.width_of.ensures

pub returns : goal.returns
returns c =
    all_answered errata _ _ _ _ c.loop-field.size c.ok_or.ensures.value (going_end c.loop-field.invariant c.in-None.ensures.steps.0)
