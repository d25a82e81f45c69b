-- `frame_reader::walk::walk` meets its contract. The loop's invariant: the rest of the walk, over the memories as they are now, is the
-- whole walk. The measure is what is left of the octets. Assumes nothing.
use native.Mathlib.Omega.{arith}
use Rattle.tables.specs.Letters.{errata}
use Rattle.table_reader.specs.AnswerOf.{answer_of_records}
use Rattle.frame_reader.proofs.WalkStepLaws.{from_step}
use Rattle.frame_reader.proofs.WalkInvariant.{start, finish, stop, moved, again}
use Rattle.frame_reader.proofs.walk.walk.Goals as goal

pub loop-so_far-init : goal.loop-so_far-init
loop-so_far-init c =
    start errata _ _ _

pub returns-in-Err : goal.returns-in-Err
returns-in-Err c =
    rw c.ended.ensures (stop errata _ _ _ _ _ _ _ _ c.loop-so_far.invariant c.loop-so_far-test.true (from_step answer_of_records c.step.ensures c.in-Err.is))

pub overflow_add-so_far : goal.overflow_add-so_far
overflow_add-so_far c =
    let g = again errata _ _ _ _ _ _ _ _ c.loop-so_far.invariant c.loop-so_far-test.true (from_step answer_of_records c.step.ensures c.in-Ok.is) in omega (arith, g.tape-in, g.same-tape)

pub loop-so_far-smaller : goal.loop-so_far-smaller
loop-so_far-smaller c =
    let m = moved errata _ _ _ _ _ _ _ _ c.loop-so_far.invariant c.loop-so_far-test.true (from_step answer_of_records c.step.ensures c.in-Ok.is) in omega (arith, m.0, m.1)

pub loop-so_far-preserved : goal.loop-so_far-preserved
loop-so_far-preserved c =
    again errata _ _ _ _ _ _ _ _ c.loop-so_far.invariant c.loop-so_far-test.true (from_step answer_of_records c.step.ensures c.in-Ok.is)

pub returns : goal.returns
returns c =
    rw c.ended-2.ensures (finish errata _ _ _ _ _ _ _ _ c.loop-so_far.invariant c.loop-so_far-test.false)
