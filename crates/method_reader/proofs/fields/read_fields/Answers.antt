-- `method_reader::fields::read_fields` meets its contract: what is left, done, does the whole. In a turn a field is read, and then it may be a
-- table with records. Assumes nothing.
use native.Mathlib.Omega.{arith}
use Rattle.std.proofs.Common.{rules}
use Rattle.method_reader.proofs.FieldLaws.{at-end, turn-refused, own-fits, turn-plain, turn-table}
use Rattle.method_reader.proofs.fields.read_fields.Goals as goal
use Rattle.method_reader.proofs.fields.read_fields.Goals.{then-records-ne0, else-records-ne0}

pub returns-in_err-records : goal.returns-in_err-records
returns-in_err-records c =
    let go = c.loop-field.invariant in
    rw (← c.into_iter-field-iterator.ensures.into_iter_gives)
    (turn-refused go _ _ c.in-Some.ensures.steps _ _ (omega (arith, go.fits)) _ c.in_err-records.ensures _ _ (search rules))

pub overflow_sub-left : goal.overflow_sub-left
overflow_sub-left c =
    let go = c.loop-field.invariant in
    own-fits go _ _ c.in-Some.ensures.steps _ _ (omega (arith, go.fits)) _ _ c.in_ok-records.ensures

pub loop-field-preserved : goal.loop-field-preserved
loop-field-preserved c =
    let go = c.loop-field.invariant in
    rw c.width_of-j.ensures
    (elim c.if-records-ne0.branch [
      | then-records-ne0 w ↦ rw (w.table-is, w.left-is) (turn-table go _ _ c.in-Some.ensures.steps _ _ (omega (arith, go.fits)) _ _ c.in_ok-records.ensures w.if-records-ne0.true)
      | else-records-ne0 w ↦ rw (w.table-is, w.left-is) (turn-plain go _ _ c.in-Some.ensures.steps _ _ (omega (arith, go.fits)) _ _ c.in_ok-records.ensures w.if-records-ne0.false)
    ])

pub returns : goal.returns
returns c =
    rw (← c.into_iter-field-iterator.ensures.into_iter_gives) (at-end c.loop-field.invariant c.in-None.ensures.steps.0)
