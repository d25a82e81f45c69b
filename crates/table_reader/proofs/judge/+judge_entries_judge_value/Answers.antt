-- `table_reader::judge::judge_entries` and `judge_value`, which call each other, meet their contracts. Assumes nothing.
use mathlib.Core.Path.{sym, ◌∙◌}
use native.Mathlib.Omega.{arith}
use Rattle.std.proofs.Common.{rules}
use Rattle.types.proofs.RoundTrip.{long-start}
use Rattle.tables.specs.Letters.{errata}
use Rattle.table_reader.specs.Counting.{more}
use Rattle.table_reader.proofs.CountingLaws as laws
use Rattle.table_reader.proofs.judge.+judge_entries_judge_value.Goals as goal

pub judge_entries-loop-here-init : goal.judge_entries-loop-here-init
judge_entries-loop-here-init t c =
    laws.kept-start errata _ _ _ _ _ _ (omega (arith, c.requires))

pub judge_entries-returns-in_err-next : goal.judge_entries-returns-in_err-next
judge_entries-returns-in_err-next t c =
    rw (← (laws.kept-name errata _ _ _ _ _ _ _ _ c.loop-here.invariant c.loop-here-test.true c.in_err-next.ensures)) (search rules)

pub judge_entries-returns-in_err-k : goal.judge_entries-returns-in_err-k
judge_entries-returns-in_err-k t c =
    rw (← (laws.kept-value errata _ _ _ _ _ _ _ _ c.loop-here.invariant c.loop-here-test.true _ _ c.in_ok-next.ensures c.in_err-k.ensures)) (search rules)

pub judge_entries-overflow_add-count : goal.judge_entries-overflow_add-count
judge_entries-overflow_add-count t c =
    let b = laws.step-bounds errata _ _ _ _ _ _ _ _ c.loop-here.invariant c.loop-here-test.true _ _ c.in_ok-next.ensures _ _ c.in_ok-k.ensures in omega (arith, b.2, c.ranges.room)

pub judge_entries-loop-here-smaller : goal.judge_entries-loop-here-smaller
judge_entries-loop-here-smaller t c =
    let b = laws.step-bounds errata _ _ _ _ _ _ _ _ c.loop-here.invariant c.loop-here-test.true _ _ c.in_ok-next.ensures _ _ c.in_ok-k.ensures in omega (arith, b.0, c.loop-here-test.true)

pub judge_entries-loop-here-preserved : goal.judge_entries-loop-here-preserved
judge_entries-loop-here-preserved t c =
    laws.kept_step errata _ _ _ _ _ _ _ _ c.loop-here.invariant c.loop-here-test.true _ _ c.in_ok-next.ensures _ _ c.in_ok-k.ensures

pub judge_entries-returns : goal.judge_entries-returns
judge_entries-returns t c =
    laws.kept-end errata _ _ _ _ _ _ _ _ c.loop-here.invariant c.loop-here-test.false

pub judge_value-returns-in_err-letter : goal.judge_value-returns-in_err-letter
judge_value-returns-in_err-letter t c =
    rw (laws.value-cut errata _ _ _ _ c.in_err-letter.ensures) (search rules)

pub judge_value-returns-in_default : goal.judge_value-returns-in_default
judge_value-returns-in_default t c =
    sym (laws.value-unknown errata _ _ _ _ _ _ c.in_ok-letter.ensures c.in_default.ensures)

pub judge_value-returns-in_default-kind : goal.judge_value-returns-in_default-kind
judge_value-returns-in_default-kind t c =
    c.judge_leaf.ensures ∙ sym (laws.value-payload errata _ _ _ _ _ _ c.in_ok-letter.ensures _ c.in_default-kind.not-Container c.in-Some.ensures)

pub judge_value-returns-then-levels-eq0 : goal.judge_value-returns-then-levels-eq0
judge_value-returns-then-levels-eq0 t c =
    sym (laws.value-deep errata _ _ _ _ _ _ c.in_ok-letter.ensures _ (rw c.in-Container.is at c.in-Some.ensures) c.if-levels-eq0.true)

pub judge_value-returns-then-room-eq0 : goal.judge_value-returns-then-room-eq0
judge_value-returns-then-room-eq0 t c =
    sym (laws.value-full errata _ _ _ _ _ _ c.in_ok-letter.ensures _ (rw c.in-Container.is at c.in-Some.ensures) c.if-levels-eq0.false c.if-room-eq0.true)

pub judge_value-returns-in_err-body : goal.judge_value-returns-in_err-body
judge_value-returns-in_err-body t c =
    let e = rw c.in-Container.is at c.in-Some.ensures in
    rw (laws.value-length-cut errata _ _ _ _ _ _ c.in_ok-letter.ensures _ e c.if-levels-eq0.false c.if-room-eq0.false c.in_err-body.ensures) (search rules)

pub judge_value-judge_entries-requires : goal.judge_value-judge_entries-requires
judge_value-judge_entries-requires t c =
    let a = long-start _ _ _ _ (sym c.in_ok-body.ensures) in (omega arith, omega (arith, a.0, a.1, a.2))

pub judge_value-returns-in_err-count : goal.judge_value-returns-in_err-count
unfolding more
judge_value-returns-in_err-count t c =
    let e = rw c.in-Container.is at c.in-Some.ensures in
    rw (laws.value-entries errata _ _ _ _ _ _ c.in_ok-letter.ensures _ e c.if-levels-eq0.false c.if-room-eq0.false c.in_ok-body.ensures, ← c.in_err-count.ensures)
    (search rules)

pub judge_value-overflow_add-result : goal.judge_value-overflow_add-result
judge_value-overflow_add-result t c =
    let k = laws.container-room errata _ _ _ _ _ _ _ c.in_ok-body.ensures _ _ c.in_ok-count.ensures in
    omega (arith, k, c.ranges.room, c.if-room-eq0.false)

pub judge_value-returns : goal.judge_value-returns
unfolding more
judge_value-returns t c =
    let e = rw c.in-Container.is at c.in-Some.ensures in
    rw (laws.value-entries errata _ _ _ _ _ _ c.in_ok-letter.ensures _ e c.if-levels-eq0.false c.if-room-eq0.false c.in_ok-body.ensures, ← c.in_ok-count.ensures)
