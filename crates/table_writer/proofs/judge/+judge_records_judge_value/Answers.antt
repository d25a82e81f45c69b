-- `table_writer::judge::judge_value` and `judge_records`, which call each other, meet their contracts. Levels fall with each call. The loop keeps:
-- the answer from its start on is the answer from here on, with the size so far. Assumes nothing.
use mathlib.Core.Path.{ap, ◌∙◌}
use mathlib.Core.Logic.{inl}
use Prim.Native.Nat.{ℕ, ◌+◌, ◌-◌}
use native.Mathlib.Omega.{arith}
use Rattle.std.proofs.Common.{rules}
use Rattle.tables.specs.Letters.{errata}
use Rattle.tables.specs.AnswerOf.{record_of}
use Rattle.table_writer.specs.Sizes.{capped}
use Rattle.table_writer.proofs.PassLaws.{record-le, value-le, all-le, value-missing, value-refused, Judged, beneath-inside, beneath-level, beneath-refused, beneath-given, nothing-beneath, kept-start, kept-end, kept-refused, kept-read}
use Rattle.table_writer.proofs.judge.+judge_records_judge_value.Goals as goal
use Rattle.table_writer.proofs.judge.+judge_records_judge_value.Goals.{judge_value-In_ok-own}

-- the record of a value passes by itself
judged : (t : ℕ) (c : judge_value-In_ok-own t) → let a = c.args in Judged errata a.levels a.named a.source.pool.now a.source.tape.now a.end a.i (record_of a.r) c.in_ok-own.own
judged t c = record { on_tape = omega arith; inside = omega arith; there = c.requires.2; passes = c.in_ok-own.ensures }

pub judge_records-loop-i-init : goal.judge_records-loop-i-init
judge_records-loop-i-init t c =
    let a = c.args in
    kept-start errata a.levels a.named a.source.pool.now a.source.tape.now a.end a.first (omega arith)

pub judge_records-returns-in_err-r : goal.judge_records-returns-in_err-r
judge_records-returns-in_err-r t c =
    let a = c.args in
    rw (← kept-refused c.loop-i.invariant (omega arith) c.loop-i-test.true _ (value-missing errata a.levels a.named a.source.pool.now a.source.tape.now a.end (omega arith) c.loop-i.i (omega arith) _ c.in_err-r.ensures)) (search rules)

pub judge_records-returns-in_err-n : goal.judge_records-returns-in_err-n
judge_records-returns-in_err-n t c =
    rw (← kept-refused c.loop-i.invariant (omega arith) c.loop-i-test.true _ c.in_err-n.ensures) (search rules)

pub judge_records-overflow_add-size : goal.judge_records-overflow_add-size
judge_records-overflow_add-size t c =
    let a = c.args in
    omega (arith, c.loop-i.invariant.small, value-le errata a.levels a.named a.source.pool.now a.source.tape.now a.end c.loop-i.i _ c.in_ok-n.ensures)

pub judge_records-overflow_add-i-in-loop-i : goal.judge_records-overflow_add-i-in-loop-i
judge_records-overflow_add-i-in-loop-i t c =
    omega (arith, (kept-read c.loop-i.invariant (omega arith) c.loop-i-test.true _ c.in_ok-n.ensures (record_of c.in_ok-r.r) c.in_ok-r.ensures).0)

pub judge_records-loop-i-preserved : goal.judge_records-loop-i-preserved
unfolding capped
judge_records-loop-i-preserved t c =
    rw c.min-size.ensures (kept-read c.loop-i.invariant (omega arith) c.loop-i-test.true _ c.in_ok-n.ensures (record_of c.in_ok-r.r) c.in_ok-r.ensures).1

pub judge_records-returns : goal.judge_records-returns
judge_records-returns t c =
    kept-end c.loop-i.invariant c.loop-i-test.false

pub judge_value-returns-in_err-own : goal.judge_value-returns-in_err-own
judge_value-returns-in_err-own t c =
    let a = c.args in
    rw (← value-refused errata a.levels a.named a.source.pool.now a.source.tape.now a.end (omega arith) a.i (omega arith) _ c.requires.2 _ c.in_err-own.ensures) (search rules)

pub judge_value-returns-then-r-eq0 : goal.judge_value-returns-then-r-eq0
judge_value-returns-then-r-eq0 t c =
    nothing-beneath (judged t (goal.at.judge_value-returns-then-r-eq0 t c).In_ok-own) c.if-r-eq0.true

pub judge_value-overflow_add-last : goal.judge_value-overflow_add-last
judge_value-overflow_add-last t c =
    omega (arith, beneath-inside (judged t (goal.at.judge_value-overflow_add-last t c).In_ok-own))

pub judge_value-overflow_sub-levels : goal.judge_value-overflow_sub-levels
judge_value-overflow_sub-levels t c =
    beneath-level (judged t (goal.at.judge_value-overflow_sub-levels t c).In_ok-own) c.if-r-eq0.false

pub judge_value-judge_records-requires : goal.judge_value-judge_records-requires
judge_value-judge_records-requires t c =
    let j = judged t (goal.at.judge_value-judge_records-requires t c).In_ok-own in
    let level = beneath-level j c.if-r-eq0.false in
    let last = beneath-inside j in
    (omega arith, (omega arith, omega arith))

pub judge_value-returns-in_err-below : goal.judge_value-returns-in_err-below
judge_value-returns-in_err-below t c =
    rw (← beneath-refused (judged t (goal.at.judge_value-returns-in_err-below t c).In_ok-own) _ (rw c.has_names.ensures at c.in_err-below.ensures)) (search rules)

pub judge_value-overflow_add-own : goal.judge_value-overflow_add-own
judge_value-overflow_add-own t c =
    let a = c.args in
    let j = judged t (goal.at.judge_value-overflow_add-own t c).In_ok-own in
    omega (arith, record-le errata a.levels a.named a.source.pool.now a.i _ (a.end - (a.i + 1)) _ j.passes, all-le errata (a.levels - 1) _ a.source.pool.now a.source.tape.now (a.i + 1 + a.r.beneath) (a.i + 1) _ c.in_ok-below.ensures)

pub judge_value-returns : goal.judge_value-returns
unfolding capped
judge_value-returns t c =
    ap inl c.min.ensures ∙ beneath-given (judged t (goal.at.judge_value-returns t c).In_ok-own) _ (rw c.has_names.ensures at c.in_ok-below.ensures)
