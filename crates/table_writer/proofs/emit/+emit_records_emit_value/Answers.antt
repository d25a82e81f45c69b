-- The proof of the cycle of calls {emit_records, emit_value}. The measure is twice the levels that are left, and one more for the records. The
-- loop's invariant: what is left to write, written, writes the whole; its measure is the records that are left. Assumes nothing.
use Prim.Native.Nat.{ℕ}
use mathlib.Core.Path.{sym}
use native.Mathlib.Omega.{arith}
use Rattle.tables.specs.Letters.{errata}
use Rattle.tables.specs.AnswerOf.{record_of}
use Rattle.tables.proofs.JudgeLaws.{Octets}
use Rattle.table_writer.specs.Sizes.{records_from, first_octets}
use Rattle.table_writer.proofs.EmitSteps.{is_there, was_read, beneath_of, payload_of, Here, here, Left, left, has_kind, name-passes, name-space, letter-space}
use Rattle.table_writer.proofs.EmitSteps.{body_of, body-count, body-emitted, leaf-ready, leaf-emitted}
use Rattle.table_writer.proofs.EmitSteps.{at-end, turn-ready, turn-read}
use Rattle.table_writer.proofs.emit.+emit_records_emit_value.Goals as goal
use Rattle.table_writer.proofs.emit.+emit_records_emit_value.Goals.{emit_value-After-emit_number-payload}

errata-octets : Octets errata
errata-octets = omega arith

-- the record that `emit_value` writes
value-here : (t : ℕ) (c : emit_value-After-emit_number-payload t) → let a = c.args in Here errata a.named a.source.pool.now a.levels a.i a.end a.source.tape.now a.at a.out.now (record_of a.r)
value-here t c =
    let a = c.args in
    let q = c.requires in
    here errata a.named a.source.pool.now a.levels a.i a.end a.source.tape.now a.at a.out.now (record_of a.r) (was_read a.source.tape.now a.i a.end (record_of a.r) q.0 q.2.on_tape q.1) q.0 q.2

-- its payload, when its name and its letter are written
value-left : (t : ℕ) (c : emit_value-After-emit_number-payload t)
    → let a = c.args in Left (payload_of errata a.source.pool.now (record_of a.r) (beneath_of a.source.tape.now a.i (record_of a.r))) (first_octets errata a.named a.source.pool.now (records_from a.source.tape.now a.i a.end)) a.at a.out.now c.emit_number-payload.result c.emit_number-payload.new.out
value-left t c =
    let x = value-here t c in
    left x c.emit_name-here.ensures c.emit_number-payload.ensures

pub emit_records-unwrap-r-requires : goal.emit_records-unwrap-r-requires
emit_records-unwrap-r-requires t c =
    is_there c.args.source.tape.now c.loop-i.i c.args.end c.record_at.result (omega (arith, c.loop-i-test.true)) c.loop-i.invariant.ready.on_tape c.record_at.ensures

pub emit_records-emit_value-here-requires : goal.emit_records-emit_value-here-requires
emit_records-emit_value-here-requires t c =
    let m = c.loop-i-test.true in
    (omega (arith, c.decreases), (omega arith, rw c.unwrap-r.ensures at c.record_at.ensures, turn-ready c.loop-i.invariant m))

pub emit_records-overflow_add-i-in-loop-i : goal.emit_records-overflow_add-i-in-loop-i
emit_records-overflow_add-i-in-loop-i t c =
    let read = rw c.unwrap-r.ensures at c.record_at.ensures in
    omega (arith, (turn-read c.loop-i.invariant c.loop-i-test.true (record_of c.unwrap-r.result) read c.emit_value-here.ensures).0, c.ranges.end.fits)

pub emit_records-loop-i-preserved : goal.emit_records-loop-i-preserved
emit_records-loop-i-preserved t c =
    let read = rw c.unwrap-r.ensures at c.record_at.ensures in
    (turn-read c.loop-i.invariant c.loop-i-test.true (record_of c.unwrap-r.result) read c.emit_value-here.ensures).1

pub emit_records-returns : goal.emit_records-returns
emit_records-returns t c =
    at-end c.loop-i.invariant c.loop-i-test.false

pub emit_value-emit_name-here-requires : goal.emit_value-emit_name-here-requires
emit_value-emit_name-here-requires t c =
    let a = c.args in
    let q = c.requires in
    let x = here errata a.named a.source.pool.now a.levels a.i a.end a.source.tape.now a.at a.out.now (record_of a.r) (was_read a.source.tape.now a.i a.end (record_of a.r) q.0 q.2.on_tape q.1) q.0 q.2 in
    (name-passes x, name-space x)

pub emit_value-emit_number-payload-requires : goal.emit_value-emit_number-payload-requires
emit_value-emit_number-payload-requires t c =
    let a = c.args in
    let q = c.requires in
    let x = here errata a.named a.source.pool.now a.levels a.i a.end a.source.tape.now a.at a.out.now (record_of a.r) (was_read a.source.tape.now a.i a.end (record_of a.r) q.0 q.2.on_tape q.1) q.0 q.2 in
    letter-space x c.emit_name-here.ensures

pub emit_value-unwrap-kind-requires : goal.emit_value-unwrap-kind-requires
emit_value-unwrap-kind-requires t c =
    let p = (goal.at.emit_value-unwrap-kind-requires t c).After-emit_number-payload in
    has_kind (value-here t p) c.kind.result c.kind.ensures

pub emit_value-emit_leaf-requires : goal.emit_value-emit_leaf-requires
emit_value-emit_leaf-requires t c =
    let p = (goal.at.emit_value-emit_leaf-requires t c).After-emit_number-payload in
    leaf-ready (value-here t p) (value-left t p) c.unwrap-kind.result (rw c.unwrap-kind.ensures at c.kind.ensures) c.in_default.not-Container

pub emit_value-returns-in_default : goal.emit_value-returns-in_default
emit_value-returns-in_default t c =
    let p = (goal.at.emit_value-returns-in_default t c).After-emit_number-payload in
    leaf-emitted (value-here t p) (value-left t p) c.unwrap-kind.result (rw c.unwrap-kind.ensures at c.kind.ensures) c.in_default.not-Container c.emit_leaf.ensures

pub emit_value-overflow_add-last : goal.emit_value-overflow_add-last
emit_value-overflow_add-last t c =
    let p = (goal.at.emit_value-overflow_add-last t c).After-emit_number-payload in
    omega (arith, (value-here t p).inside, c.ranges.end.fits)

pub emit_value-overflow_add-start : goal.emit_value-overflow_add-start
emit_value-overflow_add-start t c =
    let p = (goal.at.emit_value-overflow_add-start t c).After-emit_number-payload in
    let b = body_of (value-here t p) (value-left t p) _ (sym (rw (c.unwrap-kind.ensures, c.in-Container.is) at c.kind.ensures)) in
    omega (arith, b.space, c.emit_number-payload.auto.out, c.emit_name-here.auto.out)

pub emit_value-overflow_sub-levels : goal.emit_value-overflow_sub-levels
emit_value-overflow_sub-levels t c =
    let p = (goal.at.emit_value-overflow_sub-levels t c).After-emit_number-payload in
    (body_of (value-here t p) (value-left t p) _ (sym (rw (c.unwrap-kind.ensures, c.in-Container.is) at c.kind.ensures))).level

pub emit_value-emit_records-next-requires : goal.emit_value-emit_records-next-requires
emit_value-emit_records-next-requires t c =
    let p = (goal.at.emit_value-emit_records-next-requires t c).After-emit_number-payload in
    let b = body_of (value-here t p) (value-left t p) _ (sym (rw (c.unwrap-kind.ensures, c.in-Container.is) at c.kind.ensures)) in
    let m = c.decreases in
    (omega (arith, b.level, m), (omega arith, b.ready))

pub emit_value-overflow_sub-next : goal.emit_value-overflow_sub-next
emit_value-overflow_sub-next t c =
    let p = (goal.at.emit_value-overflow_sub-next t c).After-emit_number-payload in
    let b = body_of (value-here t p) (value-left t p) _ (sym (rw (c.unwrap-kind.ensures, c.in-Container.is) at c.kind.ensures)) in
    omega (arith, (body-count b c.emit_records-next.ensures).0)

pub emit_value-emit_number-requires : goal.emit_value-emit_number-requires
emit_value-emit_number-requires t c =
    let p = (goal.at.emit_value-emit_number-requires t c).After-emit_number-payload in
    let b = body_of (value-here t p) (value-left t p) _ (sym (rw (c.unwrap-kind.ensures, c.in-Container.is) at c.kind.ensures)) in
    omega (arith, b.space, c.emit_records-next.auto.out)

pub emit_value-returns : goal.emit_value-returns
emit_value-returns t c =
    let p = (goal.at.emit_value-returns t c).After-emit_number-payload in
    let b = body_of (value-here t p) (value-left t p) _ (sym (rw (c.unwrap-kind.ensures, c.in-Container.is) at c.kind.ensures)) in
    body-emitted b c.emit_records-next.ensures c.emit_number.ensures
