-- `table_writer::emit::emit_leaf` meets its contract. Assumes nothing.
use Prim.Native.Nat.{◌+◌, ◌≤◌}
use native.Mathlib.Omega.{arith}
use Rattle.std.proofs.Common.{rules}
use lib.ListN.{length}
use Rattle.types.specs.Octets.{number_width}
use Rattle.types.proofs.NumberLaws.{length-octets}
use Rattle.tables.specs.AnswerOf.{payload_words}
use Rattle.table_writer.proofs.EmitLaws.{none_emitted, emitted-length, emitted-after, LongFits, long-fits, long-emitted, no_payload}
use Rattle.table_writer.proofs.emit.emit_leaf.Goals as goal
use Rattle.table_writer.proofs.emit.emit_leaf.Goals.{In-LongStr}

-- a long string passed
fits : (c : In-LongStr) → let a = c.args in LongFits a.pool.now a.x.first a.x.second a.at a.out.now
fits c = let h = rw c.in-LongStr.is at c.requires in long-fits c.args.pool.now c.args.x.first c.args.x.second c.args.at c.args.out.now 0 h.0 h.1 h.2

pub emit_number-next-requires-in-LongStr : goal.emit_number-next-requires-in-LongStr
emit_number-next-requires-in-LongStr c =
    omega (arith, (fits (goal.at.emit_number-next-requires-in-LongStr c).In-LongStr).space)

pub emit_span-requires : goal.emit_span-requires
emit_span-requires c =
    let f = fits (goal.at.emit_span-requires c).In-LongStr in
    let l = c.emit_number-next-in-LongStr.ensures in
    rw c.to_span.ensures (f.inside, omega (arith, f.space, l.next, emitted-length (omega (arith, f.space)) l))

pub returns-in-LongStr : goal.returns-in-LongStr
returns-in-LongStr c =
    let f = fits (goal.at.returns-in-LongStr c).In-LongStr in
    rw c.in-LongStr.is (long-emitted f c.emit_number-next-in-LongStr.ensures (rw c.to_span.ensures at c.emit_span.ensures))

pub emit_number-requires : goal.emit_number-requires
emit_number-requires c =
    let space = rw c.in-Number.is at c.requires.2 in
    omega (arith, space, length-octets (number_width c.in-Number.width) c.args.x.first)

pub returns-in-Decimal : goal.returns-in-Decimal
returns-in-Decimal c =
    let e = c.in-Decimal.is in
    let h : c.args.at + 5 ≤ length c.args.out.now = omega (arith, rw e at c.requires.2) in
    rw e (emitted-after (omega arith) c.emit_number-next.ensures c.emit_number-in-Decimal.ensures)

pub returns-in_default : goal.returns-in_default
returns-in_default c =
    let a = c.args in
    rw (no_payload a.kind a.pool.now (payload_words a.x) (search rules)) (none_emitted a.at a.out.now)
