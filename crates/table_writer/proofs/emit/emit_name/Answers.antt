-- `table_writer::emit::emit_name` meets its contract. Assumes nothing.
use mathlib.Core.Path.{ap}
use mathlib.Core.Bool.{not}
use Prim.Native.Nat.{◌+◌, ◌≤◌}
use native.Mathlib.Omega.{arith}
use lib.ListN.{length}
use Rattle.table_writer.proofs.EmitLaws.{emitted-length, NameFits, name-fits, no_name, name-length, name-emitted}
use Rattle.table_writer.proofs.emit.emit_name.Goals as goal
use Rattle.table_writer.proofs.emit.emit_name.Goals.{Else-not-named}

-- the name passed, and its octets have space
fits : (c : Else-not-named) → NameFits c.args.pool.now c.args.name
fits c = name-fits c.args.named c.args.pool.now 0 c.args.name (ap not c.if-not-named.false) c.requires.0

space : (c : Else-not-named) → let a = c.args in a.at + 1 + a.name.len ≤ length a.out.now
space c = omega (arith, name-length c.args.pool.now c.args.name (fits c) c.args.named (ap not c.if-not-named.false), c.requires.1)

pub returns-then-not-named : goal.returns-then-not-named
returns-then-not-named c =
    let a = c.args in no_name a.named _ a.at a.out.now (ap not c.if-not-named.true)

pub emit_number-next-requires : goal.emit_number-next-requires
emit_number-next-requires c =
    omega (arith, space (goal.at.emit_number-next-requires c).Else-not-named)

pub emit_span-requires : goal.emit_span-requires
emit_span-requires c =
    let p = (goal.at.emit_span-requires c).Else-not-named in
    let l = c.emit_number-next.ensures in
    ((fits p).inside, omega (arith, space p, l.next, emitted-length (omega (arith, space p)) l))

pub returns : goal.returns
returns c =
    let p = (goal.at.returns c).Else-not-named in
    let a = c.args in
    name-emitted a.pool.now a.name (fits p) a.named (ap not c.if-not-named.false) (omega (arith, space p)) c.emit_number-next.ensures c.emit_span.ensures
