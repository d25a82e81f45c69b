-- `writers::put_parts` meets its contract. The invariant: the octets before i are put. Assumes nothing.
use mathlib.Core.Path.{refl}
use Prim.Native.Nat.{◌+◌, ◌-◌}
use native.Mathlib.Omega.{arith}
use lib.ListN.{length}
use Rattle.writers.proofs.WriterLaws.{parts_none, parts_next, parts_all}
use Rattle.writers.proofs.put_parts.Goals as goal

pub loop-i-init : goal.loop-i-init
loop-i-init c =
    let a = c.args in (omega arith, parts_none a.out.now a.at a.s.now (omega arith), refl)

pub loop-i-preserved : goal.loop-i-preserved
loop-i-preserved c =
    let a = c.args in
    let l = c.loop-i in (
      omega (arith, c.loop-i-test.true),
      parts_next a.out.now a.at a.s.now (omega arith) l.i 2048 (omega (arith, c.loop-i-test.true)) l.invariant.1 c.put_part.ensures,
      omega (arith, c.put_part.auto.out),
    )

pub returns : goal.returns
returns c =
    let a = c.args in
    let l = c.loop-i in
    let n = length a.s.now in
    parts_all a.out.now a.at a.s.now (omega arith) (l.i + (n - l.i)) (omega arith)
    (parts_next a.out.now a.at a.s.now (omega arith) l.i (n - l.i) (omega arith) l.invariant.1 c.put_part-2.ensures)
