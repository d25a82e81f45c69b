use mathlib.Core.Path.{◌≡◌}
use lib.ListN.{length, take, drop}
use lib.Seq.{paste}
use Rattle.writers.proofs.put_part.Given as goal

abbrev pub invariant-loop-i : goal.invariant-loop-i
invariant-loop-i l = (take l.i l.part ≡ take l.i (drop l.from l.s)) × (length l.part ≡ 2048)

abbrev pub invariant-loop-j : goal.invariant-loop-j
invariant-loop-j l = (l.out ≡ paste l.initial.out l.to l.part l.j) × (length l.out ≡ length l.initial.out)
