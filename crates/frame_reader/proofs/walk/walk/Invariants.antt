use Prim.Native.Nat.{◌-◌}
use lib.ListN.{length}
use Rattle.tables.specs.Letters.{errata}
use Rattle.frame_reader.proofs.WalkInvariant.{Going}
use Rattle.frame_reader.proofs.walk.walk.Given as goal

abbrev pub invariant-loop-so_far : goal.invariant-loop-so_far
invariant-loop-so_far l = Going errata l.s l.initial.tape l.initial.register l.tape l.register l.so_far.at l.so_far.used l.so_far.frames

abbrev pub decreases-loop-so_far : goal.decreases-loop-so_far
decreases-loop-so_far l = length l.s - l.so_far.at
