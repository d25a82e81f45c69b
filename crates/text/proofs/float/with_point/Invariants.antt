use Rattle.std.proofs.Common.{◌≤◌}
use Rattle.text.proofs.float.with_point.Given as goal

abbrev pub invariant-loop-digit : goal.invariant-loop-digit
invariant-loop-digit l = l.count ≤ 64
