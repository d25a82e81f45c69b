use Rattle.std.proofs.Common.{◌≤◌}
use Rattle.text.proofs.string.quoted.Given as goal

abbrev pub invariant-loop-i : goal.invariant-loop-i
invariant-loop-i l = l.from ≤ l.i
