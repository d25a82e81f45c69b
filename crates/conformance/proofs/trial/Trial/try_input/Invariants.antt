use Rattle.std.proofs.Common.{◌≤◌, length}
use Rattle.conformance.proofs.trial.Trial.try_input.Given as goal

abbrev pub invariant-loop : goal.invariant-loop
invariant-loop g l = l.held ≤ length l.text
