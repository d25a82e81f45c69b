use Rattle.std.proofs.Common.{ℕ, ◌<◌, ◌≤◌, true, slice_index_or}
use Rattle.cases.proofs.lent.kept_by.Given as goal

abbrev pub invariant-loop-i : goal.invariant-loop-i
invariant-loop-i g l = (k : ℕ) (d : _) → k < l.i → l.from ≤ k → goal.F-post g l.is_kept k (slice_index_or l.lent k d) true
