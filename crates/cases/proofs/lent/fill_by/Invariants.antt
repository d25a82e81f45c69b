use Rattle.std.proofs.Common.{◌≡◌, ℕ, ◌<◌, length, slice_index_or}
use Rattle.cases.proofs.lent.fill_by.Given as goal

abbrev pub invariant-loop-i : goal.invariant-loop-i
invariant-loop-i g l = (length l.lent ≡ length l.initial.lent) × ((k : ℕ) (d : _) → k < l.i → goal.F-post g l.pattern k (slice_index_or l.lent k d))
