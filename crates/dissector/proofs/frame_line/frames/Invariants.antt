use Rattle.std.proofs.Common.{◌≡◌, ◌-◌, ◌^◌, ◌<◌, ◌≤◌, length}
use Rattle.dissector.proofs.frame_line.frames.Given as goal

abbrev pub invariant-loop-walked : goal.invariant-loop-walked
invariant-loop-walked l = (length l.tape ≡ length l.initial.tape) × (l.walked.consumed ≤ length l.s) × (l.walked.frames ≤ l.walked.consumed) × (length l.s < 2 ^ 64)

abbrev pub decreases-loop-walked : goal.decreases-loop-walked
decreases-loop-walked l = length l.s - l.walked.consumed
