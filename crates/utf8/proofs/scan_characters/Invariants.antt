use mathlib.Core.Path.{◌≡◌}
use Prim.Native.Nat.{◌≤◌, ◌<◌, ◌-◌, ◌+◌}
use lib.ListN.{length, drop}
use Rattle.utf8.specs.Utf8.{fault, fault_from}
use Rattle.utf8.proofs.ScanLaws.{continues, verdict}
use Rattle.utf8.proofs.scan_characters.Given as goal

abbrev pub invariant-loop-left : goal.invariant-loop-left
invariant-loop-left l = (l.start < l.i) × (l.i ≤ length l.s) × (l.i + l.left ≡ (l.start + 1) + l.more) × (fault l.s ≡ verdict l.s l.start l.more (continues l.s l.i l.left l.low l.high))

abbrev pub decreases-loop-left : goal.decreases-loop-left
decreases-loop-left l = l.left

abbrev pub invariant-scan : goal.invariant-scan
invariant-scan l = (l.i ≤ length l.s) × (fault l.s ≡ fault_from 0 l.i (drop l.i l.s))

abbrev pub decreases-scan : goal.decreases-scan
decreases-scan l = length l.s - l.i
