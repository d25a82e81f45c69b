use mathlib.Core.Path.{◌≡◌}
use Prim.Native.Nat.{◌+◌}
use Rattle.utc.specs.Calendar.{days_before_month}
use Rattle.utc.proofs.month_day.Given as goal

abbrev pub invariant-loop-month : goal.invariant-loop-month
invariant-loop-month l = days_before_month l.fn.year l.month + l.left ≡ l.before
