use mathlib.Core.Path.{◌≡◌}
use Prim.Native.Nat.{◌+◌, ◌-◌, ◌%◌, ◌≤◌}
use Rattle.utc.specs.Calendar.{days_before_year}
use Rattle.utc.proofs.year_day.Given as goal

abbrev pub invariant-loop-year : goal.invariant-loop-year
invariant-loop-year l = (1970 ≤ l.year) × (days_before_year (l.year - 1970) + l.left ≡ l.days % 146097)
