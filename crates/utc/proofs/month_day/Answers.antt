-- `utc::month_day` meets its contract. The invariant: the days before the month and those left are all. Assumes nothing.
use mathlib.Core.Path.{◌≡◌, ap}
use native.Mathlib.Omega.{arith}
use Rattle.utc.specs.Calendar.{days_before_month}
use Rattle.utc.proofs.MonthLaws.{first-month, next-month, year-months}
use Rattle.utc.proofs.month_day.Goals as goal

pub loop-month-init : goal.loop-month-init
loop-month-init c = omega (arith, first-month c.args.year)

pub loop-month-preserved : goal.loop-month-preserved
loop-month-preserved c =
    omega (arith, next-month c.args.year c.loop-month.month)

pub unreachable-requires : goal.unreachable-requires
unreachable-requires c =
    let last : c.loop-month.month ≡ 13 = omega arith in
    omega (arith, ap (days_before_month c.args.year) last, year-months c.args.year)
