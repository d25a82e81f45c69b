-- `utc::year_day` meets its contract. The invariant: the days before the year and those left are all that are not passed over. Assumes
-- nothing.
use mathlib.Core.Path.{◌≡◌, ap}
use Prim.Native.Nat.{ℕ, ◌+◌, ◌-◌, ◌*◌, ◌/◌, ◌≤◌}
use native.Mathlib.Omega.{arith}
use Rattle.utc.specs.Calendar.{days_before_year}
use Rattle.utc.proofs.YearLaws.{cycles, behind-cycles, again-cycles, next-year}
use Rattle.utc.proofs.year_day.Goals as goal

-- the days before a year that lies so many times 400 years after another one
before-cycles : (c y : ℕ) → 1970 ≤ y → days_before_year ((400 * c + y) - 1970) ≡ 146097 * c + days_before_year (y - 1970)
before-cycles c y h =
    let whole : (400 * c + y) - 1970 ≡ 400 * c + (y - 1970) = omega arith in
    omega (arith, ap days_before_year whole, behind-cycles c (y - 1970))

pub loop-year-init : goal.loop-year-init
unfolding days_before_year
loop-year-init c = (omega arith, omega arith)

pub loop-year-preserved : goal.loop-year-preserved
loop-year-preserved c =
    (omega arith, omega (arith, next-year c.loop-year.year c.loop-year.invariant.0))

pub returns-then-left-n : goal.returns-then-left-n
returns-then-left-n c =
    let q = c.args.days / 146097 in
    let y = c.loop-year.year in
    record {
      from = omega arith;
      whole = omega (arith, before-cycles q y c.loop-year.invariant.0);
      within = omega (arith, again-cycles q y);
    }

pub unreachable-requires : goal.unreachable-requires
unreachable-requires c =
    let end : c.loop-year.year - 1970 ≡ 400 = omega arith in omega (arith, ap days_before_year end, cycles 1)
