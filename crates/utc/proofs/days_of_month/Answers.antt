-- `utc::days_of_month` meets its contract. Assumes nothing.
use mathlib.Core.Path.{sym, ◌∙◌}
use native.Mathlib.Omega.{arith}
use Rattle.utc.proofs.MonthLaws.{february, thirty, thirty-one}
use Rattle.utc.proofs.days_of_month.Goals as goal

pub returns-then-leap_year : goal.returns-then-leap_year
returns-then-leap_year c =
    (february _ _ c.in-2.is (sym c.leap_year.ensures ∙ c.if-leap_year.true), omega arith)

pub returns-else-leap_year : goal.returns-else-leap_year
returns-else-leap_year c =
    (february _ _ c.in-2.is (sym c.leap_year.ensures ∙ c.if-leap_year.false), omega arith)

pub returns-in-4 : goal.returns-in-4
returns-in-4 c =
    omega (arith, thirty c.args.year c.args.month c.in-4.is)

pub returns-in_default : goal.returns-in_default
returns-in_default c =
    (thirty-one _ _ (omega arith) (omega arith) c.in_default.in_default-own.rest.0.1 c.in_default.in_default-own.rest.1, omega arith)
