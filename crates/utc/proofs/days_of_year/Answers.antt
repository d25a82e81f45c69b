-- `utc::days_of_year` meets its contract. Assumes nothing.
use mathlib.Core.Path.{sym, ◌∙◌}
use Rattle.utc.specs.Calendar.{days_of_year}
use Rattle.utc.proofs.days_of_year.Goals as goal

pub returns-then-leap_year : goal.returns-then-leap_year
unfolding days_of_year
returns-then-leap_year c =
    rw (sym c.leap_year.ensures ∙ c.if-leap_year.true)

pub returns-else-leap_year : goal.returns-else-leap_year
unfolding days_of_year
returns-else-leap_year c =
    rw (sym c.leap_year.ensures ∙ c.if-leap_year.false)
