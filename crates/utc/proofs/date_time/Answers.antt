-- `utc::date_time` meets its contract: the year, the month and the time of the day take the seconds apart. Assumes nothing.
use native.Mathlib.Omega.{arith}
use Rattle.utc.specs.Calendar.{days_of, seconds_of}
use Rattle.utc.proofs.date_time.Goals as goal

pub returns : goal.returns
unfolding seconds_of days_of
returns c =
    let y = c.year_day-of_year.ensures in
    let m = c.month_day-of_month.ensures in
    record {
      valid = record { year = y.from; month = m.month; day = m.day; hour = omega arith; minute = omega arith; second = omega arith };
      since = omega (arith, y.whole, m.whole);
    }
