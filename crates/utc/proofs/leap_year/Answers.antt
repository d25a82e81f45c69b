-- `utc::leap_year` meets its contract. Assumes nothing.
use Prim.Native.Nat.{◌%◌}
use native.Mathlib.Omega.{arith}
use borrow.Author.Tests.{eq-eqb, ne_eqb}
use Rattle.utc.specs.Calendar.{leap_year}
use Rattle.utc.proofs.leap_year.Goals as goal

pub returns-then-year-ne0 : goal.returns-then-year-ne0
unfolding leap_year
returns-then-year-ne0 c =
    rw (ne_eqb (c.args.year % 4) 0 c.if-year-ne0.true)

-- a year divisible by 100 is divisible by 4
pub returns-then-year-eq0 : goal.returns-then-year-eq0
unfolding leap_year
returns-then-year-eq0 c =
    let y = c.args.year in
    rw (eq-eqb (y % 4) 0 (omega arith), eq-eqb (y % 100) 0 c.if-year-eq0.true)

pub returns-else-year-eq0 : goal.returns-else-year-eq0
unfolding leap_year
returns-else-year-eq0 c =
    let y = c.args.year in
    rw (eq-eqb (y % 4) 0 (omega arith), ne_eqb (y % 100) 0 c.if-year-eq0.false)
