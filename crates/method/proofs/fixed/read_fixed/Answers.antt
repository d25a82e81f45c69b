-- `method::fixed::read_fixed` meets its contract. Assumes nothing.
use mathlib.Core.Path.{sym, ◌∙◌}
use mathlib.Core.Bool.{true, false}
use native.Mathlib.Omega.{arith}
use Rattle.std.proofs.Common.{rules}
use Rattle.types.proofs.StringLaws.{span_at-read}
use Rattle.method.specs.Reading.{fixed_at}
use Rattle.method.proofs.FixedLaws.{same_is, fixed-checked}
use Rattle.method.proofs.fixed.read_fixed.Goals as goal

pub returns-in_err-next : goal.returns-in_err-next
unfolding fixed_at
returns-in_err-next c = rw (← c.octets_of-octets.ensures, ← c.in_err-next.ensures) (search rules)

pub slice_bounds-eq-count : goal.slice_bounds-eq-count
slice_bounds-eq-count c =
    omega (arith, span_at-read _ _ _ c.in_ok-next.ensures)

pub slice_bounds-eq-start : goal.slice_bounds-eq-start
slice_bounds-eq-start c =
    omega (arith, span_at-read _ _ _ c.in_ok-next.ensures)

pub slice_bounds-eq-end : goal.slice_bounds-eq-end
slice_bounds-eq-end c =
    omega (arith, span_at-read _ _ _ c.in_ok-next.ensures)

pub returns-then-eq : goal.returns-then-eq
returns-then-eq c =
    rw (← c.octets_of-octets.ensures) (fixed-checked _ _ _ _ _ true c.in_ok-next.ensures (sym c.if-eq.true ∙ c.eq.ensures ∙ same_is _ _))

pub returns : goal.returns
returns c =
    rw (← c.octets_of-octets.ensures) (fixed-checked _ _ _ _ _ false c.in_ok-next.ensures (sym c.if-eq.false ∙ c.eq.ensures ∙ same_is _ _))
