-- `method::present`: what comes next is the first field present, and the others are left. Assumes nothing.
use mathlib.Core.Path.{sym, ap, ◌∙◌}
use mathlib.Core.Logic.{inl, inr}
use native.Mathlib.Omega.{arith}
use lib.ListN.{length}
use Rattle.method.proofs.PresentLaws.{first-present, first-absent, nothing-left}
use Rattle.method.proofs.present.PresentFieldsIterator.next.Goals as goal

pub returns-in_err-first-clause-steps : goal.returns-in_err-first-clause-steps
returns-in_err-first-clause-steps c =
    let none = nothing-left c.loop-self.self.flags _ (inl c.in_err-first.ensures.cases) in
    rw c.from_residual.ensures (sym c.loop-self.invariant ∙ none, none)

pub returns-then-is_present-clause-steps : goal.returns-then-is_present-clause-steps
returns-then-is_present-clause-steps c =
    sym c.loop-self.invariant ∙ first-present _ _ _ _ c.in_ok-first.ensures.cases.0 c.if-is_present.true

pub returns-then-is_present-clause-goes : goal.returns-then-is_present-clause-goes
returns-then-is_present-clause-goes c =
    let e = sym c.loop-self.invariant ∙ first-present _ _ _ _ c.in_ok-first.ensures.cases.0 c.if-is_present.true in
    let fewer = ap length e in
    record { on = λ _. (tt, tt, omega (arith, fewer)); keeps = tt; rests = λ _. tt }

pub loop-self-preserved : goal.loop-self-preserved
loop-self-preserved c =
    sym (first-absent _ _ _ _ c.in_ok-first.ensures.cases.0 c.if-is_present.false) ∙ c.loop-self.invariant

pub returns-clause-steps : goal.returns-clause-steps
returns-clause-steps c =
    let none = nothing-left _ c.loop-self.self.layout.now (inr c.loop-self-test.false) in
    (sym c.loop-self.invariant ∙ none, none)
