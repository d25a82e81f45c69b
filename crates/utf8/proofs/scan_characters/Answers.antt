-- `utf8::scan_characters` meets its contract. Assumes nothing.
use mathlib.Core.Path.{refl, sym, ap, ◌∙◌}
use native.Mathlib.Omega.{arith}
use Rattle.utf8.specs.AnswerOf.{answer_of_lead}
use Rattle.utf8.proofs.ScanLaws.{fault-start, fault-end, verdict-begun, verdict-never, verdict-next, verdict-not, verdict-done, begins-cut, begins-low, begins-high, begins-next}
use Rattle.utf8.proofs.scan_characters.Goals as goal

pub scan-init : goal.scan-init
scan-init c =
    (omega arith, fault-start _)

pub loop-left-init : goal.loop-left-init
loop-left-init c = (
  omega arith,
  omega arith,
  refl,
  verdict-begun _ _ _ _ _ c.scan.invariant.1 (omega arith) (ap answer_of_lead (sym c.in-Some.is) ∙ c.lead_of.ensures),
)

pub scan-preserved : goal.scan-preserved
scan-preserved c =
    (omega arith, verdict-done _ _ _ _ _ _ _ c.loop-left.invariant.3 c.loop-left-test.false (omega arith) c.loop-left.invariant.2)

pub loop-left-preserved : goal.loop-left-preserved
loop-left-preserved c = (
  omega arith,
  omega arith,
  omega arith,
  verdict-next _ _ _ _ _ c.loop-left.invariant.3 (begins-next _ _ _ _ _ c.loop-left-test.true (omega arith) (omega arith) (omega arith)),
)

pub returns-then-s-i : goal.returns-then-s-i
returns-then-s-i c =
    fault-end _ _ c.scan.invariant.1 (omega arith)

pub returns-in_default : goal.returns-in_default
returns-in_default c =
    verdict-never _ _ c.scan.invariant.1 (omega arith) (ap answer_of_lead (sym c.in_default.is) ∙ c.lead_of.ensures)

pub returns-then-s-i-2 : goal.returns-then-s-i-2
returns-then-s-i-2 c =
    verdict-not _ _ _ _ c.loop-left.invariant.3 (begins-cut _ _ _ _ _ c.loop-left-test.true c.if-s-i-2.true)

pub returns-then-c-low : goal.returns-then-c-low
returns-then-c-low c =
    verdict-not _ _ _ _ c.loop-left.invariant.3 (begins-low _ _ _ _ _ c.loop-left-test.true (omega arith) c.if-c-low.true)

pub returns-then-high-c : goal.returns-then-high-c
returns-then-high-c c =
    verdict-not _ _ _ _ c.loop-left.invariant.3 (begins-high _ _ _ _ _ c.loop-left-test.true (omega arith) (omega arith) c.if-high-c.true)
