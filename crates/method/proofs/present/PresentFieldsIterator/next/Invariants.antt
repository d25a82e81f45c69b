use Rattle.std.proofs.Common.{◌≡◌, length}
use Rattle.method.specs.Present.{present_fields}
use Rattle.method.proofs.present.PresentFieldsIterator.next.Given as goal

abbrev pub invariant-loop-self : goal.invariant-loop-self
invariant-loop-self l = present_fields l.self ≡ present_fields l.initial.self

abbrev pub decreases-loop-self : goal.decreases-loop-self
decreases-loop-self l = length l.self.layout.now
