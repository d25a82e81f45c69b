use mathlib.Core.Path.{◌≡◌}
use mathlib.Core.Bool.{true}
use Rattle.utf8.specs.AnswerOf.{Ascii}
use Rattle.utf8.proofs.ascii_part.Given as goal

abbrev pub invariant-loop-octet : goal.invariant-loop-octet
invariant-loop-octet l = l.ascii ≡ true → Ascii l.part 0 l.octet-index
