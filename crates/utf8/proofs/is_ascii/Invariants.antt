use mathlib.Core.Path.{◌≡◌}
use mathlib.Core.List.{List, ◌++◌}
use Prim.Native.Nat.{ℕ, ◌-◌}
use lib.ListN.{length, take}
use Rattle.utf8.specs.AnswerOf.{Ascii}
use Rattle.utf8.proofs.is_ascii.Given as goal

-- all octets before those that are left are ASCII; the last one of s stands behind both
abbrev pub invariant-loop-eight : goal.invariant-loop-eight
invariant-loop-eight l = (done : List ℕ) × (take (length l.s - 1) l.s ≡ done ++ l.eight-iterator.rest.now) × Ascii done 0 (length done) × (l.eight-iterator.size ≡ 8)
