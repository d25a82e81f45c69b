-- Lent memory: what a function answers, together with the whole of the memory at exit. A refusal changes nothing (document 01,
-- "Results and refusals").
use Rattle.std.specs.Prelude.{ℕ, ◌+◌, List, ◌++◌, length, take, drop}
use Rattle.types.specs.Answer.{Answer}

-- l with xs in the place of its elements from `at` on
unfoldable pub splice : ℕ → List ℕ → List ℕ → List ℕ
splice at xs l = take at l ++ xs ++ drop (at + length xs) l

-- an answer, and the lent memory at exit
pub data Outcome (A : Type 0) : Type 0 where
  outcome : Answer A → List ℕ → Outcome A
