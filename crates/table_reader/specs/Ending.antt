-- A table that is filled only where it ends at a given position: for a reader that passed over it by its length and has judged what stands there.
use Rattle.std.specs.Prelude.{cond, List, ℕ, eqb}
use Rattle.types.specs.Answer.{given, refused}
use Rattle.types.specs.Memory.{Outcome, outcome}
use Rattle.tables.specs.Letters.{Letters}
use Rattle.tables.specs.Tape.{WithCount, read_table}

-- the answer as it is, and the tape at exit; one that ends elsewhere leaves the tape
abbrev pub ending_at : {A : Type 0} → ℕ → List ℕ → Outcome A → Outcome A
ending_at end tape (outcome (given x n) after) = outcome (given x n) (cond (eqb n end) after tape)
ending_at end tape (outcome (refused r) after) = outcome (refused r) after

unfoldable pub read_table_to : Letters → List ℕ → ℕ → ℕ → ℕ → List ℕ → Outcome (WithCount Unit)
read_table_to letters s at end used tape = ending_at end tape (read_table letters s at used tape)
