-- What a reader in words gives: its answer, and at exit the words that were lent for it and the tape. After a refusal both are as they were.
use Rattle.std.specs.Prelude.{List, ℕ}
use Rattle.types.specs.Answer.{Answer, given, refused}
use Rattle.types.specs.Memory.{Outcome, outcome}
use Rattle.tables.specs.declared.WithCount.{WithCount}

pub data WordsOutcome (A : Type 0) : Type 0 where
  words_outcome : Answer (WithCount A) → List ℕ → List ℕ → WordsOutcome A

-- what another reader answers, in words: f is what is made of its value, and the words lent get those of that
abbrev pub in_words : {A B : Type 0} → (A → B) → (B → List ℕ) → List ℕ → Outcome (WithCount A) → WordsOutcome B
in_words f words before (outcome (given x n) tape) = words_outcome (given (record { value = f x.value; count = x.count }) n) (words (f x.value)) tape
in_words f words before (outcome (refused r) tape) = words_outcome (refused r) before tape
