-- A reader in words, beside the reader whose answer it gives: what the one has answered, the other has too.
use mathlib.Core.Path.{◌≡◌, sym, ap, ◌∙◌}
use mathlib.Core.List.{List}
use Prim.Native.Nat.{ℕ}
use native.Mathlib.Omega.{arith}
use Rattle.types.specs.Answer.{Refusal, Answer, given, refused}
use Rattle.types.specs.Memory.{Outcome, outcome}
use Rattle.types.proofs.Chain.{given-value, given-next}
use Rattle.tables.specs.declared.WithCount.{WithCount}
use Rattle.method_words.specs.InWords.{WordsOutcome, words_outcome, in_words}

abbrev answer_in : {B : Type 0} → WordsOutcome B → Answer (WithCount B)
answer_in (words_outcome a w t) = a

abbrev tape_in : {B : Type 0} → WordsOutcome B → List ℕ
tape_in (words_outcome a w t) = t

-- from the case of an answer that a match has found
pub at-case : {R B : Type 0} (answer_of : R → List ℕ → Answer (WithCount B)) {r k : R} {w t : List ℕ} {y : WordsOutcome B} → words_outcome (answer_of r w) w t ≡ y → r ≡ k
    → words_outcome (answer_of k w) w t ≡ y
at-case answer_of {w = w} {t = t} e q = ap (λ k. words_outcome (answer_of k w) w t) (sym q) ∙ e

-- what was read in words is made of what was read
pub record ReadToo {A B : Type 0} (f : A → B) (o : Outcome (WithCount A)) (b : B) (k n : ℕ) (t : List ℕ) : Type 0 where
  pub value : A
  pub read : o ≡ outcome (given (record { value = value; count = k }) n) t
  pub made : b ≡ f value

module _ {A B : Type 0} (f : A → B) (words : B → List ℕ) (before : List ℕ) where
  pub refused-too : (o : Outcome (WithCount A)) (r : Refusal) (w t : List ℕ) → words_outcome (refused r) w t ≡ in_words f words before o → outcome (refused r) t ≡ o
  refused-too (outcome (given x n) tape) r w t e = let a = ap answer_in e in let z : ◌≡◌ {A = ℕ} 0 1 = cc in absurd (omega arith)
  refused-too (outcome (refused q) tape) r w t e = let a = ap answer_in e in let same : r ≡ q = cc in rw (same, ap tape_in e)

  pub read-too : (o : Outcome (WithCount A)) (b : B) (k n : ℕ) (w t : List ℕ) → words_outcome (given (record { value = b; count = k }) n) w t ≡ in_words f words before o
      → ReadToo f o b k n t
  read-too (outcome (given x m) tape) b k n w t e =
      let a = ap answer_in e in
      let c : ◌≡◌ {A = WithCount B} (record { value = b; count = k }) (record { value = f x.value; count = x.count }) = given-value _ _ n m a in
      record {
        value = x.value;
        read = rw (← (ap (λ (y : WithCount B). y.count) c), ← (given-next _ _ n m a), ← (ap tape_in e));
        made = ap (λ (y : WithCount B). y.value) c;
      }
  read-too (outcome (refused q) tape) b k n w t e = let a = ap answer_in e in let z : ◌≡◌ {A = ℕ} 0 1 = cc in absurd (omega arith)
