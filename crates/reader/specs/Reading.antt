-- What a method of a reader answers, together with the whole reader at exit: after a refusal its position is unmoved (document 01,
-- "types.rs: octets and strings").
use Rattle.std.specs.Prelude.{ℕ, List, ◌⊎◌}
use Rattle.std.proofs.Common.{inl, inr}
use Rattle.types.specs.Answer.{Refusal, Answer, given, refused}
use Rattle.types.specs.Memory.{Outcome, outcome}
use Rattle.reader.specs.declared.Reader.{Reader}

-- an answer without the next position
abbrev pub result_of : {A : Type 0} → Answer A → A ⊎ Refusal
result_of (given a next) = inl a
result_of (refused r) = inr r

-- a result, and what was lent, at exit
pub data Taken (A S : Type 0) : Type 0 where
  taken : A ⊎ Refusal → S → Taken A S

-- a lent reader: past what was read, or unmoved after a refusal
abbrev pub reading : {A : Type 0} → Answer A → Reader → Taken A Reader
reading (given a next) r = taken (inl a) (record { buf = r.buf; pos = next })
reading (refused e) r = taken (inr e) r

-- a lent tape beside it
abbrev onto : {A S : Type 0} → List ℕ → Taken A S → Taken A (S × List ℕ)
onto tape (taken r s) = taken r (s, tape)

abbrev pub reading_onto : {A : Type 0} → Outcome A → Reader → Taken A (Reader × List ℕ)
reading_onto (outcome a tape) r = onto tape (reading a r)
