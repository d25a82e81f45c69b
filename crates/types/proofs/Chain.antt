-- What is known of a chain of readers that gives an answer.
use mathlib.Core.Path.{◌≡◌, refl}
use mathlib.Core.Bool.{Bool, true, false}
use Rattle.std.specs.Prelude.{Option, None, Some}
use Prim.Native.Nat.{ℕ}
use native.Mathlib.Omega.{arith}
use Rattle.types.specs.Answer.{Answer, given, refused, Refusal, and_then, need}
use Rattle.types.specs.Judgement.{test, or_else}

-- an answer that is given was given by both readers of a chain
pub then-go : {A B : Type 0} {G : Type 0} (x : Answer A) (k : A → ℕ → Answer B) (b : B) (n : ℕ) → and_then x k ≡ given b n
    → ((a : A) (m : ℕ) → x ≡ given a m → k a m ≡ given b n → G) → G
then-go (given a m) k b n e h = h a m refl e
then-go (refused r) k b n e h = let z : ◌≡◌ {A = ℕ} 0 1 = cc in absurd (omega arith)

-- two chains agree where what follows agrees on what was given
pub then-agree : {A B : Type 0} (x : Answer A) (j k : A → ℕ → Answer B) → ((a : A) (n : ℕ) → x ≡ given a n → j a n ≡ k a n) → and_then x j ≡ and_then x k
then-agree (given a n) j k h = h a n refl
then-agree (refused r) j k h = refl

pub need-given : {A : Type 0} (b : Bool) (r : Refusal) (x : Answer A) (a : A) (n : ℕ) → need b r x ≡ given a n → (b ≡ true) × (x ≡ given a n)
need-given true r x a n e = (refl, e)
need-given false r x a n e = let z : ◌≡◌ {A = ℕ} 0 1 = cc in absurd (omega arith)

pub given-next : {A : Type 0} (a b : A) (m n : ℕ) → ◌≡◌ {A = Answer A} (given a m) (given b n) → m ≡ n
given-next a b m n e = cc

pub given-value : {A : Type 0} (a b : A) (m n : ℕ) → ◌≡◌ {A = Answer A} (given a m) (given b n) → a ≡ b
given-value a b m n e = cc

-- judgements that pass
pub test-none : (b : Bool) (r : Refusal) (o : Option Refusal) → test b r o ≡ None → (b ≡ true) × (o ≡ None)
test-none true r o e = (refl, e)
test-none false r o e = let z : ◌≡◌ {A = ℕ} 0 1 = cc in absurd (omega arith)

pub or_else-none : (a o : Option Refusal) → or_else a o ≡ None → (a ≡ None) × (o ≡ None)
or_else-none None o e = (refl, e)
or_else-none (Some r) o e = let z : ◌≡◌ {A = ℕ} 0 1 = cc in absurd (omega arith)
