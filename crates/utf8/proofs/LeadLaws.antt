-- The rule of the first octets, by a test that is computed over a whole range of them.
use mathlib.Core.Path.{◌≡◌, refl, subst}
use mathlib.Core.Bool.{Bool, true, false, ◌&&◌}
use mathlib.Core.List.{List, [], ◌∷◌}
use Prim.Native.Nat.{ℕ, zero, suc, ◌+◌, ◌≤◌, ◌<◌}
use native.Mathlib.Omega.{arith}
use native.Mathlib.Nat.{eq-or-lt_of_le}
use mathlib.Core.Logic.{⊎_elim}
use lib.Dec.{T, eqb, eqb→eq}
use Rattle.utf8.specs.Utf8.{Range}
use Rattle.utf8.specs.Utf8.{followers}

and_l : (a b : Bool) → T (a && b) → T a
and_l true b t = tt
and_l false b t = t

and_r : (a b : Bool) → T (a && b) → T b
and_r true b t = t
and_r false b t = absurd t

abbrev pub same : Range → Range → Bool
same r q = eqb r.low q.low && eqb r.high q.high

same→ : (r q : Range) → T (same r q) → r ≡ q
same→ r q t =
    let l : r.low ≡ q.low = eqb→eq _ _ (and_l (eqb r.low q.low) (eqb r.high q.high) t) in
    let h : r.high ≡ q.high = eqb→eq _ _ (and_r (eqb r.low q.low) (eqb r.high q.high) t) in
    λ i. record { low = l i; high = h i }

module _ {A : Type 0} (eq : A → A → Bool) where
  abbrev pub alike : List A → List A → Bool
  alike [] [] = true
  alike [] (y ∷ ys) = false
  alike (x ∷ xs) [] = false
  alike (x ∷ xs) (y ∷ ys) = eq x y && alike xs ys

  alike→ : ((x y : A) → T (eq x y) → x ≡ y) → (xs ys : List A) → T (alike xs ys) → xs ≡ ys
  alike→ f [] [] t = refl
  alike→ f [] (y ∷ ys) t = absurd t
  alike→ f (x ∷ xs) [] t = absurd t
  alike→ f (x ∷ xs) (y ∷ ys) t =
      let e : x ≡ y = f x y (and_l (eq x y) (alike xs ys) t) in
      let es : xs ≡ ys = alike→ f xs ys (and_r (eq x y) (alike xs ys) t) in
      cc

-- a test at l, l + 1, .., l + n - 1
abbrev pub all_from : (ℕ → Bool) → ℕ → ℕ → Bool
all_from p l zero = true
all_from p l (suc n) = p l && all_from p (suc l) n

all_from→ : (p : ℕ → Bool) (l n : ℕ) → T (all_from p l n) → (x : ℕ) → l ≤ x → x < l + n → T (p x)
all_from→ p l zero t x h k = absurd (omega arith)
all_from→ p l (suc n) t x h k =
    ⊎_elim
    (λ e. subst (λ (y : ℕ). T (p y)) e (and_l (p l) (all_from p (suc l) n) t))
    (λ m. all_from→ p (suc l) n (and_r (p l) (all_from p (suc l) n) t) x m (omega arith))
    (eq-or-lt_of_le h)

-- the ranges rs follow every first octet from l to h
abbrev pub follows : List (List Range) → ℕ → Bool
follows rs x = alike (alike same) rs (followers x)

-- computed once for each arm of the code, over the whole arm
pub spanned : (l n : ℕ) (rs : List (List Range)) → T (all_from (follows rs) l n) → (x : ℕ) → l ≤ x → x < l + n → rs ≡ followers x
spanned l n rs t x h k = alike→ (alike same) (alike→ same same→) rs (followers x) (all_from→ (follows rs) l n t x h k)
