-- `method_reader::fields::flags_in` meets its contract. Assumes nothing.
use mathlib.Core.Path.{◌≡◌, refl, sym, ap}
use mathlib.Core.Bool.{Bool, true, false, cond}
use Rattle.std.specs.Prelude.{Option, None, Some}
use mathlib.Core.List.{List, [], ◌∷◌}
use Prim.Native.Nat.{ℕ, zero, suc, ◌^◌, ◌/◌, ◌%◌, ◌≤◌}
use native.Mathlib.Omega.{arith}
use native.Mathlib.Nat.{two-pow-succ}
use borrow.Author.Tests.{ne_eqb}
use lib.Dec.{eqb, ltb}
use lib.ListN.{length}
use Rattle.method.specs.Kinds.Bits.{Flags, flags_in}
use Rattle.std.specs.Bool.{then_some}
use Rattle.types.proofs.Tests.{leb_no}
use Rattle.method_reader.specs.Fields.{flags_packed}
use Rattle.method_reader.proofs.fields.flags_in.Goals as goal

-- a bit is set past the arguments
past : (ps : List Bool) (n : ℕ) → 2 ^ length ps ≤ n → flags_in ps n ≡ None
unfolding flags_in
past [] n h = rw (ne_eqb n 0 (λ e. absurd (omega arith)))
past (true ∷ ps) n h = rw (past ps (n / 2) (omega (arith, two-pow-succ (length ps))))
past (false ∷ ps) n h = rw (past ps (n / 2) (omega (arith, two-pow-succ (length ps)))) (either (eqb (n % 2) 1))
  where
    either : (b : Bool) → cond {A = Option (Flags ps)} b None None ≡ None
    either true = refl
    either false = refl

spare : (ps : List Bool) (n : ℕ) → 2 ^ length ps ≤ n → None ≡ flags_packed ps (flags_in ps n)
spare ps n h = sym (ap (flags_packed ps) (past ps n h))

no_ltb : (n m : ℕ) → m ≤ n → ltb n m ≡ false
no_ltb n m h = leb_no (suc n) m (omega arith)

lowest : (n : ℕ) → then_some (ltb n 2) n ≡ flags_packed (true ∷ []) (flags_in (true ∷ []) n)
unfolding flags_in
lowest zero = refl
lowest (suc zero) = refl
lowest (suc (suc n)) =
    rw (no_ltb (suc (suc n)) 2 (omega arith)) (spare (true ∷ []) (suc (suc n)) (omega arith))

two : (n : ℕ) → then_some (ltb n 4) n ≡ flags_packed (true ∷ true ∷ []) (flags_in (true ∷ true ∷ []) n)
unfolding flags_in
two zero = refl
two (suc zero) = refl
two (suc (suc zero)) = refl
two (suc (suc (suc zero))) = refl
two (suc (suc (suc (suc n)))) =
    rw (no_ltb (suc (suc (suc (suc n)))) 4 (omega arith)) (spare (true ∷ true ∷ []) (suc (suc (suc (suc n)))) (omega arith))

none-set : Some 0 ≡ flags_packed (false ∷ true ∷ []) (flags_in (false ∷ true ∷ []) 0)
unfolding flags_in
none-set = refl

one_set : Some 1 ≡ flags_packed (false ∷ true ∷ []) (flags_in (false ∷ true ∷ []) 2)
unfolding flags_in
one_set = refl

second : (n : ℕ) → (n ≡ 0 → ⊥) → (n ≡ 2 → ⊥) → None ≡ flags_packed (false ∷ true ∷ []) (flags_in (false ∷ true ∷ []) n)
unfolding flags_in
second zero z t = absurd (z refl)
second (suc zero) z t = refl
second (suc (suc zero)) z t = absurd (t refl)
second (suc (suc (suc zero))) z t = refl
second (suc (suc (suc (suc n)))) z t = spare (false ∷ true ∷ []) (suc (suc (suc (suc n)))) (omega arith)

pub returns-in-Lowest : goal.returns-in-Lowest
returns-in-Lowest c =
    rw (c.in-Lowest.is, c.then_some.ensures) (lowest c.args.n)

pub returns-in-0 : goal.returns-in-0
returns-in-0 c =
    rw (c.in-Second.is, c.in-0.is) none-set

pub returns-in-2 : goal.returns-in-2
returns-in-2 c =
    rw (c.in-Second.is, c.in-2.is) one_set

pub returns-in-Both : goal.returns-in-Both
returns-in-Both c =
    rw (c.in-Both.is, c.then_some-in-Both.ensures) (two c.args.n)

pub returns-in_default : goal.returns-in_default
returns-in_default c =
    rw c.in-Second.is (second c.args.n (λ z. omega arith) (λ t. omega arith))
