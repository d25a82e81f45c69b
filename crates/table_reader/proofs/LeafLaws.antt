-- Payloads of leaves: a truth value, and none.
use mathlib.Core.Path.{◌≡◌, refl}
use mathlib.Core.Bool.{Bool, true, false, cond}
use mathlib.Core.List.{List}
use Prim.Native.Nat.{ℕ, ◌+◌}
use lib.Dec.{leb}
use lib.ListN.{length}
use Rattle.types.specs.Answer.{given, refused, truncated, and_then}
use Rattle.types.specs.Octets.{number_at, uint_at}
use Rattle.types.specs.Strings.{span_at}
use Rattle.types.specs.declared.Span.{Span}
use Rattle.tables.specs.Letters.{number}
use Rattle.tables.specs.Forest.{words}
use Rattle.tables.specs.Reading.{leaf_at}

-- no octets, wherever they stand: zeros
pub void_leaf : (s : List ℕ) (at : ℕ) → and_then (span_at 0 s at) (λ v q. given (words 0 0) q) ≡ leaf_at (number 0) s at
unfolding leaf_at span_at uint_at number_at
void_leaf s at = go (leb (at + 0) (length s))
  where
    go : (b : Bool) → and_then {A = Span} (cond b (given (record { start = at; len = 0 }) (at + 0)) (refused truncated)) (λ v q. given (words 0 0) q)
        ≡ and_then (cond b (given 0 (at + 0)) (refused truncated)) (λ n q. given (words n 0) q)
    go true = refl
    go false = refl
