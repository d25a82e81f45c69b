-- `types::Cursor::i8` meets its contract. Assumes nothing.
use mathlib.Core.Path.{ap, ◌∙◌}
use Prim.Native.Nat.{ℕ}
use mir.Syntax.{w8}
use Rattle.bits.proofs.SignedLaws.{cast_is}
use Rattle.types.specs.Answer.{given}
use Rattle.types.proofs.NumberLaws.{uint_at-lt}
use Rattle.types.proofs.Cursor.i8.Goals as goal

pub returns : goal.returns
returns c =
    ap (λ (n : ℕ). given n c.in_ok-n.next.at) (cast_is w8 _ (uint_at-lt 1 _ _ (λ i. (c.type_inv.s i).fits) c.in_ok-n.ensures) c.cast_signed.ensures) ∙ c.in_ok-n.ensures
