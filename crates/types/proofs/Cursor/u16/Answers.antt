-- `types::Cursor::u16` meets its contract. Assumes nothing.
use Rattle.types.proofs.NumberLaws.{uint_at-lt}
use Rattle.types.proofs.Cursor.u16.Goals as goal

pub overflow_cast-result : goal.overflow_cast-result
overflow_cast-result c =
    record { fits = uint_at-lt 2 _ _ (λ i. (c.type_inv.s i).fits) c.in_ok-n.ensures }
