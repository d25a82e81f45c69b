-- `table_reader::fill::put_record` meets its contract. Assumes nothing.
use Prim.Native.Nat.{◌*◌}
use mathlib.Core.List.{[], ◌∷◌}
use native.Mathlib.Omega.{arith}
use native.Mathlib.Numerals.{towards_suc}
use Rattle.types.proofs.Splice.{splice-sets}
use Rattle.table_reader.proofs.fill.put_record.Goals as goal

pub returns : goal.returns
returns c =
    let a = c.args in
    simp towards_suc
    (splice-sets (a.r.letter ∷ a.r.name.start ∷ a.r.name.len ∷ a.r.payload.first ∷ a.r.payload.second ∷ a.r.beneath ∷ []) a.tape.now (a.k * 6) (omega arith))
