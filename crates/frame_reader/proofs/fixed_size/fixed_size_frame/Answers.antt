-- `frame_reader::fixed_size::fixed_size_frame` meets its contract. Assumes nothing.
use mathlib.Core.Path.{sym, ◌∙◌}
use native.Mathlib.Omega.{arith}
use Rattle.types.proofs.NumberLaws.{Octets}
use Rattle.frame_reader.proofs.FixedSizeLaws.{fixed_frame}
use Rattle.frame_reader.proofs.fixed_size.fixed_size_frame.Goals as goal

pub returns : goal.returns
returns c =
    let a = c.args in
    let o : Octets a.s.now = λ i. (c.type_inv.s i).fits in
    fixed_frame a.s.now a.at o c.in_ok-size.size c.if-s-at.false (sym c.four_octets-2.ensures ∙ c.if-four_octets-len.false) (omega arith) c.if-s-end.false c.if-size-s.false (rw c.four_octets.ensures at c.in_ok-size.ensures)
