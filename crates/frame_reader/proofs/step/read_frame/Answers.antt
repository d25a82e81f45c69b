-- `frame_reader::step::read_frame` meets its contract. Assumes nothing.
use Rattle.tables.specs.Letters.{errata}
use Rattle.method.specs.Layout.{zeros}
use Rattle.frame_reader.proofs.WordLaws.{frame_made, frame_there}
use Rattle.frame_reader.proofs.step.read_frame.Goals as goal

pub unwrap-payload-requires : goal.unwrap-payload-requires
unwrap-payload-requires c =
    let a = c.args in frame_there errata a.s.now a.at.at a.used a.tape.now _ _ (zeros 26) _ _ _ c.in_ok-frame.ensures (λ i. (c.type_inv.s i).fits) _ c.payload_from.ensures

pub returns : goal.returns
returns c =
    let a = c.args in
    frame_made errata a.s.now a.at.at a.used a.tape.now _ _ (zeros 26) _ _ _ c.in_ok-frame.ensures (λ i. (c.type_inv.s i).fits) (rw c.unwrap-payload.ensures at c.payload_from.ensures)
