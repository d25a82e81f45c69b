-- `frame_writer::write::write_body` meets its contract. Assumes nothing.
use Rattle.frame_writer.proofs.KindLaws.{body-not-written, body-written}
use Rattle.frame_writer.proofs.write.write_body.Goals as goal

pub returns-in_default : goal.returns-in_default
returns-in_default c =
    let a = c.args in body-not-written a.pool.now a.span c.in_default.ensures a.at a.out.now

pub returns : goal.returns
returns c =
    let a = c.args in body-written a.pool.now a.span c.in-Some.ensures a.at a.out.now c.write_octets.ensures
