-- `frame_writer::write::put_payload` meets its contract. Assumes nothing.
use native.Mathlib.Omega.{arith}
use Rattle.frame.specs.AnswerOf.{payload_of}
use Rattle.tables.specs.Letters.{errata}
use Rattle.frame.specs.Writing.{payload_refusal}
use Rattle.frame_writer.specs.Parts.{PayloadPart, payload_octets}
use Rattle.frame_writer.proofs.PayloadLaws.{put-answered}
use Rattle.frame_writer.proofs.write.put_payload.Goals as goal

pub overflow_add-at : goal.overflow_add-at
overflow_add-at c =
    let part : PayloadPart c.args.at c.args.out.now c.in_ok-end.end = c.in_ok-end.ensures in omega (arith, part.begins, part.inside, c.well_formed)

pub returns : goal.returns
returns c =
    let a = c.args in
    let x = payload_of a.payload in
    rw c.ok.ensures.value (put-answered (payload_refusal errata a.pool.now a.tape.now x) (payload_octets a.pool.now a.tape.now x) a.at a.out.now c.in_ok-end.ensures c.write_payload.result c.write_payload.ensures)
