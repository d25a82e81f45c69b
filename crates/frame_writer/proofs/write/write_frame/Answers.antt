-- `frame_writer::write::write_frame` meets its contract. Assumes nothing.
use mathlib.Core.Path.{refl, ap, ◌∙◌}
use native.Mathlib.Omega.{arith}
use Rattle.types.specs.Answer.{refused}
use Rattle.frame.specs.Writing.{type_of}
use Rattle.frame.specs.AnswerOf.{type_octet, payload_of}
use Rattle.frame_writer.proofs.PayloadLaws.{Judged, Put, was_put, with-written, with-refused}
use Rattle.frame_writer.proofs.KindLaws.{payload_judged, frame-with}
use Rattle.frame_writer.proofs.write.write_frame.Goals as goal
use Rattle.frame_writer.proofs.write.write_frame.Goals.{In-Some}

-- the payload that was put
put : (c : In-Some) → let p : Judged = payload_judged c.args.pool.now c.args.tape.now (payload_of c.args.payload) in Put p.refusal p.octets c.args.at c.args.out.now c.in-Some.next c.put_payload.new.out
put c =
    let p : Judged = payload_judged c.args.pool.now c.args.tape.now (payload_of c.args.payload) in
    was_put p.octets c.args.at c.args.out.now p.refusal c.in-Some.ensures

pub overflow_sub-next : goal.overflow_sub-next
overflow_sub-next c =
    omega (arith, (put (goal.at.overflow_sub-next c).In-Some).past)

pub overflow_sub-next-2 : goal.overflow_sub-next-2
overflow_sub-next-2 c =
    omega (arith, (put (goal.at.overflow_sub-next-2 c).In-Some).past)

pub close_frame-requires : goal.close_frame-requires
close_frame-requires c =
    let p = put (goal.at.close_frame-requires c).In-Some in (omega (arith, p.past, p.space, p.same), omega (arith, p.past, p.short))

pub overflow_add-result : goal.overflow_add-result
overflow_add-result c =
    let p = put (goal.at.overflow_add-result c).In-Some in omega (arith, p.past, p.space, c.well_formed)

pub returns-in_default : goal.returns-in_default
returns-in_default c =
    let a = c.args in
    let x = payload_of a.payload in
    let sent : Judged = payload_judged a.pool.now a.tape.now x in
    with-refused sent (type_of x) a.channel a.at a.out.now c.in_default.ensures (ap refused c.not_written.ensures) ∙ frame-with a.pool.now a.tape.now x a.channel a.at a.out.now refl

pub returns : goal.returns
returns c =
    let a = c.args in
    let x = payload_of a.payload in
    let sent : Judged = payload_judged a.pool.now a.tape.now x in
    with-written sent (type_octet c.frame_type.result) a.channel a.at a.out.now (put (goal.at.returns c).In-Some) c.close_frame.ensures ∙ frame-with a.pool.now a.tape.now x a.channel a.at a.out.now c.frame_type.ensures
