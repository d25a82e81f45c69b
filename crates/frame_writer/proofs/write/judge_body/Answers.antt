-- `frame_writer::write::judge_body` meets its contract. Assumes nothing.
use Rattle.frame_writer.proofs.KindLaws.{body-outside, body-inside}
use Rattle.frame_writer.proofs.write.judge_body.Goals as goal

pub returns-in_default : goal.returns-in_default
returns-in_default c = body-outside c.args.pool.now c.args.span c.in_default.ensures

pub returns : goal.returns
returns c = body-inside c.args.pool.now c.args.span c.in-Some.ensures
