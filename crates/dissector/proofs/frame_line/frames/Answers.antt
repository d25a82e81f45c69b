-- `dissector::frame_line::frames` meets its contract: a frame that is decoded ends inside the octets. Assumes nothing.
use Rattle.std.proofs.Common.{sym, arith, rules}
use Rattle.frame.proofs.FrameLaws.{decode-read}
use Rattle.dissector.proofs.frame_line.frames.Goals as goal

pub loop-walked-smaller : goal.loop-walked-smaller
loop-walked-smaller c =
    omega (arith, decode-read _ _ _ _ (sym c.in-Ok.ensures))

pub loop-walked-preserved : goal.loop-walked-preserved
loop-walked-preserved c =
    let d = decode-read _ _ _ _ (sym c.in-Ok.ensures) in search (rules, d)
