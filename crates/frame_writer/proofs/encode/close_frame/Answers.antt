-- `frame_writer::encode::close_frame` meets its contract. Assumes nothing.
use mathlib.Core.Path.{◌≡◌, ◌∙◌}
use native.Mathlib.Omega.{arith}
use lib.ListN.{length}
use Rattle.frame.specs.AnswerOf.{type_octet}
use Rattle.method_writer.proofs.EmitLaws.{number-ok}
use Rattle.frame_writer.proofs.EncodeLaws.{number-length, put-around}
use Rattle.frame_writer.proofs.encode.close_frame.Goals as goal
use Rattle.frame_writer.proofs.encode.close_frame.Goals.{After-unwrap, After-unwrap-2, After-unwrap-3}

-- each leaves the output as long as it was
type-length : (c : After-unwrap) → length c.write_u8.new.out ≡ length c.args.out.now
type-length c = number-length 1 _ c.write_u8.result _ _ (omega (arith, c.requires.0)) c.write_u8.ensures

channel-length : (c : After-unwrap-2) → length c.write_u16.new.out ≡ length c.args.out.now
channel-length c =
    let e = type-length (goal.at.After-unwrap-2 c).After-unwrap in number-length 2 _ c.write_u16.result _ _ (omega (arith, c.requires.0, e)) c.write_u16.ensures ∙ e

size-length : (c : After-unwrap-3) → length c.write_u32.new.out ≡ length c.args.out.now
size-length c =
    let e = channel-length (goal.at.After-unwrap-3 c).After-unwrap-2 in number-length 4 _ c.write_u32.result _ _ (omega (arith, c.requires.0, e)) c.write_u32.ensures ∙ e

pub unwrap-requires : goal.unwrap-requires
unwrap-requires c =
    number-ok 1 _ c.write_u8.result _ _ (omega (arith, c.requires.0)) c.write_u8.ensures

pub unwrap-requires-2 : goal.unwrap-requires-2
unwrap-requires-2 c =
    number-ok 2 _ c.write_u16.result _ _ (omega (arith, c.requires.0, type-length (goal.at.unwrap-requires-2 c).After-unwrap)) c.write_u16.ensures

pub unwrap-requires-3 : goal.unwrap-requires-3
unwrap-requires-3 c =
    number-ok 4 _ c.write_u32.result _ _ (omega (arith, c.requires.0, channel-length (goal.at.unwrap-requires-3 c).After-unwrap-2)) c.write_u32.ensures

pub unwrap-requires-4 : goal.unwrap-requires-4
unwrap-requires-4 c =
    number-ok 1 _ c.write_u8-2.result _ _ (omega (arith, c.requires.0, size-length (goal.at.unwrap-requires-4 c).After-unwrap-3)) c.write_u8-2.ensures

pub returns : goal.returns
returns c =
    let a = c.args in
    put-around (type_octet a.frame_type) a.channel a.len a.at a.out.now c.write_u8.result c.write_u16.result c.write_u32.result c.write_u8-2.result c.octet.ensures (omega arith) (omega arith) c.write_u8.ensures c.write_u16.ensures c.write_u32.ensures c.write_u8-2.ensures
