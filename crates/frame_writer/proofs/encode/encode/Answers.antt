-- `frame_writer::encode::encode` meets its contract. Assumes nothing.
use mathlib.Core.Path.{sym}
use Prim.Native.Nat.{◌+◌, ◌≤◌}
use native.Mathlib.Omega.{arith}
use lib.ListN.{length}
use Rattle.types.proofs.Tests.{yes_leb, no_leb}
use Rattle.frame.specs.AnswerOf.{type_octet}
use Rattle.frame_writer.proofs.EncodeLaws.{encode-too-long, encode-no-space, payload-ok, payload-put, encode-given}
use Rattle.frame_writer.proofs.encode.encode.Goals as goal
use Rattle.frame_writer.proofs.encode.encode.Goals.{Else-not-has_octets}

room : (c : Else-not-has_octets) → c.args.at + length c.args.payload.now + 8 ≤ length c.args.out.now
room c = omega (arith, yes_leb _ _ (sym c.if-not-has_octets.ensures))

pub returns-then-len-gt-MAX_LENGTH : goal.returns-then-len-gt-MAX_LENGTH
returns-then-len-gt-MAX_LENGTH c =
    let a = c.args in encode-too-long (type_octet a.frame_type) a.channel a.payload.now a.at a.out.now (omega arith)

pub returns-then-not-has_octets : goal.returns-then-not-has_octets
returns-then-not-has_octets c =
    let a = c.args in encode-no-space (type_octet a.frame_type) a.channel a.payload.now a.at a.out.now (omega arith) (omega (arith, no_leb _ _ (sym c.if-not-has_octets.ensures)))

pub unwrap-requires : goal.unwrap-requires
unwrap-requires c =
    let a = c.args in
    payload-ok (type_octet a.frame_type) a.channel a.payload.now a.at a.out.now (omega arith) (room (goal.at.unwrap-requires c).Else-not-has_octets) c.write_octets.result c.write_octets.ensures

pub returns : goal.returns
returns c =
    let a = c.args in
    let r = room (goal.at.returns c).Else-not-has_octets in
    encode-given (type_octet a.frame_type) a.channel a.payload.now a.at a.out.now (omega arith) r (payload-put (type_octet a.frame_type) a.channel a.payload.now a.at a.out.now (omega arith) r c.write_octets.result c.write_octets.ensures) c.close_frame.ensures
