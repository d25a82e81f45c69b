-- `method_writer::emit::emit_octet_and_text` meets its contract. Assumes nothing.
use Prim.Native.Nat.{◌+◌, ◌≤◌}
use native.Mathlib.Omega.{arith}
use lib.ListN.{length}
use Rattle.types.specs.Octets.{octets}
use Rattle.table_writer.specs.Emitting.{Emitted}
use Rattle.table_writer.proofs.EmitLaws.{emitted-length, emitted-after}
use Rattle.method_writer.proofs.EmitLaws.{number-ok, number-written, text-ok, text-written}
use Rattle.method_writer.proofs.emit.emit_octet_and_text.Goals as goal
use Rattle.method_writer.proofs.emit.emit_octet_and_text.Goals.{After-unwrap-next}

octet-written : (c : After-unwrap-next) → Emitted (octets 1 c.args.octet) c.args.at c.args.out.now c.write_u8.new.out c.unwrap-next.result
octet-written c = number-written 1 c.args.octet c.write_u8.result _ _ (omega (arith, c.requires.1)) c.write_u8.ensures c.unwrap-next.ensures

-- there is space for the octets
room : (c : After-unwrap-next) → c.unwrap-next.result + c.args.text.len ≤ length c.write_u8.new.out
room c =
    let w = octet-written c in omega (arith, c.requires.1, w.next, emitted-length (omega (arith, c.requires.1)) w)

pub unwrap-next-requires : goal.unwrap-next-requires
unwrap-next-requires c = number-ok 1 c.args.octet c.write_u8.result _ _ (omega (arith, c.requires.1)) c.write_u8.ensures

pub unwrap-requires : goal.unwrap-requires
unwrap-requires c =
    let a = c.args in text-ok a.pool.now a.text c.requires.0 c.write_octets.result _ _ (room (goal.at.unwrap-requires c).After-unwrap-next) c.write_octets.ensures

pub returns : goal.returns
returns c =
    let a = c.args in
    let at = (goal.at.returns c).After-unwrap-next in
    emitted-after (omega (arith, c.requires.1)) (octet-written at) (text-written a.pool.now a.text c.requires.0 c.write_octets.result _ _ (room at) c.write_octets.ensures c.unwrap.ensures)
