-- `table_writer::emit::emit_span` meets its contract. Assumes nothing.
use native.Mathlib.Omega.{arith}
use Rattle.types.specs.Strings.{octets_of}
use Rattle.writers.specs.Writers.{write_octets}
use Rattle.table_writer.proofs.SizeLaws.{span-length, octets-there}
use Rattle.table_writer.proofs.EmitLaws.{is_written, emitted, is_found}
use Rattle.table_writer.proofs.emit.emit_span.Goals as goal

pub unwrap-octets-requires : goal.unwrap-octets-requires
unwrap-octets-requires c =
    is_found c.args.pool.now c.args.v c.requires.0 _ c.octets_in.result c.octets_in.ensures

pub unwrap-requires : goal.unwrap-requires
unfolding write_octets
unwrap-requires c =
    let a = c.args in
    let same = (octets-there a.pool.now _ a.v (rw c.unwrap-octets.ensures at c.octets_in.ensures)).1 in
    is_written c.write_octets.result (octets_of a.pool.now a.v) a.at a.out.now (omega (arith, c.requires.1, span-length a.pool.now a.v c.requires.0)) (rw same at c.write_octets.ensures)

pub returns : goal.returns
unfolding write_octets
returns c =
    let a = c.args in
    let same = (octets-there a.pool.now _ a.v (rw c.unwrap-octets.ensures at c.octets_in.ensures)).1 in
    emitted c.write_octets.result (omega (arith, c.requires.1, span-length a.pool.now a.v c.requires.0)) (rw same at c.write_octets.ensures) c.unwrap.ensures
