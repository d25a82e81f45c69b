-- `table_writer::emit::emit_number` meets its contract. Assumes nothing.
use native.Mathlib.Omega.{arith}
use Rattle.types.specs.Octets.{number_width, octets}
use Rattle.writers.specs.Writers.{write_uint}
use Rattle.types.proofs.NumberLaws.{length-octets}
use Rattle.table_writer.proofs.EmitLaws.{is_written, emitted}
use Rattle.table_writer.proofs.emit.emit_number.Goals as goal

pub unwrap-requires : goal.unwrap-requires
unfolding write_uint
unwrap-requires c =
    is_written c.write_number.result (octets (number_width c.args.width) c.args.n) c.args.at c.args.out.now (omega (arith, c.requires, length-octets (number_width c.args.width) c.args.n)) c.write_number.ensures

pub returns : goal.returns
unfolding write_uint
returns c =
    emitted c.write_number.result (omega (arith, c.requires, length-octets (number_width c.args.width) c.args.n)) c.write_number.ensures c.unwrap.ensures
