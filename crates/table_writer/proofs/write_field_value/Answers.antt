-- `table_writer::write_field_value` meets its contract. Assumes nothing.
use mathlib.Core.Path.{sym}
use native.Mathlib.Omega.{arith}
use Rattle.std.proofs.Common.{rules}
use Rattle.types.proofs.Tests.{yes_leb, no_leb}
use Rattle.tables.specs.Letters.{errata}
use Rattle.table_writer.proofs.WriteLaws.{value-refused, value-too-long, value-no-space, value-ready, value-emitted}
use Rattle.table_writer.proofs.write_field_value.Goals as goal

pub returns-in_err-size : goal.returns-in_err-size
returns-in_err-size c =
    rw (← value-refused errata c.args.pool.now c.args.tape.now c.args.at c.args.out.now _ c.in_err-size.ensures) (search rules)

pub returns-then-size : goal.returns-then-size
returns-then-size c =
    value-too-long errata c.args.pool.now c.args.tape.now c.args.at c.args.out.now _ c.in_ok-size.ensures c.if-size.true

pub returns-then-not-has_octets : goal.returns-then-not-has_octets
returns-then-not-has_octets c =
    value-no-space errata c.args.pool.now c.args.tape.now c.args.at c.args.out.now _ c.in_ok-size.ensures c.if-size.false (no_leb _ _ (sym c.if-not-has_octets.ensures))

pub emit_records-requires : goal.emit_records-requires
emit_records-requires c =
    (omega arith, rw c.records_in-count.ensures (value-ready errata c.args.pool.now c.args.tape.now c.args.at c.args.out.now _ c.in_ok-size.ensures c.if-size.false (yes_leb _ _ (sym c.if-not-has_octets.ensures))))

pub returns : goal.returns
returns c =
    value-emitted errata c.args.pool.now c.args.tape.now c.args.at c.args.out.now _ c.in_ok-size.ensures c.if-size.false _ _ (yes_leb _ _ (sym c.if-not-has_octets.ensures)) (rw c.records_in-count.ensures at c.emit_records.ensures)
