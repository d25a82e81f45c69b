-- `table_writer::write_field_table` meets its contract. Assumes nothing.
use mathlib.Core.Path.{sym}
use native.Mathlib.Omega.{arith}
use Rattle.std.proofs.Common.{rules}
use Rattle.types.proofs.Tests.{yes_leb, no_leb}
use Rattle.tables.specs.Letters.{errata}
use Rattle.table_writer.proofs.EmitLaws.{long-before}
use Rattle.table_writer.proofs.WriteLaws.{table-refused, table-too-long, table-no-space, table-ready, table-length, table-space, table-emitted}
use Rattle.table_writer.proofs.write_field_table.Goals as goal

pub returns-in_err-size : goal.returns-in_err-size
returns-in_err-size c =
    rw (← table-refused errata c.args.pool.now c.args.tape.now c.args.at c.args.out.now _ c.in_err-size.ensures) (search rules)

pub returns-then-size-gt-MAX_LENGTH : goal.returns-then-size-gt-MAX_LENGTH
returns-then-size-gt-MAX_LENGTH c =
    table-too-long errata c.args.pool.now c.args.tape.now c.args.at c.args.out.now _ c.in_ok-size.ensures c.if-size-gt-MAX_LENGTH.true

pub returns-then-not-has_octets : goal.returns-then-not-has_octets
returns-then-not-has_octets c =
    table-no-space errata c.args.pool.now c.args.tape.now c.args.at c.args.out.now _ c.in_ok-size.ensures c.if-size-gt-MAX_LENGTH.false (no_leb _ _ (sym c.if-not-has_octets.ensures))

pub emit_records-next-requires : goal.emit_records-next-requires
emit_records-next-requires c =
    (omega arith, rw c.records_in-count.ensures (table-ready errata c.args.pool.now c.args.tape.now c.args.at c.args.out.now _ c.in_ok-size.ensures c.if-size-gt-MAX_LENGTH.false (yes_leb _ _ (sym c.if-not-has_octets.ensures))))

pub returns : goal.returns
returns c =
    let space = yes_leb _ _ (sym c.if-not-has_octets.ensures) in
    table-emitted errata c.args.pool.now c.args.tape.now c.args.at c.args.out.now _ c.in_ok-size.ensures c.if-size-gt-MAX_LENGTH.false _ _ space
    (long-before _ (table-length errata c.args.pool.now c.args.tape.now c.args.at c.args.out.now _ c.in_ok-size.ensures c.if-size-gt-MAX_LENGTH.false) (table-space errata c.args.pool.now c.args.tape.now c.args.at c.args.out.now _ c.in_ok-size.ensures c.if-size-gt-MAX_LENGTH.false space)
    (rw c.records_in-count.ensures at c.emit_records-next.ensures) c.emit_number.ensures)
