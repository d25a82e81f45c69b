-- `method_writer::emit::emit_field` meets its contract. Assumes nothing.
use Rattle.tables.specs.Letters.{errata}
use Rattle.method_writer.proofs.EmitLaws.{number-ok, number-written, number_is, number-space, table-ok, table-written, fixed-ok, fixed-written}
use Rattle.method_writer.proofs.emit.emit_field.Goals as goal

pub unwrap-requires : goal.unwrap-requires
unwrap-requires c =
    let a = c.args in
    number-ok _ _ c.write_number.result _ _ (number-space errata a.pool.now a.tape.now a.words.now a.at a.out.now _ (rw c.in-Number.is at c.requires.1)) c.write_number.ensures

pub unwrap-requires-in-Table : goal.unwrap-requires-in-Table
unwrap-requires-in-Table c =
    let a = c.args in
    table-ok errata a.pool.now a.tape.now a.words.now a.at a.out.now c.write_field_table.result (rw c.in-Table.is at c.requires.1) c.write_field_table.ensures

pub unwrap-requires-in-Fixed : goal.unwrap-requires-in-Fixed
unwrap-requires-in-Fixed c =
    let a = c.args in
    fixed-ok errata a.pool.now a.tape.now a.words.now a.at a.out.now c.write_fixed.result _ (rw c.in-Fixed.is at c.requires.1) (rw c.in-Fixed.is at c.write_fixed.ensures)

pub returns-in-Number : goal.returns-in-Number
returns-in-Number c =
    let a = c.args in
    rw (c.in-Number.is, number_is errata a.pool.now a.tape.now a.words.now a.at a.out.now)
    (number-written _ _ c.write_number.result _ _ (number-space errata a.pool.now a.tape.now a.words.now a.at a.out.now _ (rw c.in-Number.is at c.requires.1)) c.write_number.ensures c.unwrap.ensures)

pub returns-in-Table : goal.returns-in-Table
returns-in-Table c =
    let a = c.args in
    rw c.in-Table.is (table-written errata a.pool.now a.tape.now a.words.now a.at a.out.now c.write_field_table.result (rw c.in-Table.is at c.requires.1) c.write_field_table.ensures c.unwrap-in-Table.ensures)

pub returns-in-Fixed : goal.returns-in-Fixed
returns-in-Fixed c =
    let a = c.args in
    rw c.in-Fixed.is (fixed-written errata a.pool.now a.tape.now a.words.now a.at a.out.now c.write_fixed.result _ (rw c.in-Fixed.is at c.requires.1) (rw c.in-Fixed.is at c.write_fixed.ensures) c.unwrap-in-Fixed.ensures)
