-- `method_reader::headers::read_judged` meets its contract. Assumes nothing.
use Rattle.std.proofs.Common.{rules}
use Rattle.tables.specs.Letters.{errata}
use Rattle.method.proofs.LayoutLaws.{property-widths}
use Rattle.method_reader.proofs.PropertyLaws.{properties-refused, properties-read}
use Rattle.method_reader.proofs.headers.read_judged.Goals as goal

pub read_fields-requires : goal.read_fields-requires
read_fields-requires c =
    rw c.properties_present-fields.ensures (property-widths _)

pub returns-in_err-table : goal.returns-in_err-table
returns-in_err-table c =
    let a = c.args in
    rw (← (properties-refused errata a.s.now a.used a.tape.now a.head.class a.head.body_size a.head.present a.at.at _ _ _ c.properties_present-fields.ensures c.room.ensures _ _ c.in_err-table.ensures))
    (search rules)

pub returns : goal.returns
returns c =
    let a = c.args in
    rw (c.with_records.ensures, c.fill_table-records.ensures.count)
    (properties-read errata a.s.now a.used a.tape.now a.head.class a.head.body_size a.head.present a.at.at _ _ _ c.properties_present-fields.ensures c.room.ensures _ _ _ a.words.now
    a.head.thirteen c.in_ok-table.ensures c.fill_table-records.ensures.filled)
