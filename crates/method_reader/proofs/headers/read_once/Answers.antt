-- `method_reader::headers::read_once` meets its contract: the fields around the table are stored, and the table is read where it ends. Assumes nothing.
use mathlib.Core.Path.{refl}
use Rattle.method.proofs.LayoutLaws.{property-widths}
use Rattle.method_reader.proofs.OnePassLaws.{behind-room, ok-was, refused-untold, elsewhere-untold, once-read}
use Rattle.method_reader.proofs.headers.read_once.Goals as goal

pub read_fields-requires : goal.read_fields-requires
read_fields-requires c =
    rw c.properties_present-before.ensures (property-widths _)

pub read_fields-requires-2 : goal.read_fields-requires-2
read_fields-requires-2 c =
    rw c.properties_present-behind.ensures (behind-room c.args.head.present c.args.head.thirteen c.requires _ c.read_fields.auto.words)

pub returns-in_err-records : goal.returns-in_err-records
returns-in_err-records c =
    let a = c.args in
    rw c.from_residual-in_err-records.ensures (refused-untold a.s.now _ _ a.used a.tape.now _ _ c.read_field_table_to.ensures c.in_err-records.ensures.value, refl)

pub returns-then-after-end : goal.returns-then-after-end
returns-then-after-end c =
    let a = c.args in
    (elsewhere-untold a.s.now _ _ a.used a.tape.now _ _ _ c.if-after-end.true (rw (ok-was _ c.in_ok-records.ensures.value) at c.read_field_table_to.ensures), refl)

pub returns : goal.returns
returns c =
    let a = c.args in
    rw c.with_records.ensures
    (once-read a.s.now c.in_ok-start.start.at c.in_ok-end.end.at a.used a.tape.now _ a.head.present a.at.at a.head.thirteen c.requires _ _ c.properties_present-before.ensures
    c.properties_present-behind.ensures _ _ a.words.now _ _ _ _ _ (rw (ok-was _ c.in_ok-start.ensures.value) at c.read_fields.ensures) (rw (ok-was _ c.in_ok-next.ensures.value) at c.read_fields-2.ensures)
    c.if-after-end.false (rw (ok-was _ c.in_ok-records.ensures.value) at c.read_field_table_to.ensures) a.head.class a.head.body_size)
