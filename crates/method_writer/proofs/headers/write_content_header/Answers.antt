-- `method_writer::headers::write_content_header` meets its contract. Assumes nothing.
use mathlib.Core.Path.{◌≡◌, sym, ◌∙◌}
use mathlib.Core.List.{◌++◌}
use Prim.Native.Nat.{◌+◌, ◌≤◌}
use native.Mathlib.Omega.{arith}
use lib.ListN.{length}
use Rattle.std.proofs.Common.{rules}
use Rattle.types.specs.Octets as number
use Rattle.types.proofs.Tests.{yes_leb, no_leb}
use Rattle.tables.specs.Letters.{errata}
use Rattle.table_writer.specs.Emitting.{Emitted}
use Rattle.table_writer.proofs.EmitLaws.{emitted-length}
use Rattle.method.specs.Present.{present_fields}
use Rattle.method_words.proofs.PutLaws.{header-back}
use Rattle.method_writer.proofs.EmitLaws.{number-ok, number-written}
use Rattle.method_writer.proofs.WriteLaws.{ok-after, number-after, behind-refused, behind-full, behind-ready, behind-written, fields-small, header_head, header-asked, header-behind}
use Rattle.method_writer.proofs.headers.write_content_header.Goals as goal
use Rattle.method_writer.proofs.headers.write_content_header.Goals.{After-properties_present-2, Else-not-has_octets, After-unwrap-weight, After-unwrap-size, After-unwrap-flags, After-unwrap-start}

room : (c : Else-not-has_octets) → c.args.at + (14 + c.in_ok-n.n) ≤ length c.args.out.now
room c = yes_leb _ _ (sym c.if-not-has_octets.ensures)

-- what stands before the fields is written
class-written : (c : After-unwrap-weight) → Emitted (number.octets 2 c.header_words-head.result.class) c.args.at c.args.out.now c.write_u16.new.out c.unwrap-weight.result
class-written c =
    number-written 2 _ c.write_u16.result _ _ (omega (arith, room (goal.at.After-unwrap-weight c).Else-not-has_octets)) c.write_u16.ensures c.unwrap-weight.ensures

weight-written : (c : After-unwrap-size) → Emitted (number.octets 2 c.header_words-head.result.class ++ number.octets 2 0) c.args.at c.args.out.now c.write_u16-2.new.out c.unwrap-size.result
weight-written c =
    let at = goal.at.After-unwrap-size c in
    number-after 2 _ c.write_u16-2.result _ _ (omega (arith, room at.Else-not-has_octets)) (class-written at.After-unwrap-weight) c.write_u16-2.ensures c.unwrap-size.ensures

size-written : (c : After-unwrap-flags)
    → let h = c.header_words-head.result in Emitted ((number.octets 2 h.class ++ number.octets 2 0) ++ number.octets 8 h.body_size) c.args.at c.args.out.now c.write_u64.new.out c.unwrap-flags.result
size-written c =
    let at = goal.at.After-unwrap-flags c in
    number-after 8 _ c.write_u64.result _ _ (omega (arith, room at.Else-not-has_octets)) (weight-written at.After-unwrap-size) c.write_u64.ensures c.unwrap-flags.ensures

head-written : (c : After-unwrap-start) → Emitted (header_head c.header_words-head.result) c.args.at c.args.out.now c.write_u16-3.new.out c.unwrap-start.result
head-written c =
    let at = goal.at.After-unwrap-start c in
    number-after 2 _ c.write_u16-3.result _ _ (omega (arith, room at.Else-not-has_octets)) (size-written at.After-unwrap-flags) c.write_u16-3.ensures c.unwrap-start.ensures

-- both times the fields are the properties that are present
again : (c : After-properties_present-2) → present_fields c.properties_present-2.result ≡ present_fields c.properties_present.result
again c = c.properties_present-2.ensures ∙ sym c.properties_present.ensures

pub size_fields-requires : goal.size_fields-requires
size_fields-requires c =
    header-asked c.header_words-head.result c.properties_present.ensures (search rules)

pub overflow_add-n : goal.overflow_add-n
overflow_add-n c =
    omega (arith, fields-small c.args.pool.now c.args.tape.now c.properties_present.result c.header_words-head.result.words c.in_ok-n.n c.in_ok-n.ensures)

pub overflow_mul-head : goal.overflow_mul-head
overflow_mul-head c =
    omega (arith, (header-back c.args.header c.header_words-head.result c.header_words-head.ensures).0)

pub unwrap-weight-requires : goal.unwrap-weight-requires
unwrap-weight-requires c =
    number-ok 2 _ c.write_u16.result _ _ (omega (arith, room (goal.at.unwrap-weight-requires c).Else-not-has_octets)) c.write_u16.ensures

pub unwrap-size-requires : goal.unwrap-size-requires
unwrap-size-requires c =
    let at = goal.at.unwrap-size-requires c in
    ok-after 2 _ c.write_u16-2.result _ _ (omega (arith, room at.Else-not-has_octets)) (class-written at.After-unwrap-weight) c.write_u16-2.ensures

pub unwrap-flags-requires : goal.unwrap-flags-requires
unwrap-flags-requires c =
    let at = goal.at.unwrap-flags-requires c in
    ok-after 8 _ c.write_u64.result _ _ (omega (arith, room at.Else-not-has_octets)) (weight-written at.After-unwrap-size) c.write_u64.ensures

pub unwrap-start-requires : goal.unwrap-start-requires
unwrap-start-requires c =
    let at = goal.at.unwrap-start-requires c in
    ok-after 2 _ c.write_u16-3.result _ _ (omega (arith, room at.Else-not-has_octets)) (size-written at.After-unwrap-flags) c.write_u16-3.ensures

pub emit_fields-requires : goal.emit_fields-requires
emit_fields-requires c =
    let a = c.args in
    let h = c.header_words-head.result in
    let at = goal.at.emit_fields-requires c in
    let r = room at.Else-not-has_octets in
    let w = head-written at.After-unwrap-start in
    rw (again at.After-properties_present-2) (
      header-asked h c.properties_present.ensures (search rules),
      behind-ready errata a.pool.now a.tape.now (present_fields c.properties_present.result) h.words (header_head h) a.at a.out.now c.in_ok-n.n c.in_ok-n.ensures
          c.unwrap-start.result c.write_u16-3.new.out (omega (arith, r, w.next, emitted-length (omega (arith, r)) w)),
    )

pub overflow_add-result : goal.overflow_add-result
overflow_add-result c =
    omega (arith, room (goal.at.overflow_add-result c).Else-not-has_octets, (head-written (goal.at.overflow_add-result c).After-unwrap-start).next, c.well_formed)

pub returns-in_err-n : goal.returns-in_err-n
returns-in_err-n c =
    let a = c.args in
    let h = c.header_words-head.result in
    let fs = present_fields c.properties_present.result in
    rw (← behind-refused errata a.pool.now a.tape.now fs h.words (header_head h) a.at a.out.now _ c.in_err-n.ensures ∙ header-behind a.pool.now a.tape.now a.header h fs c.header_words-head.ensures c.properties_present.ensures a.at a.out.now) (search rules)

pub returns-then-not-has_octets : goal.returns-then-not-has_octets
returns-then-not-has_octets c =
    let a = c.args in
    let h = c.header_words-head.result in
    let fs = present_fields c.properties_present.result in
    behind-full errata a.pool.now a.tape.now fs h.words (header_head h) a.at a.out.now c.in_ok-n.n c.in_ok-n.ensures (no_leb _ _ (sym c.if-not-has_octets.ensures))
    ∙ header-behind a.pool.now a.tape.now a.header h fs c.header_words-head.ensures c.properties_present.ensures a.at a.out.now

pub returns : goal.returns
returns c =
    let a = c.args in
    let h = c.header_words-head.result in
    let at = goal.at.returns c in
    let fs = present_fields c.properties_present.result in
    behind-written errata a.pool.now a.tape.now fs h.words (header_head h) a.at a.out.now c.in_ok-n.n c.in_ok-n.ensures
    (room at.Else-not-has_octets) (head-written at.After-unwrap-start) (rw (again at.After-properties_present-2) at c.emit_fields.ensures)
    ∙ header-behind a.pool.now a.tape.now a.header h fs c.header_words-head.ensures c.properties_present.ensures a.at a.out.now
