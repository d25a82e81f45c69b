-- `method_writer::commands::write_fields` meets its contract. Assumes nothing.
use mathlib.Core.Path.{◌≡◌, refl, sym, ◌∙◌}
use Prim.Native.Nat.{◌+◌, ◌≤◌}
use native.Mathlib.Omega.{arith}
use lib.ListN.{length}
use Rattle.std.proofs.Common.{rules}
use Rattle.types.specs.Octets as number
use Rattle.types.proofs.Tests.{yes_leb, no_leb}
use Rattle.tables.specs.Letters.{errata}
use Rattle.table_writer.specs.Emitting.{Emitted}
use Rattle.table_writer.proofs.EmitLaws.{emitted-length}
use Rattle.method.specs.Commands.{fields_of}
use Rattle.method.specs.Present.{present_fields}
use Rattle.method.specs.Words.{command_from}
use Rattle.method_writer.proofs.EmitLaws.{number-ok, number-written}
use Rattle.method_writer.proofs.WriteLaws.{ok-after, number-after, behind-refused, behind-full, behind-ready, behind-written, fields-small, command-fields, command_head, command-asked, command-behind}
use Rattle.method_writer.proofs.commands.write_fields.Goals as goal
use Rattle.method_writer.proofs.commands.write_fields.Goals.{After-command_fields, After-command_fields-2, Else-not-has_octets, After-unwrap-method, After-unwrap-start}

room : (c : Else-not-has_octets) → c.args.at + (4 + c.in_ok-n.n) ≤ length c.args.out.now
room c = yes_leb _ _ (sym c.if-not-has_octets.ensures)

-- the class and the method are written
class-written : (c : After-unwrap-method) → Emitted (number.octets 2 c.args.call.class) c.args.at c.args.out.now c.write_u16.new.out c.unwrap-method.result
class-written c =
    number-written 2 _ c.write_u16.result _ _ (omega (arith, room (goal.at.After-unwrap-method c).Else-not-has_octets)) c.write_u16.ensures c.unwrap-method.ensures

head-written : (c : After-unwrap-start) → Emitted (command_head c.args.call) c.args.at c.args.out.now c.write_u16-2.new.out c.unwrap-start.result
head-written c =
    let at = goal.at.After-unwrap-start c in
    number-after 2 _ c.write_u16-2.result _ _ (omega (arith, room at.Else-not-has_octets)) (class-written at.After-unwrap-method) c.write_u16-2.ensures c.unwrap-start.ensures

-- both times the fields are those of its class and method
laid : (c : After-command_fields) → present_fields c.command_fields.result ≡ fields_of c.args.call.class c.args.call.method
laid c = command-fields c.args.layout.now c.args.call.class c.args.call.method c.requires c.command_fields.ensures

again : (c : After-command_fields-2) → present_fields c.command_fields-2.result ≡ present_fields c.command_fields.result
again c = c.command_fields-2.ensures ∙ sym c.command_fields.ensures

pub size_fields-requires : goal.size_fields-requires
size_fields-requires c =
    command-asked c.args.call (laid (goal.at.size_fields-requires c).After-command_fields) (search rules)

pub overflow_add-n : goal.overflow_add-n
overflow_add-n c =
    omega (arith, fields-small c.args.pool.now c.args.tape.now c.command_fields.result c.args.call.words c.in_ok-n.n c.in_ok-n.ensures)

pub unwrap-method-requires : goal.unwrap-method-requires
unwrap-method-requires c =
    number-ok 2 _ c.write_u16.result _ _ (omega (arith, room (goal.at.unwrap-method-requires c).Else-not-has_octets)) c.write_u16.ensures

pub unwrap-start-requires : goal.unwrap-start-requires
unwrap-start-requires c =
    let at = goal.at.unwrap-start-requires c in
    ok-after 2 _ c.write_u16-2.result _ _ (omega (arith, room at.Else-not-has_octets)) (class-written at.After-unwrap-method) c.write_u16-2.ensures

pub emit_fields-requires : goal.emit_fields-requires
emit_fields-requires c =
    let a = c.args in
    let at = goal.at.emit_fields-requires c in
    let r = room at.Else-not-has_octets in
    let w = head-written at.After-unwrap-start in
    rw (again at.After-command_fields-2) (
      command-asked a.call (laid at.After-command_fields) (search rules),
      behind-ready errata a.pool.now a.tape.now (present_fields c.command_fields.result) a.call.words (command_head a.call) a.at a.out.now c.in_ok-n.n c.in_ok-n.ensures
          c.unwrap-start.result c.write_u16-2.new.out (omega (arith, r, w.next, emitted-length (omega (arith, r)) w)),
    )

pub overflow_add-result : goal.overflow_add-result
overflow_add-result c =
    omega (arith, room (goal.at.overflow_add-result c).Else-not-has_octets, (head-written (goal.at.overflow_add-result c).After-unwrap-start).next, c.well_formed)

pub returns-in_err-n : goal.returns-in_err-n
returns-in_err-n c =
    let a = c.args in
    let fs = present_fields c.command_fields.result in
    rw (← behind-refused errata a.pool.now a.tape.now fs a.call.words (command_head a.call) a.at a.out.now _ c.in_err-n.ensures
    ∙ command-behind a.pool.now a.tape.now (command_from a.call.class a.call.method a.call.words) a.call fs refl (laid (goal.at.returns-in_err-n c).After-command_fields) a.at a.out.now) (search rules)

pub returns-then-not-has_octets : goal.returns-then-not-has_octets
returns-then-not-has_octets c =
    let a = c.args in
    let fs = present_fields c.command_fields.result in
    behind-full errata a.pool.now a.tape.now fs a.call.words (command_head a.call) a.at a.out.now c.in_ok-n.n c.in_ok-n.ensures (no_leb _ _ (sym c.if-not-has_octets.ensures))
    ∙ command-behind a.pool.now a.tape.now (command_from a.call.class a.call.method a.call.words) a.call fs refl (laid (goal.at.returns-then-not-has_octets c).After-command_fields) a.at a.out.now

pub returns : goal.returns
returns c =
    let a = c.args in
    let at = goal.at.returns c in
    let fs = present_fields c.command_fields.result in
    behind-written errata a.pool.now a.tape.now fs a.call.words (command_head a.call) a.at a.out.now c.in_ok-n.n c.in_ok-n.ensures
    (room at.Else-not-has_octets) (head-written at.After-unwrap-start) (rw (again at.After-command_fields-2) at c.emit_fields.ensures)
    ∙ command-behind a.pool.now a.tape.now (command_from a.call.class a.call.method a.call.words) a.call fs refl (laid at.After-command_fields) a.at a.out.now
