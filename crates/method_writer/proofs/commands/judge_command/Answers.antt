-- `method_writer::commands::judge_command` meets its contract. Assumes nothing.
use mathlib.Core.Path.{◌≡◌, sym, ap, ◌∙◌}
use mathlib.Core.List.{[]}
use native.Mathlib.Omega.{arith}
use Rattle.std.proofs.Common.{rules}
use Rattle.tables.specs.Letters.{errata}
use Rattle.method.specs.Commands.{fields_of}
use Rattle.method.specs.Layout.{layout_fields}
use Rattle.method.specs.Present.{present_fields}
use Rattle.method.specs.AnswerOf.{command_of}
use Rattle.method_words.proofs.CallLaws.{call_back}
use Rattle.method_writer.proofs.WriteLaws.{size-refused, size-octets, fields-small, layout_there, command-fields, command_head, command-asked, command-size}
use Rattle.method_writer.proofs.commands.judge_command.Goals as goal
use Rattle.method_writer.proofs.commands.judge_command.Goals.{After-command_fields}

-- its fields are those of its class and method
laid : (c : After-command_fields) → present_fields c.command_fields.result ≡ fields_of c.call_of-call.result.class c.call_of-call.result.method
laid c =
    command-fields c.unwrap-layout.result.now c.call_of-call.result.class c.call_of-call.result.method (ap layout_fields (sym c.unwrap-layout.ensures) ∙ c.layout_of.ensures) c.command_fields.ensures

pub unwrap-layout-requires : goal.unwrap-layout-requires
unwrap-layout-requires c =
    layout_there c.layout_of.result _ _ c.layout_of.ensures (call_back c.args.command c.call_of-call.result c.call_of-call.ensures).1

pub size_fields-requires : goal.size_fields-requires
size_fields-requires c =
    command-asked c.call_of-call.result (laid (goal.at.size_fields-requires c).After-command_fields) (search rules)

pub overflow_add-result : goal.overflow_add-result
overflow_add-result c =
    omega (arith, fields-small c.args.pool.now c.args.tape.now c.command_fields.result c.call_of-call.result.words c.in_ok-n.n c.in_ok-n.ensures)

pub returns-in_err-n : goal.returns-in_err-n
returns-in_err-n c =
    let a = c.args in
    let call = c.call_of-call.result in
    let fs = present_fields c.command_fields.result in
    rw (← size-refused errata a.pool.now a.tape.now fs call.words (command_head call) 0 [] _ c.in_err-n.ensures
    ∙ command-size a.pool.now a.tape.now (command_of a.command) call fs (call_back a.command call c.call_of-call.ensures).0 (laid (goal.at.returns-in_err-n c).After-command_fields))
    (search rules)

pub returns : goal.returns
returns c =
    let a = c.args in
    let call = c.call_of-call.result in
    let fs = present_fields c.command_fields.result in
    size-octets errata a.pool.now a.tape.now fs call.words (command_head call) 0 [] _ c.in_ok-n.ensures
    ∙ command-size a.pool.now a.tape.now (command_of a.command) call fs (call_back a.command call c.call_of-call.ensures).0 (laid (goal.at.returns c).After-command_fields)
