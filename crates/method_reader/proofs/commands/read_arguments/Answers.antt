-- `method_reader::commands::read_arguments` meets its contract. Assumes nothing.
use mathlib.Core.Path.{refl, ap, ◌∙◌}
use native.Mathlib.Omega.{arith}
use Rattle.std.proofs.Common.{rules}
use Rattle.tables.specs.Letters.{errata}
use Rattle.method.proofs.LayoutLaws.{command-widths, all-present}
use Rattle.method_words.specs.Words.{call_of}
use Rattle.method_words.specs.InWords.{in_words}
use Rattle.method_reader.proofs.CommandLaws.{arguments-refused, arguments-spare, arguments-read}
use Rattle.method_reader.proofs.commands.read_arguments.Goals as goal

pub read_fields-requires : goal.read_fields-requires
read_fields-requires c =
    rw (c.command_fields-fields.ensures ∙ all-present _ _ _ c.requires.1) (command-widths c.args.class c.args.method)

pub returns-in_err-table : goal.returns-in_err-table
returns-in_err-table c =
    let a = c.args in
    rw (← (arguments-refused errata a.class a.method _ a.s.now a.at.at a.used _ a.tape.now _ _ (c.command_fields-fields.ensures ∙ all-present _ _ _ c.requires.1) c.room.ensures _ c.in_err-table.ensures)) (search rules)

pub returns-then-next-s : goal.returns-then-next-s
returns-then-next-s c =
    let a = c.args in
    ap (in_words call_of (λ x. x.words) a.words.now)
    (arguments-spare errata a.class a.method _ a.s.now a.at.at a.used _ a.tape.now _ _ (c.command_fields-fields.ensures ∙ all-present _ _ _ c.requires.1) c.room.ensures _ _ c.in_ok-table.ensures c.if-next-s.true)

pub returns : goal.returns
returns c =
    let a = c.args in
    rw c.fill_table-records.ensures.count
    (arguments-read errata a.class a.method _ a.s.now a.at.at a.used _ a.tape.now _ _ (c.command_fields-fields.ensures ∙ all-present _ _ _ c.requires.1) c.room.ensures _ _ c.in_ok-table.ensures
    _ a.words.now (omega (arith, c.if-next-s.false)) refl c.fill_table-records.ensures.filled)
