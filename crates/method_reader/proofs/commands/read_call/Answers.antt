-- `method_reader::commands::read_call` meets its contract. Assumes nothing.
use mathlib.Core.Path.{ap, ◌∙◌}
use Rattle.std.proofs.Common.{rules}
use Rattle.tables.specs.Letters.{errata}
use Rattle.method.proofs.LayoutLaws.{layout-known, layout-unknown}
use Rattle.method_words.specs.Words.{call_of}
use Rattle.method_words.specs.InWords.{in_words}
use Rattle.method_reader.proofs.CommandLaws.{class-refused, method-refused, pair-unknown, pair-known}
use Rattle.method_reader.proofs.commands.read_call.Goals as goal

pub returns-in_err-class : goal.returns-in_err-class
returns-in_err-class c =
    rw (← (class-refused errata _ _ _ _ c.in_err-class.ensures)) (search rules)

pub returns-in_err-method : goal.returns-in_err-method
returns-in_err-method c =
    rw (← (method-refused errata _ _ _ _ _ _ c.in_ok-class.ensures c.in_err-method.ensures)) (search rules)

pub returns-in_default : goal.returns-in_default
returns-in_default c =
    let a = c.args in
    ap (in_words call_of (λ x. x.words) a.words.now)
    (pair-unknown errata a.s.now a.at.at a.used a.tape.now _ _ c.in_ok-class.ensures _ _ c.in_ok-method.ensures (layout-unknown _ _ c.in_default.ensures))

pub read_arguments-requires : goal.read_arguments-requires
read_arguments-requires c =
    layout-known _ _ _ c.in-Some.ensures

pub returns : goal.returns
returns c =
    let a = c.args in
    c.read_arguments.ensures
    ∙ ap (in_words call_of (λ x. x.words) a.words.now)
    (pair-known errata a.s.now a.at.at a.used a.tape.now _ _ c.in_ok-class.ensures _ _ c.in_ok-method.ensures (layout-known _ _ _ c.in-Some.ensures).0)
