-- `method_reader::headers::read_sized` meets its contract. Assumes nothing.
use mathlib.Core.Path.{ap, ◌∙◌}
use Rattle.std.proofs.Common.{rules}
use Rattle.tables.specs.Letters.{errata}
use Rattle.method_words.specs.Words.{header_words}
use Rattle.method_words.specs.InWords.{in_words}
use Rattle.method_reader.proofs.PropertyLaws.{sized-refused, flags-refused, flags-read}
use Rattle.method_reader.proofs.headers.read_sized.Goals as goal

pub returns-in_err-body_size : goal.returns-in_err-body_size
returns-in_err-body_size c =
    rw (← (sized-refused errata _ _ _ c.args.class _ _ c.in_err-body_size.ensures)) (search rules)

pub returns-in_err-flags : goal.returns-in_err-flags
returns-in_err-flags c =
    rw (← (flags-refused errata _ _ _ c.args.class _ _ _ _ c.in_ok-body_size.ensures c.in_err-flags.ensures)) (search rules)

pub returns : goal.returns
returns c =
    let a = c.args in
    c.read_properties.ensures
    ∙ ap (in_words header_words (λ x. x.words) a.words.now)
    (flags-read errata a.s.now a.used a.tape.now a.class a.at.at _ _ _ _ c.in_ok-body_size.ensures c.in_ok-flags.ensures)
