-- `method_reader::headers::read_header_words` meets its contract. Assumes nothing.
use mathlib.Core.Path.{ap, ◌∙◌}
use Rattle.std.proofs.Common.{rules}
use Rattle.tables.specs.Letters.{errata}
use Rattle.method_words.specs.Words.{header_words}
use Rattle.method_words.specs.InWords.{in_words}
use Rattle.method_reader.proofs.PropertyLaws.{class-refused, weight-refused, weight-read}
use Rattle.method_reader.proofs.headers.read_header_words.Goals as goal

pub returns-in_err-class : goal.returns-in_err-class
returns-in_err-class c =
    rw (← (class-refused errata _ _ _ _ _ c.in_err-class.ensures)) (search rules)

pub returns-in_err-_weight : goal.returns-in_err-_weight
returns-in_err-_weight c =
    rw (← (weight-refused errata _ _ _ _ _ _ _ c.in_ok-class.ensures c.in_err-_weight.ensures)) (search rules)

pub returns : goal.returns
returns c =
    let a = c.args in
    c.read_sized.ensures
    ∙ ap (in_words header_words (λ x. x.words) a.words.now) (weight-read errata a.s.now a.used a.tape.now a.at.at _ _ _ _ c.in_ok-class.ensures c.in_ok-_weight.ensures)
