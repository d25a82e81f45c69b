-- `tables::tape::record_at` meets its contract. Assumes nothing.
use mathlib.Core.Path.{sym, ◌∙◌, ap}
use native.Mathlib.Omega.{arith}
use lib.ListN.{get_or}
use Rattle.tables.proofs.TapeLaws.{record-in_chunks, record-missing}
use Rattle.tables.proofs.tape.record_at.Goals as goal

pub returns-in_default : goal.returns-in_default
returns-in_default c =
    sym (record-missing _ _ (omega (arith, c.in_default.ensures.lookup, c.as_chunks.ensures.front_len)))

pub returns : goal.returns
returns c =
    let l = c.in-Some.ensures.lookup in
    rw c.from_words.ensures
    (record-in_chunks c.args.tape.now c.in-Some.field-0.now _ c.args.k (omega (arith, l, c.as_chunks.ensures.front_len))
    (l.1 ∙ ap (λ cs. get_or cs c.args.k c.in-Some.field-0.now) c.as_chunks.ensures.front))
