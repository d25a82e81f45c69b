-- `method_writer::emit::emit_short_str` meets its contract. Assumes nothing.
use mathlib.Core.List.{[]}
use native.Mathlib.Omega.{arith}
use Rattle.tables.specs.Letters.{errata}
use Rattle.method_writer.proofs.EmitLaws.{ShortFits, short-fits}
use Rattle.method_writer.proofs.emit.emit_short_str.Goals as goal
use Rattle.method_writer.proofs.emit.emit_short_str.Goals.{After-span_of-text}

fits : (c : After-span_of-text) → ShortFits errata c.args.pool.now [] c.args.words.now c.args.at c.args.out.now c.span_of-text.result
fits c = short-fits _ _ _ _ _ _ c.span_of-text.ensures c.requires.1

pub overflow_cast-text : goal.overflow_cast-text
overflow_cast-text c = omega (arith, (fits (goal.at.overflow_cast-text c).After-span_of-text).short)

pub emit_octet_and_text-requires : goal.emit_octet_and_text-requires
emit_octet_and_text-requires c =
    let f = fits (goal.at.emit_octet_and_text-requires c).After-span_of-text in (f.inside, f.space)

pub returns : goal.returns
returns c =
    rw (fits (goal.at.returns c).After-span_of-text).whole c.emit_octet_and_text.ensures
