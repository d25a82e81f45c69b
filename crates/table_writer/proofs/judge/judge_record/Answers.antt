-- `table_writer::judge::judge_record` meets its contract. Assumes nothing.
use mathlib.Core.Path.{sym, ap, ◌∙◌}
use mathlib.Core.Logic.{inl}
use native.Mathlib.Omega.{arith}
use Rattle.std.proofs.Common.{rules}
use Rattle.tables.specs.Letters.{errata, kind_of}
use Rattle.tables.specs.AnswerOf.{record_of}
use Rattle.table_writer.specs.Sizes.{capped}
use Rattle.table_writer.proofs.PassLaws.{record-letter, record-name, record-payload, Parts, parts-le, record-count, record-given}
use Rattle.table_writer.proofs.judge.judge_record.Goals as goal
use Rattle.table_writer.proofs.judge.judge_record.Goals.{In_ok-payload}

-- the kind, the name and the payload pass
parts : (c : In_ok-payload) → let a = c.args in Parts errata a.levels a.named a.pool.now a.i (record_of a.r) a.left (kind_of errata c.args.r.letter) c.in_ok-name.name c.in_ok-payload.payload
parts c = record { known = c.in_ok-judge_letter.ensures; name = c.in_ok-name.ensures; payload = c.in_ok-payload.ensures }

pub returns-in_err-judge_letter : goal.returns-in_err-judge_letter
returns-in_err-judge_letter c =
    let a = c.args in
    rw (← record-letter errata a.levels a.named a.pool.now a.i (record_of a.r) a.left _ c.in_err-judge_letter.ensures) (search rules)

pub returns-in_err-name : goal.returns-in_err-name
returns-in_err-name c =
    let a = c.args in
    rw (← record-name errata a.levels a.named a.pool.now a.i (record_of a.r) a.left _ c.in_ok-judge_letter.ensures _ c.in_err-name.ensures) (search rules)

pub returns-in_err-payload : goal.returns-in_err-payload
returns-in_err-payload c =
    let a = c.args in
    rw (← record-payload errata a.levels a.named a.pool.now a.i (record_of a.r) a.left _ c.in_ok-judge_letter.ensures _ c.in_ok-name.ensures _ c.in_err-payload.ensures) (search rules)

pub returns-then-not-count_fits : goal.returns-then-not-count_fits
returns-then-not-count_fits c =
    record-count (parts (goal.at.returns-then-not-count_fits c).In_ok-payload) (sym c.count_fits.ensures ∙ c.if-not-count_fits.true)

pub overflow_add-name-2 : goal.overflow_add-name-2
overflow_add-name-2 c =
    omega (arith, parts-le (parts (goal.at.overflow_add-name-2 c).In_ok-payload))

pub returns : goal.returns
unfolding capped
returns c =
    ap inl c.min.ensures ∙ record-given (parts (goal.at.returns c).In_ok-payload) (sym c.count_fits.ensures ∙ c.if-not-count_fits.false)
