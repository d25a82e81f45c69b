-- `table_writer::judge::judge_payload` meets its contract. Assumes nothing.
use mathlib.Core.Path.{ap, ◌∙◌}
use mathlib.Core.Logic.{◌⊎◌}
use mathlib.Core.Bool.{Bool, ◌&&◌}
use mathlib.Core.List.{List}
use Rattle.std.specs.Prelude.{None}
use Prim.Native.Nat.{ℕ, ◌^◌}
use native.Mathlib.Omega.{arith}
use lib.Dec.{ltb, eqb}
use borrow.Author.Tests.{lt-ltb}
use Rattle.types.specs.Answer.{Refusal, bad_tape}
use Rattle.types.specs.Judgement.{test}
use Rattle.types.specs.Octets.{number_width}
use Rattle.tables.specs.Writing.{judge_payload}
use Rattle.tables.specs.Letters as kind
use Rattle.tables.specs.AnswerOf.{payload_words}
use Rattle.tables.specs.declared.PayloadWords.{PayloadWords}
use Rattle.table_writer.specs.Sizes.{capped, sized, own_payload}
use Rattle.table_writer.proofs.KindLaws.{below_one, both-pass, width-capped}
use Rattle.table_writer.proofs.SizeLaws.{octets-missing, string-given}
use Rattle.table_writer.proofs.judge.judge_payload.Goals as goal

-- the answer for a kind
abbrev answer : List ℕ → ℕ → PayloadWords → kind.Kind → ℕ ⊎ Refusal
answer pool i x k = sized (judge_payload k pool i (payload_words x)) (capped (own_payload k x.second))

pub returns-in_default : goal.returns-in_default
returns-in_default c =
    let a = c.args in
    let outside = octets-missing a.pool.now _ (rw c.to_span.ensures at c.in_default.ensures) in
    rw (← (rw c.in-Some-LongStr.field-0-is at c.in-Some-LongStr.ensures), outside)

pub returns-in-Some : goal.returns-in-Some
returns-in-Some c =
    let a = c.args in
    let x = a.r.payload in
    rw (← (rw c.in-Some-LongStr.field-0-is at c.in-Some-LongStr.ensures)) (string-given a.pool.now _ a.i _ x.first x.second (rw c.to_span.ensures at c.in-Some.ensures) c.min.ensures)

pub returns-in-Some-Number : goal.returns-in-Some-Number
returns-in-Some-Number c =
    let a = c.args in
    let x = a.r.payload in
    let w = c.in-Some-Number.width in
    c.judge_number.ensures
    ∙ ap (λ (n : ℕ). sized (test (ltb x.first n && eqb x.second 0) (bad_tape a.i) None) c.octets.result) c.greatest.ensures
    ∙ ap (λ (n : ℕ). sized (test (ltb x.first (256 ^ number_width w) && eqb x.second 0) (bad_tape a.i) None) n) (c.octets.ensures ∙ width-capped w)
    ∙ ap (answer a.pool.now a.i x) (rw c.in-Some-Number.field-0-is at c.in-Some-Number.ensures)

pub returns-in-Some-Void : goal.returns-in-Some-Void
unfolding capped
returns-in-Some-Void c =
    rw (← (rw c.in-Some-Void.field-0-is at c.in-Some-Void.ensures)) c.judge_number-in-Some-Void.ensures

pub returns-in-Some-Boolean : goal.returns-in-Some-Boolean
unfolding capped
returns-in-Some-Boolean c =
    rw (← (rw c.in-Some-Boolean.field-0-is at c.in-Some-Boolean.ensures)) c.judge_number-in-Some-Boolean.ensures

pub returns-else-greatest-x-2 : goal.returns-else-greatest-x-2
unfolding capped
returns-else-greatest-x-2 c =
    let x = c.args.r.payload in
    both-pass (ltb x.first 256) (ltb x.second (256 ^ 4)) (bad_tape c.args.i) (capped 5) (lt-ltb x.first 256 (omega (arith, c.if-greatest-x.false, c.greatest-in-Some-Decimal.ensures))) (lt-ltb x.second (256 ^ 4) (omega (arith, c.if-greatest-x-2.false, c.greatest-else-greatest-x.ensures)))
    ∙ ap (answer c.args.pool.now c.args.i x) (rw c.in-Some-Decimal.field-0-is at c.in-Some-Decimal.ensures)

pub returns-in-Some-Container : goal.returns-in-Some-Container
unfolding capped
returns-in-Some-Container c =
    let a = c.args in
    let x = a.r.payload in
    c.judge_number-in-Some-Container.ensures ∙ ap (λ (b : Bool). sized (test (b && eqb x.second 0) (bad_tape a.i) None) 4) (below_one x.first)
    ∙ ap (answer a.pool.now a.i x) (rw c.in-Some-Container.field-0-is at c.in-Some-Container.ensures)
