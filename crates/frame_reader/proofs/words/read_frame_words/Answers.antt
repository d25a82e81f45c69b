use mathlib.Core.Path.{sym, ap, ◌∙◌}
use native.Mathlib.Omega.{arith}
use Rattle.std.proofs.lemmas.Result.{err_from_is_err_and}
use Rattle.tables.specs.Letters.{errata}
use Rattle.method_words.specs.InWords.{in_words}
use Rattle.frame_reader.specs.Words.{frame_words}
use Rattle.frame.proofs.FrameLaws.{decode-read}
use Rattle.frame_reader.proofs.StepLaws.{step-refused, step-decoded}
use Rattle.frame_reader.proofs.words.read_frame_words.Goals as goal

pub read_payload-requires : goal.read_payload-requires
read_payload-requires c =
    let d = decode-read _ _ _ _ (sym c.in_ok-frame.ensures) in omega (arith, d.start, d.past, d.inside)

pub returns-in_err-frame : goal.returns-in_err-frame
returns-in_err-frame c =
    let a = c.args in
    let p = err_from_is_err_and c.from_residual.result c.from_residual.ensures.1 in
    rw (p.1, p.2) (ap (in_words frame_words (λ x. x.payload) a.payload.now) (step-refused errata a.s.now a.at.at a.used a.tape.now c.in_err-frame.ensures))

pub returns : goal.returns
returns c =
    let a = c.args in c.read_payload.ensures ∙ ap (in_words frame_words (λ x. x.payload) a.payload.now) (step-decoded errata a.s.now a.at.at a.used a.tape.now c.in_ok-frame.ensures)
