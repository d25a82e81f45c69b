-- `frame_reader::walk::Progress::any_step` meets its contract. Assumes nothing.
use mathlib.Core.Path.{sym}
use native.Mathlib.Omega.{arith}
use Rattle.std.proofs.lemmas.Result.{err_from_is_err_and}
use Rattle.tables.specs.Letters.{errata}
use Rattle.frame.proofs.FrameLaws.{decode-read}
use Rattle.frame_reader.proofs.WalkStepLaws.{decode-refused, register-full, payload-refused, payload-given}
use Rattle.frame_reader.proofs.walk.Progress.any_step.Goals as goal

pub returns-then-register-self : goal.returns-then-register-self
returns-then-register-self c =
    let a = c.args in register-full errata a.s.now a.self.at a.self.used a.self.frames a.tape.now a.register.now c.in_ok-frame.ensures (omega arith)

pub payload_records-requires : goal.payload_records-requires
payload_records-requires c =
    let d = decode-read _ _ _ _ (sym c.in_ok-frame.ensures) in omega (arith, d.start, d.past, d.inside)

pub returns-in_err-frame : goal.returns-in_err-frame
returns-in_err-frame c =
    let a = c.args in
    let p = err_from_is_err_and c.from_residual.result c.from_residual.ensures.1 in
    rw (p.1, p.2) (decode-refused errata a.s.now a.self.at a.self.used a.self.frames a.tape.now a.register.now c.in_err-frame.ensures)

pub returns-in_err-records : goal.returns-in_err-records
returns-in_err-records c =
    let a = c.args in
    let p = err_from_is_err_and c.from_residual-in_err-records.result c.from_residual-in_err-records.ensures.1 in
    rw (p.1, p.2) (payload-refused errata a.s.now a.self.at a.self.used a.self.frames a.tape.now a.register.now c.in_ok-frame.ensures (omega (arith, c.if-register-self.false)) c.in_err-records.ensures)

pub returns : goal.returns
returns c =
    let a = c.args in payload-given errata a.s.now a.self.at a.self.used a.self.frames a.tape.now a.register.now c.in_ok-frame.ensures (omega (arith, c.if-register-self.false)) c.in_ok-records.ensures c.put_entry.ensures
