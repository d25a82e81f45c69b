use mathlib.Core.Path.{ap}
use Prim.Native.Nat.{◌+◌}
use native.Mathlib.Omega.{arith}
use lib.ListN.{take}
use Rattle.std.proofs.lemmas.Result.{err_from_is_err_and}
use Rattle.tables.specs.Letters.{errata}
use Rattle.tables.specs.Tape.{records_only}
use Rattle.method.specs.Reading.{read_command, read_header}
use Rattle.method.specs.Layout.{zeros}
use Rattle.method_words.specs.Words.{call_of, header_words}
use Rattle.frame.specs.AnswerOf.{type_octet, frame_of}
use Rattle.frame_reader.proofs.StepLaws.{with_command, with_header, method-read, header_read, body-read, heartbeat-read, heartbeat-refused}
use Rattle.frame_reader.proofs.WordLaws.{records-counted}
use Rattle.frame_reader.proofs.walk.payload_records.Goals as goal

pub returns-then-len-gt0 : goal.returns-then-len-gt0
returns-then-len-gt0 c =
    let a = c.args in ap records_only (heartbeat-refused errata a.s.now (frame_of a.frame) a.next.at a.used a.tape.now c.requires (ap type_octet c.in-Heartbeat.is) (omega (arith, c.if-len-gt0.true)))

pub returns-in_err-call-in-Method : goal.returns-in_err-call-in-Method
returns-in_err-call-in-Method c =
    let a = c.args in
    let p = err_from_is_err_and c.from_residual.result c.from_residual.ensures.1 in
    rw (p.1, p.2) (records-counted call_of (λ x. x.words) (with_command errata a.s.now (frame_of a.frame) a.next.at a.used a.tape.now) a.next.at (zeros 8) (read_command errata (take (a.frame.payload.start + a.frame.payload.len) a.s.now) a.frame.payload.start a.used a.tape.now) (method-read errata a.s.now (frame_of a.frame) a.next.at a.used a.tape.now (ap type_octet c.in-Method.is)) c.in_err-call-in-Method.ensures)

pub returns-in_ok-call-in-Method : goal.returns-in_ok-call-in-Method
returns-in_ok-call-in-Method c =
    let a = c.args in records-counted call_of (λ x. x.words) (with_command errata a.s.now (frame_of a.frame) a.next.at a.used a.tape.now) a.next.at (zeros 8) (read_command errata (take (a.frame.payload.start + a.frame.payload.len) a.s.now) a.frame.payload.start a.used a.tape.now) (method-read errata a.s.now (frame_of a.frame) a.next.at a.used a.tape.now (ap type_octet c.in-Method.is)) c.in_ok-call-in-Method.ensures

pub returns-in_err-header-in-Header : goal.returns-in_err-header-in-Header
returns-in_err-header-in-Header c =
    let a = c.args in
    let p = err_from_is_err_and c.from_residual-in_err-header-in-Header.result c.from_residual-in_err-header-in-Header.ensures.1 in
    rw (p.1, p.2) (records-counted header_words (λ x. x.words) (with_header errata a.s.now (frame_of a.frame) a.next.at a.used a.tape.now) a.next.at (zeros 22) (read_header errata (take (a.frame.payload.start + a.frame.payload.len) a.s.now) a.frame.payload.start a.used a.tape.now) (header_read errata a.s.now (frame_of a.frame) a.next.at a.used a.tape.now (ap type_octet c.in-Header.is)) c.in_err-header-in-Header.ensures)

pub returns-in_ok-header-in-Header : goal.returns-in_ok-header-in-Header
returns-in_ok-header-in-Header c =
    let a = c.args in records-counted header_words (λ x. x.words) (with_header errata a.s.now (frame_of a.frame) a.next.at a.used a.tape.now) a.next.at (zeros 22) (read_header errata (take (a.frame.payload.start + a.frame.payload.len) a.s.now) a.frame.payload.start a.used a.tape.now) (header_read errata a.s.now (frame_of a.frame) a.next.at a.used a.tape.now (ap type_octet c.in-Header.is)) c.in_ok-header-in-Header.ensures

pub returns-in-Body : goal.returns-in-Body
returns-in-Body c =
    let a = c.args in ap records_only (body-read errata a.s.now (frame_of a.frame) a.next.at a.used a.tape.now c.requires (ap type_octet c.in-Body.is))

pub returns-else-len-gt0 : goal.returns-else-len-gt0
returns-else-len-gt0 c =
    let a = c.args in ap records_only (heartbeat-read errata a.s.now (frame_of a.frame) a.next.at a.used a.tape.now c.requires (ap type_octet c.in-Heartbeat.is) (omega (arith, c.if-len-gt0.false)))
