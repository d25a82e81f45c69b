use mathlib.Core.Path.{refl, ap}
use native.Mathlib.Omega.{arith}
use Rattle.tables.specs.Letters.{errata}
use Rattle.method_words.specs.InWords.{in_words}
use Rattle.frame.specs.Step.{body, heartbeat}
use Rattle.frame.specs.AnswerOf.{type_octet, frame_of}
use Rattle.frame_reader.specs.Words.{frame_words}
use Rattle.frame_reader.proofs.StepLaws.{with_command, with_header, method-read, header_read, body-read, heartbeat-read, heartbeat-refused}
use Rattle.frame_reader.proofs.WordLaws.{of-frame, put-framed, framed-words}
use Prim.Native.Nat.{◌+◌}
use lib.ListN.{take}
use Rattle.method.specs.Reading.{read_command, read_header}
use Rattle.method_words.specs.Words.{call_of, header_words}
use Rattle.payload_words.specs.Words.{call_words, content_header_words}
use Rattle.frame_reader.proofs.words.read_payload.Goals as goal

pub returns-then-len-gt0 : goal.returns-then-len-gt0
returns-then-len-gt0 c =
    let a = c.args in ap (in_words frame_words (λ x. x.payload) a.payload.now) (heartbeat-refused errata a.s.now (frame_of a.frame) a.next.at a.used a.tape.now c.requires (ap type_octet c.in-Heartbeat.is) (omega (arith, c.if-len-gt0.true)))

pub returns-in-Method : goal.returns-in-Method
returns-in-Method c =
    let a = c.args in of-frame (c.frame_of.ensures _) (framed-words (λ x. call_words (call_of x)) (with_command errata a.s.now (frame_of a.frame) a.next.at a.used a.tape.now) a.frame.channel a.next.at a.payload.now (read_command errata (take (a.frame.payload.start + a.frame.payload.len) a.s.now) a.frame.payload.start a.used a.tape.now) (method-read errata a.s.now (frame_of a.frame) a.next.at a.used a.tape.now (ap type_octet c.in-Method.is)) (λ x. refl) c.read_method.ensures)

pub returns-in-Header : goal.returns-in-Header
returns-in-Header c =
    let a = c.args in of-frame (c.frame_of-in-Header.ensures _) (framed-words (λ x. content_header_words (header_words x)) (with_header errata a.s.now (frame_of a.frame) a.next.at a.used a.tape.now) a.frame.channel a.next.at a.payload.now (read_header errata (take (a.frame.payload.start + a.frame.payload.len) a.s.now) a.frame.payload.start a.used a.tape.now) (header_read errata a.s.now (frame_of a.frame) a.next.at a.used a.tape.now (ap type_octet c.in-Header.is)) (λ x. refl) c.read_header.ensures)

pub returns-in-Body : goal.returns-in-Body
returns-in-Body c =
    let a = c.args in put-framed (record { channel = a.frame.channel; payload = body a.frame.payload }) a.next.at a.payload.now _ _ _ c.body_words.ensures (body-read errata a.s.now (frame_of a.frame) a.next.at a.used a.tape.now c.requires (ap type_octet c.in-Body.is))

pub returns-else-len-gt0 : goal.returns-else-len-gt0
returns-else-len-gt0 c =
    let a = c.args in put-framed (record { channel = a.frame.channel; payload = heartbeat }) a.next.at a.payload.now _ _ _ c.heartbeat_words.ensures (heartbeat-read errata a.s.now (frame_of a.frame) a.next.at a.used a.tape.now c.requires (ap type_octet c.in-Heartbeat.is) (omega (arith, c.if-len-gt0.false)))
