-- `frame_reader::decode::decode` meets its contract. Assumes nothing.
use mathlib.Core.Path.{◌≡◌, sym, ◌∙◌, ap}
use native.Mathlib.Omega.{arith}
use Rattle.types.specs.declared.WireError.{WireError}
use Rattle.frame.specs.AnswerOf.{type_of_known}
use Rattle.types.proofs.NumberLaws.{uint_at-read}
use Rattle.frame_reader.proofs.DecodeLaws.{front-short, not-short, type-refused, front, payload-short, end-short, end-wrong, frame-read}
use Rattle.std.proofs.lemmas.Result.{err_from_is_err_and}
use Rattle.frame_reader.proofs.decode.decode.Goals as goal

pub returns-in_err-span : goal.returns-in_err-span
returns-in_err-span c =
    let p = err_from_is_err_and c.from_residual.result c.from_residual.ensures.1 in
    rw (p.1, p.2) (front-short c.args.s.now c.args.at.at c.in_err-span.ensures)

pub returns-in_err-octet : goal.returns-in_err-octet
returns-in_err-octet c = not-short c.args.s.now c.args.at.at c.in_ok-span.ensures 1 c.args.at.at (omega arith) c.in_err-octet.ensures

pub returns-in_err-frame_type : goal.returns-in_err-frame_type
returns-in_err-frame_type c =
    let p = err_from_is_err_and c.from_residual-in_err-frame_type.result c.from_residual-in_err-frame_type.ensures.1 in
    let none = c.in_err-frame_type.ensures.ok_part in
    let why : c.in_err-frame_type.field-0.0 ≡ WireError.UnsupportedFieldType c.in_ok-octet.octet = let v = rw none at c.in_err-frame_type.ensures.value in cc in
    rw (p.1, p.2, why) (type-refused c.args.s.now c.args.at.at c.in_ok-span.ensures c.in_ok-octet.ensures (sym (ap type_of_known none) ∙ c.from_u8.ensures))

pub returns-in_err-channel : goal.returns-in_err-channel
returns-in_err-channel c =
    not-short c.args.s.now c.args.at.at c.in_ok-span.ensures 2 c.in_ok-octet.behind_type.at (omega (arith, (uint_at-read 1 _ _ c.in_ok-octet.ensures).past)) c.in_err-channel.ensures

pub returns-in_err-len : goal.returns-in_err-len
returns-in_err-len c =
    not-short c.args.s.now c.args.at.at c.in_ok-span.ensures 4 c.in_ok-channel.behind_channel.at (omega (arith, (uint_at-read 1 _ _ c.in_ok-octet.ensures).past, (uint_at-read 2 _ _ c.in_ok-channel.ensures).past)) c.in_err-len.ensures

pub returns-in_err-payload : goal.returns-in_err-payload
returns-in_err-payload c =
    let p = err_from_is_err_and c.from_residual-in_err-payload.result c.from_residual-in_err-payload.ensures.1 in
    let f = front c.args.s.now c.args.at.at c.in_ok-span.ensures c.in_ok-octet.ensures (sym (ap type_of_known c.in_ok-frame_type.ensures.ok_part) ∙ c.from_u8.ensures) c.in_ok-channel.ensures c.in_ok-len.ensures in
    rw (p.1, p.2) (payload-short c.args.s.now c.args.at.at f c.in_err-payload.ensures)

pub returns-in_err-last : goal.returns-in_err-last
returns-in_err-last c =
    let p = err_from_is_err_and c.from_residual-in_err-last.result c.from_residual-in_err-last.ensures.1 in
    let f = front c.args.s.now c.args.at.at c.in_ok-span.ensures c.in_ok-octet.ensures (sym (ap type_of_known c.in_ok-frame_type.ensures.ok_part) ∙ c.from_u8.ensures) c.in_ok-channel.ensures c.in_ok-len.ensures in
    rw (p.1, p.2) (end-short c.args.s.now c.args.at.at f c.in_ok-payload.ensures c.in_err-last.ensures)

pub returns-then-last : goal.returns-then-last
returns-then-last c =
    let f = front c.args.s.now c.args.at.at c.in_ok-span.ensures c.in_ok-octet.ensures (sym (ap type_of_known c.in_ok-frame_type.ensures.ok_part) ∙ c.from_u8.ensures) c.in_ok-channel.ensures c.in_ok-len.ensures in
    end-wrong c.args.s.now c.args.at.at f c.in_ok-payload.ensures c.in_ok-last.ensures c.if-last.true

pub returns : goal.returns
returns c =
    let f = front c.args.s.now c.args.at.at c.in_ok-span.ensures c.in_ok-octet.ensures (sym (ap type_of_known c.in_ok-frame_type.ensures.ok_part) ∙ c.from_u8.ensures) c.in_ok-channel.ensures c.in_ok-len.ensures in
    frame-read c.args.s.now c.args.at.at f c.in_ok-payload.ensures c.in_ok-last.ensures c.if-last.false
