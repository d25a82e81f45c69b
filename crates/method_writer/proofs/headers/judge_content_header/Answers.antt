-- `method_writer::headers::judge_content_header` meets its contract. Assumes nothing.
use mathlib.Core.Path.{◌∙◌}
use mathlib.Core.List.{[]}
use native.Mathlib.Omega.{arith}
use Rattle.std.proofs.Common.{rules}
use Rattle.tables.specs.Letters.{errata}
use Rattle.method.specs.Present.{present_fields}
use Rattle.method_writer.proofs.WriteLaws.{size-refused, size-octets, fields-small, header_head, header-asked, header-size}
use Rattle.method_writer.proofs.headers.judge_content_header.Goals as goal

pub size_fields-requires : goal.size_fields-requires
size_fields-requires c =
    header-asked c.header_words-head.result c.properties_present.ensures (search rules)

pub overflow_add-result : goal.overflow_add-result
overflow_add-result c =
    omega (arith, fields-small c.args.pool.now c.args.tape.now c.properties_present.result c.header_words-head.result.words c.in_ok-n.n c.in_ok-n.ensures)

pub returns-in_err-n : goal.returns-in_err-n
returns-in_err-n c =
    let a = c.args in
    let h = c.header_words-head.result in
    let fs = present_fields c.properties_present.result in
    rw (← size-refused errata a.pool.now a.tape.now fs h.words (header_head h) 0 [] _ c.in_err-n.ensures
    ∙ header-size a.pool.now a.tape.now a.header h fs c.header_words-head.ensures c.properties_present.ensures)
    (search rules)

pub returns : goal.returns
returns c =
    let a = c.args in
    let h = c.header_words-head.result in
    let fs = present_fields c.properties_present.result in
    size-octets errata a.pool.now a.tape.now fs h.words (header_head h) 0 [] _ c.in_ok-n.ensures
    ∙ header-size a.pool.now a.tape.now a.header h fs c.header_words-head.ensures c.properties_present.ensures
