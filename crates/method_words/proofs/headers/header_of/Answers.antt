-- `method_words::headers::header_of` meets its contract. Assumes nothing.
use mathlib.Core.Path.{◌≡◌, refl, ◌∙◌}
use Rattle.std.proofs.Common.{rules}
use Rattle.method.specs.Properties.{properties}
use Rattle.method.specs.AnswerOf.{properties_of, header_of}
use Rattle.method_words.specs.Properties.{next_of, number_in}
use Rattle.method_words.proofs.PickLaws.{next-octet, next-kept, all, next, header-picked}
use Rattle.method_words.proofs.headers.header_of.Goals as goal

pub returns : goal.returns
unfolding header_of properties_of properties
returns c =
    let records : c.map.result ≡ next_of number_in c.next_span-2.new.self = (search rules) ∙ c.next_number.ensures.taken in
    let mode = next-octet c.next_number.new.self _ c.map-2.result c.next_number-2.ensures.taken (search rules) in
    let priority = next-octet c.next_number-2.new.self _ c.map-3.result c.next_number-3.ensures.taken (search rules) in
    let time = next-kept c.next_span-6.new.self _ c.next_number-4.ensures.fits c.next_number-4.ensures.taken in
    header-picked c.args.class c.args.body_size _ _ refl
    (next c.next_span.ensures.taken c.next_span.ensures.rest
    (next c.next_span-2.ensures.taken c.next_span-2.ensures.rest
    (next records c.next_number.ensures.rest
    (next mode c.next_number-2.ensures.rest
    (next priority c.next_number-3.ensures.rest
    (next c.next_span-3.ensures.taken c.next_span-3.ensures.rest
    (next c.next_span-4.ensures.taken c.next_span-4.ensures.rest
    (next c.next_span-5.ensures.taken c.next_span-5.ensures.rest
    (next c.next_span-6.ensures.taken c.next_span-6.ensures.rest
    (next time c.next_number-4.ensures.rest
    (next c.next_span-7.ensures.taken c.next_span-7.ensures.rest
    (next c.next_span-8.ensures.taken c.next_span-8.ensures.rest
    (next c.next_span-9.ensures.taken c.next_span-9.ensures.rest
    all)))))))))))))
