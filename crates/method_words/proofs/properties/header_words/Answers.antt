-- `method_words::properties::header_words` meets its contract. Assumes nothing.
use Rattle.std.proofs.Common.{rules}
use Rattle.method.specs.Properties.{properties}
use Rattle.method.specs.AnswerOf.{properties_of}
use Rattle.method_words.proofs.PutLaws.{put-octet, put-table, all, next, words-put}
use Rattle.method_words.proofs.properties.header_words.Goals as goal

pub returns : goal.returns
unfolding properties properties_of
returns c =
    words-put c.args.header _ _
    (next c.put_span.ensures.put
    (next c.put_span-2.ensures.put
    (next (put-table c.args.header.properties.headers c.map.result (search rules) c.put_number.ensures.put)
    (next (put-octet c.args.header.properties.delivery_mode c.map-2.result (search rules) c.put_number-2.ensures.put)
    (next (put-octet c.args.header.properties.priority c.map-3.result (search rules) c.put_number-3.ensures.put)
    (next c.put_span-3.ensures.put
    (next c.put_span-4.ensures.put
    (next c.put_span-5.ensures.put
    (next c.put_span-6.ensures.put
    (next c.put_number-4.ensures.put
    (next c.put_span-7.ensures.put
    (next c.put_span-8.ensures.put
    (next c.put_span-9.ensures.put
    all)))))))))))))
