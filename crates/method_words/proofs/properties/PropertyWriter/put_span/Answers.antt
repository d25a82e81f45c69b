-- `method_words::properties::PropertyWriter::put_span` meets its contract. Assumes nothing.
use Rattle.std.proofs.Common.{rules}
use Rattle.method.specs.Fields.{short_str}
use Rattle.method_words.proofs.PutLaws.{put-absent, put-present, put-span}
use Rattle.method_words.proofs.properties.PropertyWriter.put_span.Goals as goal

pub returns-in-Some-clause-put : goal.returns-in-Some-clause-put
returns-in-Some-clause-put c =
    put-present short_str _ c.in-Some.v c.in-Some.is (put-span c.in-Some.v c.args.self.now c.args.words.now (search rules))

pub returns-in_default-clause-put : goal.returns-in_default-clause-put
returns-in_default-clause-put c =
    put-absent short_str _ _ _ c.in_default.is
