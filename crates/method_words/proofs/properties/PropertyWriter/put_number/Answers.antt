-- `method_words::properties::PropertyWriter::put_number` meets its contract. Assumes nothing.
use Rattle.std.proofs.Common.{rules}
use Rattle.method.specs.Fields.{number}
use Rattle.method_words.proofs.PutLaws.{put-absent, put-present, put-number}
use Rattle.method_words.proofs.properties.PropertyWriter.put_number.Goals as goal

pub returns-in-Some-clause-put : goal.returns-in-Some-clause-put
returns-in-Some-clause-put c =
    put-present (number 8) _ c.in-Some.n c.in-Some.is (put-number c.in-Some.n c.args.self.now c.args.words.now (search rules))

pub returns-in_default-clause-put : goal.returns-in_default-clause-put
returns-in_default-clause-put c =
    put-absent (number 8) _ _ _ c.in_default.is
