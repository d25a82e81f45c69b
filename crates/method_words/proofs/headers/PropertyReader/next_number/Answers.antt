-- `method_words::headers::PropertyReader::next_number` meets its contract. Assumes nothing.
use Rattle.std.proofs.Common.{rules}
use Rattle.method_words.proofs.headers.PropertyReader.next_number.Goals as goal

pub returns-clause-fits : goal.returns-clause-fits
returns-clause-fits c = let h = c.well_formed in rw c.next_flag.ensures.rest (search rules)
