use Rattle.std.proofs.Common.{rules}
use Rattle.cases.proofs.lent.kept_words.Goals as goal

pub returns : goal.returns
returns c h k below after = let p = c.kept_by.ensures h k 0 below after in search (rules, p)
