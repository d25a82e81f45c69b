-- `writers::put_ends` meets its contract. Assumes nothing.
use native.Mathlib.Omega.{arith}
use Rattle.writers.proofs.WriterLaws.{parts-ends}
use Rattle.writers.proofs.put_ends.Goals as goal

pub returns : goal.returns
returns c =
    let a = c.args in
    parts-ends a.out.now a.at a.s.now (omega arith) a.k (omega arith) (omega arith) c.put_part.ensures c.put_part-2.ensures
