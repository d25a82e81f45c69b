-- `types::FloatOrNan<f64, u64>::from_bits` meets its contract. Assumes nothing.
use mathlib.Core.Path.{sym}
use lib.Ieee.{binary64}
use Rattle.types.proofs.FloatLaws.{above-is-nan, below-is-float, below-is-no-nan}
use Rattle.types.proofs.floats.FloatOrNan+f64+u64.from_bits.Goals as goal

pub float_from_bits-result : goal.float_from_bits-result
float_from_bits-result c =
    below-is-no-nan binary64 _ c.if-n-gt9218868437227405312.false

pub returns-then-n-gt9218868437227405312 : goal.returns-then-n-gt9218868437227405312
returns-then-n-gt9218868437227405312 c =
    sym (above-is-nan binary64 _ c.if-n-gt9218868437227405312.true)

pub returns-else-n-gt9218868437227405312 : goal.returns-else-n-gt9218868437227405312
returns-else-n-gt9218868437227405312 c =
    sym (below-is-float binary64 _ c.if-n-gt9218868437227405312.false)
