-- `types::FloatOrNan<f32, u32>::from_bits` meets its contract. Assumes nothing.
use mathlib.Core.Path.{sym}
use lib.Ieee.{binary32}
use Rattle.types.proofs.FloatLaws.{above-is-nan, below-is-float, below-is-no-nan}
use Rattle.types.proofs.floats.FloatOrNan+f32+u32.from_bits.Goals as goal

pub float_from_bits-result : goal.float_from_bits-result
float_from_bits-result c =
    below-is-no-nan binary32 _ c.if-n-gt2139095040.false

pub returns-then-n-gt2139095040 : goal.returns-then-n-gt2139095040
returns-then-n-gt2139095040 c =
    sym (above-is-nan binary32 _ c.if-n-gt2139095040.true)

pub returns-else-n-gt2139095040 : goal.returns-else-n-gt2139095040
returns-else-n-gt2139095040 c =
    sym (below-is-float binary32 _ c.if-n-gt2139095040.false)
