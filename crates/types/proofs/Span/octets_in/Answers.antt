-- `types::Span::octets_in` meets its contract. Assumes nothing.
use native.Mathlib.Omega.{arith}
use Rattle.types.proofs.StringLaws.{octets_in-part}
use Rattle.types.proofs.Span.octets_in.Goals as goal

pub returns : goal.returns
returns c =
    let g = c.in_ok-get.ensures.lookup in
    octets_in-part _ _ _ (omega (arith, g)) g.0.2 c.get-2.ensures.lookup
