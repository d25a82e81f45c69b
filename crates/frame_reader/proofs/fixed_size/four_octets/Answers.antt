-- `frame_reader::fixed_size::four_octets` meets its contract. Assumes nothing.
use mathlib.Core.Path.{◌≡◌, ap}
use Prim.Native.Nat.{ℕ, ◌+◌}
use native.Mathlib.Omega.{arith}
use lib.ListN.{get_or}
use Rattle.types.specs.Octets.{number_at}
use Rattle.frame_reader.proofs.fixed_size.four_octets.Goals as goal

pub returns : goal.returns
unfolding number_at
returns c =
    let s = c.args.s.now in
    let first : get_or s (c.args.at + 0) 0 ≡ get_or s c.args.at 0 = ap (λ (i : ℕ). get_or s i 0) (omega arith) in
    omega (arith, c.from_be_bytes.ensures, first)
