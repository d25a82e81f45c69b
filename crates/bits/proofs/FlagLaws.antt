-- Laws of `pack_bits`.
use mathlib.Core.Bool.{Bool, true, false}
use mathlib.Core.List.{List, [], ◌∷◌}
use Prim.Native.Nat.{ℕ, zero, suc, ◌^◌, ◌≤◌, ◌<◌}
use native.Mathlib.Nat.{pow-suc}
use native.Mathlib.Omega.{arith}
use lib.ListN.{length}
use lib.Pow.{pow_pos}
use Rattle.bits.specs.Flags.{bit, pack_bits}

pub bit-small : (b : Bool) → bit b ≤ 1
bit-small true = omega arith
bit-small false = omega arith

pub pack-small : (k : ℕ) (bs : List Bool) → length bs ≤ k → pack_bits bs < 2 ^ k
pack-small k [] h = pow_pos k
pack-small zero (b ∷ bs) h = absurd (omega arith)
pack-small (suc k) (b ∷ bs) h = omega (arith, pow-suc 2 k, bit-small b, pack-small k bs (omega arith))
