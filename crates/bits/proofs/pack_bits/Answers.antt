-- `bits::pack_bits` meets its contract. Assumes nothing.
use mathlib.Core.Path.{◌≡◌, ap, ◌∙◌}
use mathlib.Core.Bool.{Bool, true, false}
use mathlib.Core.List.{[], ◌∷◌}
use Prim.Native.Nat.{◌+◌, ◌≤◌, ◌<◌, ◌^◌}
use native.Mathlib.Omega.{arith}
use lib.ListN.{length, length-append}
use mir.Val.{bool_byte}
use Rattle.std.specs.Iterator.Adapters.{rev_source}
use Rattle.bits.proofs.FlagLaws.{pack-small}
use Rattle.bits.proofs.pack_bits.Goals as goal
use Rattle.bits.proofs.pack_bits.Goals.{In-Some}

flag-small : (b : Bool) → bool_byte b ≤ 1
flag-small true = omega arith
flag-small false = omega arith

-- at most seven flags are packed
seven : (c : In-Some) → c.loop-flag.n < 2 ^ 7
seven c =
    let l = c.loop-flag.invariant in
    let left = (rev_source c.loop-flag.flag-iterator).rest.now in
    let rest = (rev_source c.next.new.self).rest.now in
    let one : length left ≡ length rest + 1 = ap length c.in-Some.ensures.steps ∙ length-append rest (c.in-Some.flag.now ∷ []) in
    omega (arith, l.2, pack-small 7 l.0 (omega (arith, one, ap length l.1, length-append left l.0, c.well_formed.0)))

pub overflow_mul-n : goal.overflow_mul-n
overflow_mul-n c =
    record { fits = omega (arith, seven c) }

pub overflow_add-n : goal.overflow_add-n
overflow_add-n c =
    record { fits = omega (arith, seven c, flag-small c.in-Some.flag.now) }
