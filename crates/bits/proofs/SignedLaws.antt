-- Signed numbers and their two's complement, over the width w.
use mathlib.Core.Path.{◌≡◌, refl, sym, ap, ◌∙◌}
use mathlib.Core.Bool.{Bool, true, false, cond}
use Prim.Native.Nat.{ℕ, suc, ◌-◌, ◌^◌, ◌≤◌, ◌<◌}
use native.Mathlib.Omega.{arith}
use borrow.Author.Tests.{le-ltb, lt-ltb}
use lib.Dec.{ltb}
use lib.IntN.{ℤ, pos, negsuc}
use lib.Signed.{mag}
use mir.Syntax.{Width, w8, w16, w32, w64, w128}
use mir.Val.{bits, hbits, of_z, to_z}
use mir.ValLaws.{of_z-to_z, pow-bits}
use Rattle.bits.specs.Signed.{twos, signed}

-- The library's conversions are these

pub twos_is : (w : Width) (z : ℤ) → of_z w z ≡ twos (bits w) z
twos_is w (pos n) = refl
twos_is w (negsuc n) = refl

pub twos-cast : (w : Width) (n : ℕ) → n < 2 ^ bits w → twos (bits w) (to_z w n) ≡ n
twos-cast w n h = sym (twos_is w (to_z w n)) ∙ of_z-to_z w n (record { fits = h })

-- A number in range is the signed number of its two's complement, and the other way round

half : (w : Width) → 2 ^ (bits w - 1) ≡ 2 ^ hbits w
half w8 = refl
half w16 = refl
half w32 = refl
half w64 = refl
half w128 = refl

pub twos-lt : (w : Width) (z : ℤ) → mag z < 2 ^ hbits w → twos (bits w) z < 2 ^ bits w
twos-lt w (pos a) f = omega (arith, pow-bits w)
twos-lt w (negsuc m) f = omega (arith, pow-bits w)

pub signed-twos : (w : Width) (z : ℤ) → mag z < 2 ^ hbits w → signed (bits w) (twos (bits w) z) ≡ z
signed-twos w (pos a) f = rw (half w, lt-ltb a (2 ^ hbits w) f)
signed-twos w (negsuc m) f =
    let big : 2 ^ hbits w ≤ 2 ^ bits w - suc m = omega (arith, pow-bits w) in
    let again : 2 ^ bits w - suc (2 ^ bits w - suc m) ≡ m = omega (arith, pow-bits w) in
    rw (half w, le-ltb (2 ^ bits w - suc m) (2 ^ hbits w) big) (ap negsuc again)

pub twos-signed : (w : Width) (n : ℕ) → n < 2 ^ bits w → twos (bits w) (signed (bits w) n) ≡ n
twos-signed w n f = go (ltb n (2 ^ (bits w - 1))) refl
  where
    go : (b : Bool) → ltb n (2 ^ (bits w - 1)) ≡ b → twos (bits w) (cond b (pos n) (negsuc (2 ^ bits w - suc n))) ≡ n
    go true e = refl
    go false e = omega arith

-- what the library makes of a number that was read, kept in a local
pub cast_is : (w : Width) {z : ℤ} (n : ℕ) → n < 2 ^ bits w → z ≡ to_z w n → twos (bits w) (to_z w (of_z w z)) ≡ n
cast_is w {z} n h e = ap (twos (bits w)) (ap (λ (y : ℤ). to_z w (of_z w y)) e ∙ ap (to_z w) (of_z-to_z w n (record { fits = h }))) ∙ twos-cast w n h
