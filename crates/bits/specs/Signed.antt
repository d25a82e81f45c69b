-- Signed numbers in two's complement: document 01, "types.rs: octets and strings".
use Rattle.std.specs.Prelude.{ℕ, suc, ◌-◌, ◌^◌, cond, ltb, ℤ, pos, negsuc}

-- a signed number's two's complement in k bits, and the signed number of one
abbrev pub twos : ℕ → ℤ → ℕ
twos k (pos n) = n
twos k (negsuc n) = 2 ^ k - suc n

abbrev pub signed : ℕ → ℕ → ℤ
signed k n = cond (ltb n (2 ^ (k - 1))) (pos n) (negsuc (2 ^ k - suc n))
