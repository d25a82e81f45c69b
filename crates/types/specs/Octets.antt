-- Numbers of k octets, the most significant first: 0-9-1, 4.2.5.1.
use Rattle.std.specs.Prelude.{ℕ, zero, suc, ◌+◌, ◌*◌, ◌/◌, ◌%◌, List, [], ◌∷◌, ◌++◌, length, get_or, leb}
use Rattle.types.specs.Answer.{Answer, given, truncated, need}
use Rattle.types.specs.declared.Number.{Number}
use Rattle.types.specs.declared.Number.TheVariants.{U8, U16, U32, U64}

-- how many octets a number has
abbrev pub number_width : Number → ℕ
number_width U8 = 1
number_width U16 = 2
number_width U32 = 4
number_width U64 = 8

-- the number whose octets stand at at, at + 1, .., at + k - 1
unfoldable pub number_at : ℕ → List ℕ → ℕ → ℕ
number_at zero s at = 0
number_at (suc k) s at = number_at k s at * 256 + get_or s (at + k) 0

-- the number of k octets at a position, and the position past it; Truncated where fewer are left
unfoldable pub uint_at : ℕ → List ℕ → ℕ → Answer ℕ
uint_at k s at = need (leb (at + k) (length s)) truncated (given (number_at k s at) (at + k))

-- the k octets of a number
abbrev pub octets : ℕ → ℕ → List ℕ
octets zero n = []
octets (suc k) n = octets k (n / 256) ++ (n % 256 ∷ [])
