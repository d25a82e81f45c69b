-- Laws of `number_at` and `uint_at`, over the width k.
use mathlib.Core.Path.{◌≡◌, refl, ap, ◌∙◌, subst⁻¹}
use mathlib.Core.List.{List, [], ◌∷◌}
use mathlib.Core.Bool.{Bool, true, false, cond}
use Prim.Native.Nat.{ℕ, zero, suc, ◌+◌, ◌*◌, ◌/◌, ◌%◌, ◌^◌, ◌≤◌, ◌<◌}
use native.Mathlib.Nat.{pow-suc}
use native.Mathlib.Omega.{arith}
use borrow.Author.Tests.{leb-true, leb-false, le-leb}
use lib.Arith.{digits_lt}
use lib.Dec.{lit<, leb}
use lib.ListN.{length, take, drop, get_or, length-append}
use lib.Seq.{get_or-take, get_or-drop}
use mir.Syntax.{w16, w32, w64}
use Rattle.std.specs.Int.{from_be_bytes}
use Rattle.types.specs.Answer.{Refusal, given, refused, truncated}
use Rattle.types.specs.Octets.{number_at, uint_at, octets}

-- every element is an octet
abbrev pub Octets : List ℕ → Type 0
Octets s = (i : ℕ) → get_or s i 0 < 256

pub length-octets : (k n : ℕ) → length (octets k n) ≡ k
length-octets zero n = refl
length-octets (suc k) n = length-append (octets k (n / 256)) (n % 256 ∷ []) ∙ (rw (length-octets k (n / 256)) (omega arith))

-- a number of k octets is below 256 ^ k
pub number_at-lt : (s : List ℕ) → Octets s → (k at : ℕ) → number_at k s at < 256 ^ k
unfolding number_at
number_at-lt s o zero at = lit< tt
number_at-lt s o (suc k) at = rw (pow-suc 256 k) (digits_lt (number_at-lt s o k at) (o (at + k)))

-- eight octets are two numbers of four
pub number_at-halves : (s : List ℕ) (at : ℕ) {h l : ℕ} → h ≡ number_at 4 s at → l ≡ number_at 4 s (at + 4) → h * 4294967296 + l ≡ number_at 8 s at
unfolding number_at
number_at-halves s at {h} {l} p q =
    let same : (i : ℕ) → get_or s (at + 4 + i) 0 ≡ get_or s (at + (4 + i)) 0 = λ i. ap (λ (j : ℕ). get_or s j 0) (omega arith) in
    omega (arith, same 0, same 1, same 2, same 3)

-- the octets are there, and the answer is their number
pub uint_at-given : (k : ℕ) (s : List ℕ) (at : ℕ) → at + k ≤ length s → uint_at k s at ≡ given (number_at k s at) (at + k)
unfolding uint_at
uint_at-given k s at h = rw (le-leb _ _ h)

-- what an answer that gives a number says: where the octets are, and which number it is
pub record Read (k : ℕ) (s : List ℕ) (at n next : ℕ) : Type 0 where
  pub within : at + k ≤ length s
  pub number : n ≡ number_at k s at
  pub past : next ≡ at + k

pub uint_at-read : (k : ℕ) (s : List ℕ) (at : ℕ) {n next : ℕ} → given n next ≡ uint_at k s at → Read k s at n next
unfolding uint_at
uint_at-read k s at {n} {next} e = go (leb (at + k) (length s)) refl e
  where
    go : (b : Bool) → leb (at + k) (length s) ≡ b → given n next ≡ cond b (given (number_at k s at) (at + k)) (refused truncated) → Read k s at n next
    go true t q = record { within = leb-true _ _ t; number = cc; past = cc }
    go false t q = let z : ◌≡◌ {A = ℕ} 0 1 = cc in absurd (omega arith)

-- and so is what is read
pub uint_at-lt : (k : ℕ) (s : List ℕ) (at : ℕ) {n next : ℕ} → Octets s → given n next ≡ uint_at k s at → n < 256 ^ k
uint_at-lt k s at {n} {next} o e =
    subst⁻¹ (λ (m : ℕ). m < 256 ^ k) (uint_at-read k s at e).number (number_at-lt s o k at)

-- what a refusal says: fewer octets are left
pub uint_at-short : (k : ℕ) (s : List ℕ) (at : ℕ) {r : Refusal} → refused r ≡ uint_at k s at → length s < at + k
unfolding uint_at
uint_at-short k s at {r} e = go (leb (at + k) (length s)) refl e
  where
    go : (b : Bool) → leb (at + k) (length s) ≡ b → refused r ≡ cond b (given (number_at k s at) (at + k)) (refused truncated) → length s < at + k
    go true t q = let z : ◌≡◌ {A = ℕ} 0 1 = cc in absurd (omega arith)
    go false t q = leb-false _ _ t

-- octets taken at a place, and their number by the library's word
taken : (s : List ℕ) (at k i : ℕ) → i < k → get_or (take k (drop at s)) i 0 ≡ get_or s (at + i) 0
taken s at k i h = get_or-take k (drop at s) i 0 h ∙ get_or-drop at s i 0

pub number_2 : (s : List ℕ) (at : ℕ) → from_be_bytes w16 (take 2 (drop at s)) ≡ number_at 2 s at
unfolding number_at
number_2 s at = omega (arith, taken s at 2 0 (omega arith), taken s at 2 1 (omega arith))

pub number_4 : (s : List ℕ) (at : ℕ) → from_be_bytes w32 (take 4 (drop at s)) ≡ number_at 4 s at
unfolding number_at
number_4 s at = omega (arith, taken s at 4 0 (omega arith), taken s at 4 1 (omega arith), taken s at 4 2 (omega arith), taken s at 4 3 (omega arith))

pub number_8 : (s : List ℕ) (at : ℕ) → from_be_bytes w64 (take 8 (drop at s)) ≡ number_at 8 s at
unfolding number_at
number_8 s at =
    omega (
      arith,
      taken s at 8 0 (omega arith),
      taken s at 8 1 (omega arith),
      taken s at 8 2 (omega arith),
      taken s at 8 3 (omega arith),
      taken s at 8 4 (omega arith),
      taken s at 8 5 (omega arith),
      taken s at 8 6 (omega arith),
      taken s at 8 7 (omega arith),
    )
