-- Numbers and strings are read back as they were written, cut short they are Truncated, and a reader moves on by what it took.
use mathlib.Core.Path.{◌≡◌, refl, sym, ap, ◌∙◌}
use mathlib.Core.Bool.{true}
use mathlib.Core.List.{List, [], ◌∷◌, ◌++◌}
use Rattle.std.specs.Prelude.{None}
use Prim.Native.Nat.{ℕ, zero, suc, ◌+◌, ◌*◌, ◌^◌, ◌/◌, ◌%◌, ◌≤◌, ◌<◌}
use native.Mathlib.Omega.{arith}
use native.Mathlib.Nat.{pow-suc}
use lib.ListN.{length, take, drop, get_or, length-drop}
use lib.Seq.{drop-cons, take-suc, get_or-drop}
use lib.Dec.{leb}
use Rattle.utf8.specs.Utf8.{utf8}
use Rattle.types.specs.Answer.{given, refused, truncated, short_str_too_long, not_utf8}
use Rattle.types.specs.Octets.{number_at, uint_at, octets}
use Rattle.types.specs.Judgement.{test}
use Rattle.types.specs.Strings.{octets_of, span_at, long_str_at, short_str_at, short_str, long_str, judge_short_str}
use Rattle.types.specs.declared.Span.{Span}
use Rattle.types.proofs.Tests.{leb_yes, leb_no, yes_leb}
use Rattle.types.proofs.NumberLaws.{Octets, length-octets}
use Rattle.types.proofs.Standing.{Stands, Cut, stands-left, stands-right, cut-split}
use Rattle.types.proofs.Chain.{then-go, need-given, given-next, given-value, test-none}

take_last : (k : ℕ) (s : List ℕ) (p : ℕ) → p + k < length s → take (suc k) (drop p s) ≡ take k (drop p s) ++ (get_or s (p + k) 0 ∷ [])
take_last k s p h =
    take-suc (drop p s) k 0 (omega (arith, length-drop p s)) ∙ ap (λ (b : ℕ). take k (drop p s) ++ (b ∷ [])) (get_or-drop p s k 0)

-- the octet that stands at a place
pub stands-octet : {s : List ℕ} {p : ℕ} (x : ℕ) → Stands s p (x ∷ []) → get_or s p 0 ≡ x
stands-octet {s} {p} x h =
    let f : p + 1 ≤ length s = h.fits in
    let e : take 1 (drop p s) ≡ x ∷ [] = h.same in
    let d : drop p s ≡ get_or s p 0 ∷ drop (suc p) s = drop-cons s p 0 (omega arith) in
    let g : get_or s p 0 ∷ [] ≡ x ∷ [] = rw d at e in
    cc

pub number-value : {s : List ℕ} {p : ℕ} (k n : ℕ) → n < 256 ^ k → Stands s p (octets k n) → number_at k s p ≡ n
unfolding number_at
number-value zero n f h = omega arith
number-value {s} {p} (suc k) n f h =
    let a : Stands s p (octets k (n / 256)) = stands-left (octets k (n / 256)) (n % 256 ∷ []) h in
    let b : Stands s (p + k) (n % 256 ∷ []) = rw (length-octets k (n / 256)) at (stands-right (octets k (n / 256)) (n % 256 ∷ []) h) in
    let g : n < 256 ^ k * 256 = rw (pow-suc 256 k) at f in
    let l : n / 256 < 256 ^ k = omega arith in
    rw (number-value k (n / 256) l a, stands-octet (n % 256) b) (omega arith)

-- and the octets of the number are the octets that stood there: the two are inverse to each other
pub number-octets : (k : ℕ) (s : List ℕ) (p : ℕ) → Octets s → p + k ≤ length s → octets k (number_at k s p) ≡ take k (drop p s)
unfolding number_at
number-octets zero s p o h = refl
number-octets (suc k) s p o h =
    let n = number_at k s p in
    let b = get_or s (p + k) 0 in
    let q : (n * 256 + b) / 256 ≡ n = omega (arith, o (p + k)) in
    let r : (n * 256 + b) % 256 ≡ b = omega (arith, o (p + k)) in
    rw (q, r, number-octets k s p o (omega arith)) (sym (take_last k s p (omega arith)))

pub number-here : {s : List ℕ} {p : ℕ} (k n : ℕ) → n < 256 ^ k → Stands s p (octets k n) → uint_at k s p ≡ given n (p + k)
unfolding uint_at
number-here {s} {p} k n f h =
    let l = length-octets k n in
    rw (leb_yes (p + k) (length s) (omega (arith, h.fits)), number-value k n f h)

pub number_past : (k : ℕ) (s : List ℕ) (p : ℕ) → length s < p + k → uint_at k s p ≡ refused truncated
unfolding uint_at
number_past k s p h = rw (leb_no (p + k) (length s) h)

pub span-here : (n : ℕ) (s : List ℕ) (p : ℕ) → p + n ≤ length s → span_at n s p ≡ given (record { start = p; len = n }) (p + n)
unfolding span_at
span-here n s p h = rw (leb_yes (p + n) (length s) h)

pub span-past : (n : ℕ) (s : List ℕ) (p : ℕ) → length s < p + n → span_at n s p ≡ refused truncated
unfolding span_at
span-past n s p h = rw (leb_no (p + n) (length s) h)

-- short strings
pub record FitShort (xs : List ℕ) : Type 0 where
  pub short : length xs < 256
  pub text : utf8 xs ≡ true

pub short-fit : (xs : List ℕ) → judge_short_str xs ≡ None → FitShort xs
short-fit xs e =
    let a = test-none (leb (length xs) 255) short_str_too_long (test (utf8 xs) not_utf8 None) e in
    record { short = omega (arith, yes_leb (length xs) 255 a.0); text = (test-none (utf8 xs) not_utf8 None a.1).0 }

abbrev pub place_short : ℕ → List ℕ → Span
place_short p xs = record { start = p + 1; len = length xs }

pub short-here : {s : List ℕ} {p : ℕ} (v : List ℕ) → FitShort v → Stands s p (short_str v) → short_str_at s p ≡ given (place_short p v) (p + length (short_str v))
unfolding short_str_at
short-here {s} {p} v f h =
    let a : Stands s p (octets 1 (length v)) = stands-left (octets 1 (length v)) v h in
    let b : Stands s (p + 1) v = stands-right (octets 1 (length v)) v h in
    rw (number-here 1 (length v) f.short a, span-here (length v) s (p + 1) b.fits, b.same, f.text) (ap (given (place_short p v)) (omega arith))

pub short_cut : {s : List ℕ} {p : ℕ} (v : List ℕ) → FitShort v → Cut s p (short_str v) → short_str_at s p ≡ refused truncated
unfolding short_str_at
short_cut {s} {p} v f c =
    cut-split (octets 1 (length v)) v c
    (λ a. rw (number_past 1 s p (omega (arith, a.less))))
    (λ a b. rw (number-here 1 (length v) f.short a, span-past (length v) s (p + 1) (omega (arith, b.less))))

pub short-seen : {s : List ℕ} {p : ℕ} (v : List ℕ) → Stands s p (short_str v) → octets_of s (place_short p v) ≡ v
short-seen v h = (stands-right (octets 1 (length v)) v h).same

-- long strings
abbrev pub place_long : ℕ → List ℕ → Span
place_long p xs = record { start = p + 4; len = length xs }

pub long-here : {s : List ℕ} {p : ℕ} (v : List ℕ) → length v < 256 ^ 4 → Stands s p (long_str v) → long_str_at s p ≡ given (place_long p v) (p + length (long_str v))
unfolding long_str_at
long-here {s} {p} v f h =
    let a : Stands s p (octets 4 (length v)) = stands-left (octets 4 (length v)) v h in
    let b : Stands s (p + 4) v = stands-right (octets 4 (length v)) v h in
    rw (number-here 4 (length v) f a, span-here (length v) s (p + 4) b.fits) (ap (given (place_long p v)) (omega arith))

pub long-cut : {s : List ℕ} {p : ℕ} (v : List ℕ) → length v < 256 ^ 4 → Cut s p (long_str v) → long_str_at s p ≡ refused truncated
unfolding long_str_at
long-cut {s} {p} v f c =
    cut-split (octets 4 (length v)) v c
    (λ a. rw (number_past 4 s p (omega (arith, a.less))))
    (λ a b. rw (number-here 4 (length v) f a, span-past (length v) s (p + 4) (omega (arith, b.less))))

-- where a reader that gives an answer ends
pub number-move : (k : ℕ) (s : List ℕ) (p n q : ℕ) → uint_at k s p ≡ given n q → (q ≡ p + k) × (q ≤ length s)
unfolding uint_at
number-move k s p n q e =
    let a = need-given (leb (p + k) (length s)) truncated (given (number_at k s p) (p + k)) n q e in
    let m = given-next (number_at k s p) n (p + k) q a.1 in
    (omega arith, omega (arith, yes_leb (p + k) (length s) a.0))

pub span-move : (n : ℕ) (s : List ℕ) (p : ℕ) (v : Span) (q : ℕ) → span_at n s p ≡ given v q → (q ≡ p + n) × (q ≤ length s) × (v ≡ record { start = p; len = n })
unfolding span_at
span-move n s p v q e =
    let a = need-given (leb (p + n) (length s)) truncated (given (record { start = p; len = n }) (p + n)) v q e in
    let m = given-next (record { start = p; len = n }) v (p + n) q a.1 in
    (omega arith, omega (arith, yes_leb (p + n) (length s) a.0), sym (given-value (record { start = p; len = n }) v (p + n) q a.1))

pub long-move : (s : List ℕ) (p : ℕ) (v : Span) (q : ℕ) → long_str_at s p ≡ given v q → (p + 4 ≤ q) × (q ≤ length s)
unfolding long_str_at
long-move s p v q e =
    then-go (uint_at 4 s p) _ v q e
    (λ n r e1 h1.
    let a = number-move 4 s p n r e1 in
    let b = span-move n s r v q h1 in
    (omega (arith, a.0, b.0), b.1))

pub short-move : (s : List ℕ) (p : ℕ) (v : Span) (q : ℕ) → short_str_at s p ≡ given v q → (p + 1 ≤ q) × (q ≤ length s)
unfolding short_str_at
short-move s p v q e =
    then-go (uint_at 1 s p) _ v q e
    (λ n r e1 h1.
    then-go (span_at n s r) _ v q h1
    (λ w t e2 h2.
    let a = number-move 1 s p n r e1 in
    let b = span-move n s r w t e2 in
    let m = given-next w v t q (need-given (utf8 (octets_of s w)) not_utf8 (given w t) v q h2).1 in
    (omega (arith, a.0, b.0), omega (arith, b.1))))

-- a long string's octets stand behind its length
pub long-start : (s : List ℕ) (p : ℕ) (v : Span) (q : ℕ) → long_str_at s p ≡ given v q → (v.start ≡ p + 4) × (q ≡ v.start + v.len) × (q ≤ length s)
unfolding long_str_at
long-start s p v q e =
    then-go (uint_at 4 s p) _ v q e
    (λ n r e1 h1.
    let a = number-move 4 s p n r e1 in
    let b = span-move n s r v q h1 in
    rw b.2 (a.0, b.0, b.1))
