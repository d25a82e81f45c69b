-- What a writer puts, and the three ways out of it: refused, no space, written.
use mathlib.Core.Path.{◌≡◌, refl, sym, ap, ◌∙◌}
use mathlib.Core.Bool.{true, false}
use mathlib.Core.List.{List, [], ◌++◌, append_assoc}
use Rattle.std.specs.Prelude.{Option, None, Some}
use Prim.Native.Nat.{ℕ, ◌+◌, ◌-◌, ◌/◌, ◌%◌, ◌≤◌, ◌<◌}
use native.Mathlib.Omega.{arith}
use lib.ListN.{length, take, drop, length-append, length-drop}
use lib.Seq.{paste, take-length, take_all, length-take-le, take-add, take_at, drop_at, drop-drop}
use borrow.Rule.Slice.PartMut.{put_mid}
use mir.Syntax.{w16, w32, w64}
use Rattle.std.specs.Int.{to_be_bytes}
use Rattle.std.proofs.lemmas.Slice.{put_mid-paste}
use Rattle.utf8.specs.Utf8.{utf8}
use Rattle.types.specs.Answer.{Refusal, given, refused, short_str_too_long, not_utf8, no_space}
use Rattle.types.specs.Octets.{octets}
use Rattle.types.specs.Strings.{short_str, judge_short_str}
use Rattle.types.specs.Memory.{splice, Outcome, outcome}
use Rattle.writers.specs.Writers.{write_at, write_short_str}
use Rattle.types.proofs.Tests.{leb_yes, leb_no}
use Rattle.types.proofs.Splice.{splice-nil, splice-length, splice-after}
use Rattle.types.proofs.NumberLaws.{length-octets}

-- the octets of a number, by the library's word
pub octets_2 : (n : ℕ) → to_be_bytes w16 (n % 65536) ≡ octets 2 n
octets_2 n =
    let a : n % 65536 / 256 % 256 ≡ n / 256 % 256 = omega arith in
    let b : n % 65536 % 256 ≡ n % 256 = omega arith in
    rw (a, b) refl

pub octets_4 : (n : ℕ) → to_be_bytes w32 (n % 4294967296) ≡ octets 4 n
octets_4 n =
    let a : n % 4294967296 / 16777216 % 256 ≡ n / 256 / 256 / 256 % 256 = omega arith in
    let b : n % 4294967296 / 65536 % 256 ≡ n / 256 / 256 % 256 = omega arith in
    let d : n % 4294967296 / 256 % 256 ≡ n / 256 % 256 = omega arith in
    let e : n % 4294967296 % 256 ≡ n % 256 = omega arith in
    rw (a, b, d, e) refl

pub octets_8 : (n : ℕ) → to_be_bytes w64 n ≡ octets 8 n
octets_8 n =
    let a : n / 72057594037927936 % 256 ≡ n / 256 / 256 / 256 / 256 / 256 / 256 / 256 % 256 = omega arith in
    let b : n / 281474976710656 % 256 ≡ n / 256 / 256 / 256 / 256 / 256 / 256 % 256 = omega arith in
    let d : n / 1099511627776 % 256 ≡ n / 256 / 256 / 256 / 256 / 256 % 256 = omega arith in
    let e : n / 4294967296 % 256 ≡ n / 256 / 256 / 256 / 256 % 256 = omega arith in
    let f : n / 16777216 % 256 ≡ n / 256 / 256 / 256 % 256 = omega arith in
    let g : n / 65536 % 256 ≡ n / 256 / 256 % 256 = omega arith in
    rw (a, b, d, e, f, g) refl

-- octets put one behind another are one piece
pub paste_all : (out : List ℕ) (at : ℕ) (s : List ℕ) (i : ℕ) → i ≡ length s → paste out at s i ≡ splice at s out
unfolding splice
paste_all out at s i e = rw (e, take-length)

-- octets copied into a place are put there
pub part_copied : (out : List ℕ) (at k : ℕ) {ys : List ℕ} (s : List ℕ) → ys ≡ s → length s ≡ k → put_mid at k out ys ≡ splice at s out
part_copied out at k {ys} s e n = put_mid-paste at k out ys s (length s) e n refl ∙ paste_all out at s (length s) refl

-- octets by way of a part
pub part-all : (out part s : List ℕ) (to start k : ℕ) → start + k ≤ length s → take k part ≡ take k (drop start s)
    → paste out to part k ≡ splice to (take k (drop start s)) out
unfolding splice
part-all out part s to start k h e = rw (e, length-take-le k (drop start s) (omega (arith, length-drop start s)))

-- a piece over one that is no longer
splice-over : (at : ℕ) (xs ys l : List ℕ) → at + length xs ≤ length l → length xs ≤ length ys → splice at ys (splice at xs l) ≡ splice at ys l
unfolding splice
splice-over at xs ys l h k =
    let rest : List ℕ = drop (at + length xs) l in
    let front : length (take at l) ≡ at = length-take-le at l (omega arith) in
    let head : length (take at l ++ xs) ≡ at + length xs = length-append (take at l) xs ∙ ap (λ (n : ℕ). n + length xs) front in
    let more : at + length ys ≡ at + length xs + (length ys - length xs) = omega arith in
    ap (λ (r : List ℕ). r ++ ys ++ drop (at + length ys) (take at l ++ xs ++ rest))
    (ap (take at) (append_assoc (take at l) xs rest) ∙ take_at (take at l) (xs ++ rest) at front)
    ∙ ap (λ (r : List ℕ). take at l ++ ys ++ r)
    (ap (λ (n : ℕ). drop n (take at l ++ xs ++ rest)) more
    ∙ sym (drop-drop (length ys - length xs) (at + length xs) (take at l ++ xs ++ rest))
    ∙ ap (drop (length ys - length xs)) (drop_at (take at l ++ xs) rest (at + length xs) head)
    ∙ drop-drop (length ys - length xs) (at + length xs) l
    ∙ ap (λ (n : ℕ). drop n l) (sym more))

-- octets put in parts, one behind another, are one piece
module _ (out : List ℕ) (at : ℕ) (s : List ℕ) (fits : at + length s ≤ length out) where
  pub parts_none : out ≡ splice at (take 0 s) out
  parts_none = sym (splice-nil at out)

  parts_join : (i k : ℕ) → i + k ≤ length s → splice (at + i) (take k (drop i s)) (splice at (take i s) out) ≡ splice at (take (i + k) s) out
  parts_join i k h =
      let n : length (take i s) ≡ i = length-take-le i s (omega arith) in
      ap (λ (m : ℕ). splice (at + m) (take k (drop i s)) (splice at (take i s) out)) (sym n)
      ∙ splice-after at (take i s) (take k (drop i s)) out (omega arith)
      ∙ ap (λ (r : List ℕ). splice at r out) (sym (take-add i k s))

  -- the next k octets
  pub parts_next : {l o : List ℕ} (i k : ℕ) → i + k ≤ length s → l ≡ splice at (take i s) out → o ≡ splice (at + i) (take k (drop i s)) l → o ≡ splice at (take (i + k) s) out
  parts_next i k h e f = f ∙ ap (splice (at + i) (take k (drop i s))) e ∙ parts_join i k h

  pub parts_all : {l : List ℕ} (i : ℕ) → length s ≤ i → l ≡ splice at (take i s) out → l ≡ splice at s out
  parts_all i h e = e ∙ ap (λ (r : List ℕ). splice at r out) (take_all i s h)

  -- the first k octets, and the last k over them
  pub parts-ends : {l o : List ℕ} (k : ℕ) → k ≤ length s → length s ≤ k + k → l ≡ splice at (take k s) out → o ≡ splice (at + (length s - k)) (take k (drop (length s - k) s)) l → o ≡ splice at s out
  parts-ends k u h e f =
      let m : ℕ = length s - k in
      let own : m + (k - m) ≡ k = omega arith in
      let xs : List ℕ = take (k - m) (drop m s) in
      let ys : List ℕ = take k (drop m s) in
      let a : length xs ≡ k - m = length-take-le (k - m) (drop m s) (omega (arith, length-drop m s)) in
      let b : length ys ≡ k = length-take-le k (drop m s) (omega (arith, length-drop m s)) in
      let t : length (take m s) ≡ m = length-take-le m s (omega arith) in
      let n : length (splice at (take m s) out) ≡ length out = splice-length at (take m s) [] out (omega arith) in
      parts_all (m + k) (omega arith)
      (f ∙ ap (splice (at + m) ys) e
      ∙ ap (λ (j : ℕ). splice (at + m) ys (splice at (take j s) out)) (sym own)
      ∙ ap (splice (at + m) ys) (sym (parts_join m (k - m) (omega arith)))
      ∙ splice-over (at + m) xs ys (splice at (take m s) out) (omega arith) (omega arith)
      ∙ parts_join m k (omega arith))

module _ (xs : List ℕ) (at : ℕ) (out : List ℕ) where
  pub write-refused : (r : Refusal) → write_at (Some r) xs at out ≡ outcome (refused r) out
  unfolding write_at
  write-refused r = refl

  pub write-full : length out < at + length xs → write_at None xs at out ≡ outcome (refused no_space) out
  unfolding write_at
  write-full h = rw (leb_no (at + length xs) (length out) h)

  pub write-given : at + length xs ≤ length out → write_at None xs at out ≡ outcome (given tt (at + length xs)) (splice at xs out)
  unfolding write_at
  write-given h = rw (leb_yes (at + length xs) (length out) h)

-- octets behind their number
module _ (k : ℕ) (s : List ℕ) (at : ℕ) (out : List ℕ) where
  counted-length : length (octets k (length s) ++ s) ≡ k + length s
  counted-length = length-append (octets k (length s)) s ∙ ap (λ (m : ℕ). m + length s) (length-octets k (length s))

  pub counted-given : {l m : List ℕ} → at + k + length s ≤ length out → l ≡ splice at (octets k (length s)) out → m ≡ splice (at + k) s l
      → outcome (given tt (at + k + length s)) m ≡ write_at None (octets k (length s) ++ s) at out
  counted-given h e f =
      let n = length-octets k (length s) in
      let p : at + k + length s ≡ at + length (octets k (length s) ++ s) = omega (arith, counted-length) in
      let q : at + k ≡ at + length (octets k (length s)) = omega arith in
      let g = splice-after at (octets k (length s)) s out (omega arith) in
      cc (p, q, e, f, g, write-given (octets k (length s) ++ s) at out (omega (arith, counted-length)))

-- what is judged of a short string
module _ (s : List ℕ) where
  pub short-too-long : 255 < length s → Some short_str_too_long ≡ judge_short_str s
  short-too-long h = rw (leb_no (length s) 255 h) refl

  pub short-not-utf8 : length s ≤ 255 → utf8 s ≡ false → Some not_utf8 ≡ judge_short_str s
  short-not-utf8 h u = rw (leb_yes (length s) 255 h, u) refl

  pub short-good : length s ≤ 255 → utf8 s ≡ true → None ≡ judge_short_str s
  short-good h u = rw (leb_yes (length s) 255 h, u) refl

  -- and what is written after it
  pub short-refused : (at : ℕ) (out : List ℕ) {r : Refusal} → Some r ≡ judge_short_str s → outcome (refused r) out ≡ write_short_str s at out
  unfolding write_short_str write_at
  short-refused at out e = ap (λ (r : Option Refusal). write_at r (short_str s) at out) e

  pub short-written : (at : ℕ) (out : List ℕ) {o : Outcome Unit} → None ≡ judge_short_str s → o ≡ write_at None (short_str s) at out → o ≡ write_short_str s at out
  unfolding write_short_str
  short-written at out e f = f ∙ ap (λ (r : Option Refusal). write_at r (short_str s) at out) e
