-- Laws of the grammar and of the place of the first fault, as the scan goes through the octets.
use mathlib.Core.Path.{◌≡◌, refl, sym, ap, ◌∙◌, subst}
use mathlib.Core.Bool.{Bool, true, false, not, ◌&&◌, cond}
use mathlib.Core.List.{List, [], ◌∷◌, ◌++◌, append_assoc}
use Prim.Native.Nat.{ℕ, zero, suc, ◌+◌, ◌-◌, ◌≤◌, ◌<◌}
use native.Mathlib.Nat.{add-zero}
use native.Mathlib.Numerals.{add-one}
use native.Mathlib.Omega.{arith}
use borrow.Author.Tests.{le-leb, lt-leb}
use lib.Dec.{T, leb, leb→le, nleb→lt}
use lib.ListN.{length, get_or, take, drop, take-append-drop, length-drop, get_or-append, drop_of_length-le}
use lib.Seq.{drop-cons, drop-append_seam, get_or-drop}
use Rattle.utf8.specs.Utf8.{Range, Shape, to, holds, shapes, followers_in, followers, begins, Character, follow, ill_formed, character_in, character, Fault, none, at, after, fault_from, fault, is_none, utf8}
use Rattle.utf8.specs.AnswerOf.{ranges, Ascii}
use Rattle.utf8.proofs.LeadLaws.{spanned}

-- ---- a character, by what follows its first octet

abbrev lead_in : List (List Range) → List ℕ → Character
lead_in [] s = ill_formed
lead_in (rs ∷ rss) s = cond (begins rs s) (follow (length rs)) (lead_in rss s)

by-test : (h b : Bool) (rs : List Range) (rss : List (List Range)) (s : List ℕ) {C : Character} → begins rs s ≡ b → C ≡ lead_in rss s → cond (h && b) (follow (length rs)) C ≡ lead_in (cond h (rs ∷ rss) rss) s
by-test true b rs rss s e c = rw (e, c)
by-test false b rs rss s e c = c

character-by : (bs : List Shape) (x : ℕ) (s : List ℕ) → character_in bs x s ≡ lead_in (followers_in bs x) s
character-by [] x s = refl
character-by (a ∷ bs) x s = by-test (holds a.lead x) (begins a.rest s) a.rest (followers_in bs x) s refl (character-by bs x s)

length-ranges : (n l h : ℕ) → length (ranges n l h) ≡ n
length-ranges zero l h = refl
length-ranges (suc n) l h = ap suc (length-ranges n 0x80 0xBF)

pub character-more : (n l h x : ℕ) (s : List ℕ) → ranges n l h ∷ [] ≡ followers x → character x s ≡ cond (begins (ranges n l h) s) (follow n) ill_formed
unfolding character followers
character-more n l h x s e =
    character-by shapes x s ∙ ap (λ (rss : List (List Range)). lead_in rss s) (sym e)
    ∙ ap (λ (k : ℕ). cond (begins (ranges n l h) s) (follow k) ill_formed) (length-ranges n l h)

pub character-never : (x : ℕ) (s : List ℕ) → [] ≡ followers x → character x s ≡ ill_formed
unfolding character followers
character-never x s e = character-by shapes x s ∙ ap (λ (rss : List (List Range)). lead_in rss s) (sym e)

-- ---- the place of the first fault

pub fault-start : (s : List ℕ) → fault s ≡ fault_from 0 0 (drop 0 s)
unfolding fault
fault-start s = refl

pub fault-end : (s : List ℕ) (i : ℕ) {F : Fault} → F ≡ fault_from 0 i (drop i s) → length s ≤ i → none ≡ F
unfolding fault_from
fault-end s i f h = sym (f ∙ rw (drop_of_length-le s h))

pub fault-step : (s : List ℕ) (i : ℕ) → i < length s → fault_from 0 i (drop i s) ≡ after (character (get_or s i 0) (drop (i + 1) s)) i (λ n. fault_from n (i + 1) (drop (i + 1) s))
unfolding fault_from
fault-step s i h = ap (fault_from 0 i) (drop-cons s i 0 h ∙ ap (λ (k : ℕ). get_or s i 0 ∷ drop k s) (sym (add-one i)))

fault-pass : (s : List ℕ) (k i : ℕ) → i < length s → fault_from (suc k) i (drop i s) ≡ fault_from k (i + 1) (drop (i + 1) s)
unfolding fault_from
fault-pass s k i h = ap (fault_from (suc k) i) (drop-cons s i 0 h ∙ ap (λ (j : ℕ). get_or s i 0 ∷ drop j s) (sym (add-one i)))

fault-skip : (s : List ℕ) (k i : ℕ) → i + k ≤ length s → fault_from k i (drop i s) ≡ fault_from 0 (i + k) (drop (i + k) s)
fault-skip s zero i h = rw (add-zero i)
fault-skip s (suc k) i h =
    let e : (i + 1) + k ≡ i + suc k = omega arith in
    fault-pass s k i (omega arith) ∙ fault-skip s k (i + 1) (omega arith) ∙ ap (λ (j : ℕ). fault_from 0 j (drop j s)) e

-- n octets from place i on continue a character, the first of them from l to h
unfoldable pub continues : List ℕ → ℕ → ℕ → ℕ → ℕ → Bool
continues s i n l h = begins (ranges n l h) (drop i s)

-- ---- inside a character that began at p, of n octets more: b says whether what is left of it is right

unfoldable pub verdict : List ℕ → ℕ → ℕ → Bool → Fault
verdict s p n b = after (cond b (follow n) ill_formed) p (λ k. fault_from k (p + 1) (drop (p + 1) s))

module _ (s : List ℕ) (p : ℕ) {F : Fault} where
  -- the first octet was read
  pub verdict-begun : (n l h : ℕ) → F ≡ fault_from 0 p (drop p s) → p < length s → ranges n l h ∷ [] ≡ followers (get_or s p 0) → F ≡ verdict s p n (continues s (p + 1) n l h)
  unfolding verdict continues
  verdict-begun n l h f k e = f ∙ fault-step s p k ∙ ap (λ (c : Character). after c p (λ j. fault_from j (p + 1) (drop (p + 1) s))) (character-more n l h (get_or s p 0) (drop (p + 1) s) e)

  pub verdict-never : F ≡ fault_from 0 p (drop p s) → p < length s → [] ≡ followers (get_or s p 0) → at p ≡ F
  verdict-never f k e = sym (f ∙ fault-step s p k ∙ ap (λ (c : Character). after c p (λ j. fault_from j (p + 1) (drop (p + 1) s))) (character-never (get_or s p 0) (drop (p + 1) s) e))

  -- another octet was read
  pub verdict-next : (n : ℕ) (b b' : Bool) → F ≡ verdict s p n b → b ≡ b' → F ≡ verdict s p n b'
  verdict-next n b b' f e = f ∙ ap (verdict s p n) e

  -- an octet that cannot continue the character, or none
  pub verdict-not : (n : ℕ) (b : Bool) → F ≡ verdict s p n b → b ≡ false → at p ≡ F
  unfolding verdict
  verdict-not n b f e = sym (f ∙ ap (verdict s p n) e)

  -- the last octet was read
  pub verdict-done : (n l h m i : ℕ) → F ≡ verdict s p n (continues s i m l h) → m ≤ 0 → i ≤ length s → i + m ≡ (p + 1) + n → F ≡ fault_from 0 i (drop i s)
  unfolding verdict continues
  verdict-done n l h zero i f z k e =
      let q : (p + 1) + n ≡ i = omega arith in
      f ∙ fault-skip s n (p + 1) (omega arith) ∙ ap (λ (j : ℕ). fault_from 0 j (drop j s)) q
  verdict-done n l h (suc m) i f z k e = absurd (omega arith)

-- ---- what is left of a character

module _ (s : List ℕ) (i l h : ℕ) where
  pub begins-cut : (n : ℕ) → 0 < n → length s ≤ i → continues s i n l h ≡ false
  unfolding continues
  begins-cut zero k e = absurd (omega arith)
  begins-cut (suc n) k e = rw (drop_of_length-le s e)

  begins-cons : (n : ℕ) → i < length s → begins (ranges (suc n) l h) (drop i s) ≡ holds (to l h) (get_or s i 0) && begins (ranges n 0x80 0xBF) (drop (i + 1) s)
  begins-cons n k = ap (begins (ranges (suc n) l h)) (drop-cons s i 0 k ∙ ap (λ (j : ℕ). get_or s i 0 ∷ drop j s) (sym (add-one i)))

  pub begins-low : (n : ℕ) → 0 < n → i < length s → get_or s i 0 < l → continues s i n l h ≡ false
  unfolding continues
  begins-low zero k e f = absurd (omega arith)
  begins-low (suc n) k e f = begins-cons n e ∙ rw (lt-leb l (get_or s i 0) f)

  pub begins-high : (n : ℕ) → 0 < n → i < length s → l ≤ get_or s i 0 → h < get_or s i 0 → continues s i n l h ≡ false
  unfolding continues
  begins-high zero k e f g = absurd (omega arith)
  begins-high (suc n) k e f g = begins-cons n e ∙ rw (le-leb l (get_or s i 0) f, lt-leb (get_or s i 0) h g)

  pub begins-next : (n : ℕ) → 0 < n → i < length s → l ≤ get_or s i 0 → get_or s i 0 ≤ h → continues s i n l h ≡ continues s (i + 1) (n - 1) 0x80 0xBF
  unfolding continues
  begins-next zero k e f g = absurd (omega arith)
  begins-next (suc n) k e f g =
      let q : n ≡ suc n - 1 = omega arith in
      begins-cons n e ∙ rw (le-leb l (get_or s i 0) f, le-leb (get_or s i 0) h g) (ap (λ (m : ℕ). begins (ranges m 0x80 0xBF) (drop (i + 1) s)) q)

-- ---- the verdict alone, for callers

pub well-formed : (s : List ℕ) → none ≡ fault s → utf8 s ≡ true
unfolding utf8
well-formed s e = ap is_none (sym e)

pub ill-formed : (s : List ℕ) {p : ℕ} → at p ≡ fault s → utf8 s ≡ false
unfolding utf8
ill-formed s e = ap is_none (sym e)

-- ---- octets below 128 are characters by themselves

pub fault-ascii : (s : List ℕ) (i : ℕ) {F : Fault} → F ≡ fault_from 0 i (drop i s) → i < length s → get_or s i 0 < 0x80 → F ≡ fault_from 0 (i + 1) (drop (i + 1) s)
unfolding followers
fault-ascii s i f h a =
    let alone = spanned 0 0x80 ([] ∷ []) tt (get_or s i 0) (omega arith) (omega arith) in
    verdict-done s i 0 0x80 0xBF 0 (i + 1) (verdict-begun s i 0 0x80 0xBF f h alone) (omega arith) (omega arith) (omega arith)

-- where all octets are below 128 there is no fault

ascii-start : (s : List ℕ) (k : ℕ) → k ≤ length s → Ascii s 0 k → fault s ≡ fault_from 0 k (drop k s)
unfolding Ascii
ascii-start s zero h a = fault-start s
ascii-start s (suc k) h a =
    let m : k + 1 ≡ suc k = omega arith in
    rw (← m) (fault-ascii s k (ascii-start s k (omega arith) (λ i l u. a i l (omega arith))) (omega arith) (a k (omega arith) (omega arith)))

pub ascii-all : (s : List ℕ) (n : ℕ) → n ≡ length s → Ascii s 0 n → none ≡ fault s
ascii-all s n e a = fault-end s n (ascii-start s n (omega arith) a) (omega arith)

-- two parts one behind the other, which may overlap
pub ascii-join : (s : List ℕ) (a b c d : ℕ) → c ≤ b → Ascii s a b → Ascii s c d → Ascii s a d
unfolding Ascii
ascii-join s a b c d h f g i l u = go (leb (suc i) b) refl
  where
    go : (t : Bool) → leb (suc i) b ≡ t → get_or s i 0 < 0x80
    go true e = f i l (leb→le (suc i) b (subst T (sym e) tt))
    go false e = g i (omega (arith, nleb→lt (suc i) b (subst (λ (t : Bool). T (not t)) (sym e) tt))) u

-- no octet, and one more
pub ascii-none : (s : List ℕ) (a b : ℕ) → b ≤ a → Ascii s a b
unfolding Ascii
ascii-none s a b h i l u = absurd (omega arith)

pub ascii-next : (s : List ℕ) (a b : ℕ) → Ascii s a b → get_or s b 0 < 0x80 → Ascii s a (b + 1)
unfolding Ascii
ascii-next s a b f h = ascii-join s a b b (b + 1) (omega arith) f (λ i l u. let e : i ≡ b = omega arith in rw e h)

-- of octets in front of others, and of those from a place on
ascii-front : {s : List ℕ} (xs rest : List ℕ) → s ≡ xs ++ rest → Ascii xs 0 (length xs) → Ascii s 0 (length xs)
unfolding Ascii
ascii-front {s} xs rest e a i l u = rw (e, get_or-append xs rest 0 i u) (a i l u)

ascii-back : (s : List ℕ) {part : List ℕ} (d : ℕ) → part ≡ drop d s → Ascii part 0 (length part) → Ascii s d (length s)
unfolding Ascii
ascii-back s {part} d e a i l u =
    let own : d + (i - d) ≡ i = omega arith in
    let at : get_or part (i - d) 0 ≡ get_or s i 0 = ap (λ (x : List ℕ). get_or x (i - d) 0) e ∙ get_or-drop d s (i - d) 0 ∙ ap (λ (j : ℕ). get_or s j 0) own in
    let n : length part ≡ length s - d = ap length e ∙ length-drop d s in
    rw (← at) (a (i - d) (omega arith) (omega arith))

-- octets behind others
pub ascii-more : (xs ys : List ℕ) → Ascii xs 0 (length xs) → Ascii ys 0 (length ys) → Ascii (xs ++ ys) 0 (length (xs ++ ys))
ascii-more xs ys f g =
    ascii-join (xs ++ ys) 0 (length xs) (length xs) (length (xs ++ ys)) (omega arith) (ascii-front xs ys refl f) (ascii-back (xs ++ ys) (length xs) (sym (drop-append_seam xs ys)) g)

-- octets in front, xs and rest being the first k, and those from a place among xs on
pub ascii-over : (s : List ℕ) {part : List ℕ} (xs rest : List ℕ) (k d : ℕ) → take k s ≡ xs ++ rest → Ascii xs 0 (length xs) → part ≡ drop d s → Ascii part 0 (length part) → d ≤ length xs → none ≡ fault s
ascii-over s xs rest k d e f p g h =
    let whole : s ≡ xs ++ (rest ++ drop k s) = sym (take-append-drop k s) ∙ ap (λ (front : List ℕ). front ++ drop k s) e ∙ append_assoc xs rest (drop k s) in
    ascii-all s (length s) refl (ascii-join s 0 (length xs) d (length s) h (ascii-front xs (rest ++ drop k s) whole f) (ascii-back s d p g))
