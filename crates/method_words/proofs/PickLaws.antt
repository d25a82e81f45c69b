-- Properties taken from words, one after the other: what has been taken when all are.
use mathlib.Core.Path.{◌≡◌, refl, sym, ap, subst, ◌∙◌}
use mathlib.Core.Bool.{Bool, true, false, cond}
use Rattle.std.specs.Prelude.{Option, None, Some}
use Rattle.std.specs.Option.{MatchOption, IfSome, IsSomeAnd}
use Rattle.std.proofs.lemmas.Option.{MatchOption-at_some, MatchOption-at_none}
use mathlib.Core.List.{List, [], ◌∷◌}
use Prim.Native.Nat.{ℕ, suc, ◌+◌, ◌*◌, ◌/◌, ◌^◌, ◌%◌, ◌≤◌, ◌<◌}
use native.Mathlib.Omega.{arith}
use native.Mathlib.Nat.{mod-eq_of_lt, mod-lt, two-pow-succ}
use Rattle.std.proofs.Math.Nat.{add-mul, mul_assoc, mul-le-mul_right, mul-lt-mul_of_pos_right}
use Rattle.std.proofs.lemmas.Nat.{pow-add, mod-mul-add, div-add-mod'}
use lib.ListN.{length, drop}
use lib.Seq.{drop-drop}
use lib.Dec.{leb}
use lib.Pow.{pow_pos}
use Rattle.types.proofs.Tests.{yes_leb, no_leb, leb_yes, leb_no, decide}
use Rattle.method.specs.Fields.{Kind, Field, fixed, arg, Pooled, Args}
use Rattle.method.specs.Properties.{properties, select, flags_of, Header, header}
use Rattle.method.specs.Words.{width, arg_from, args_from}
use Rattle.method.specs.AnswerOf.{Optional, is_there, present, with_first, chosen}
use Rattle.method_words.specs.declared.headers.PropertyReader.{PropertyReader}
use Rattle.method_words.specs.Words.{cut_arg, cut_args, header_with}
use Rattle.method_words.specs.Properties.{is_next, next_of, rest_of, number_in}

-- One property

-- a number, and what is made of it
some-is : (r : Option ℕ) (n : ℕ) → IsSomeAnd r (λ y. y ≡ n) → r ≡ Some n
some-is None n h = absurd h
some-is (Some y) n h = ap Some h

pub next-octet : (rest : PropertyReader) (o r : Option ℕ) → o ≡ next_of number_in rest
    → MatchOption o (r ≡ None) (λ x. IsSomeAnd r (λ y. y ≡ x % 256)) → r ≡ next_of (λ ws. number_in ws % 256) rest
next-octet rest o r = go (is_next rest)
  where
    go : (b : Bool) → o ≡ cond b (Some (number_in (drop rest.at rest.words.now))) None → MatchOption o (r ≡ None) (λ x. IsSomeAnd r (λ y. y ≡ x % 256))
        → r ≡ cond b (Some (number_in (drop rest.at rest.words.now) % 256)) None
    go true e h = some-is r (number_in (drop rest.at rest.words.now) % 256) (MatchOption-at_some _ _ _ e h)
    go false e h = MatchOption-at_none _ _ e h

pub next-kept : (rest : PropertyReader) (o : Option ℕ) → IfSome o (λ n. n < 256 ^ 8) → o ≡ next_of number_in rest
    → o ≡ next_of (λ ws. number_in ws % 256 ^ 8) rest
next-kept rest o = go (is_next rest)
  where
    go : (b : Bool) → IfSome o (λ n. n < 256 ^ 8) → o ≡ cond b (Some (number_in (drop rest.at rest.words.now))) None
        → o ≡ cond b (Some (number_in (drop rest.at rest.words.now) % 256 ^ 8)) None
    go true h e = e ∙ ap Some (sym (mod-eq_of_lt (MatchOption-at_some _ _ _ e h)))
    go false h e = e

-- what is left behind it begins behind its words, if not where it does itself
pub rest-place : (r rest : PropertyReader) (width m : ℕ) → r ≡ rest_of width rest → rest.at ≤ m → r.at ≤ m + width
rest-place r rest width m e h = rw e (decide (leb 4096 rest.flags) (λ b. rw b (omega arith)) (λ b. rw b (omega arith)))

pub rest-step : (r rest : PropertyReader) (width : ℕ) → r ≡ rest_of width rest → r.at ≤ rest.at + width
rest-step r rest width e = rest-place r rest width rest.at e (omega arith)

-- All of some properties, by their flags

abbrev taken : (k : Kind) → List ℕ → Pooled k
taken k ws = cut_arg k (arg_from k ws)

-- each of them is the next one, and so on with what is left
pub data Picked : (fs : List Field) → Args Optional fs → PropertyReader → Type 0 where
  all : {vs : Args Optional []} {rest : PropertyReader} → Picked [] vs rest
  next : {k : Kind} {fs : List Field} {vs : Args Optional (arg k ∷ fs)} {rest after : PropertyReader} → vs.0 ≡ next_of (taken k) rest
      → after ≡ rest_of (width (arg k)) rest → Picked fs vs.1 after → Picked (arg k ∷ fs) vs rest

-- which are present, and those
pub record Selection (fs : List Field) : Type 0 where
  pub there : List Bool
  pub args : Args Pooled (select there fs)

abbrev selection_of : (fs : List Field) → Args Optional fs → Selection fs
selection_of fs vs = record { there = present fs vs; args = chosen fs vs }

abbrev cut_from : (fs : List Field) → List Bool → List ℕ → Selection fs
cut_from fs ps ws = record { there = ps; args = cut_args (select ps fs) (args_from (select ps fs) ws) }

abbrev before : (k : Kind) (fs : List Field) → Option (Pooled k) → Selection fs → Selection (arg k ∷ fs)
before k fs v x = record { there = is_there v ∷ x.there; args = with_first k fs x.there v x.args }

-- the flags of the last `w` properties stand `up` places higher than as a number f of their own, so that the first is the highest of thirteen

module _ (w up f : ℕ) (e : w + up ≡ 12) where
  top : 2 ^ w * 2 ^ up ≡ 4096
  top = sym (pow-add 2 w up) ∙ ap (λ (i : ℕ). 2 ^ i) e

  flag-same : leb 4096 (f * 2 ^ up) ≡ leb (2 ^ w) f
  flag-same =
      decide (leb (2 ^ w) f)
      (λ y. let h = mul-le-mul_right (2 ^ up) (yes_leb (2 ^ w) f y) in rw y (leb_yes 4096 (f * 2 ^ up) (omega (arith, h, top))))
      (λ n. let h = mul-lt-mul_of_pos_right {k = 2 ^ up} (no_leb (2 ^ w) f n) (pow_pos up) in rw n (leb_no 4096 (f * 2 ^ up) (omega (arith, h, top))))

  flags-left : f * 2 ^ up % 4096 * 2 ≡ f % 2 ^ w * 2 ^ suc up
  flags-left =
      let split : f * 2 ^ up ≡ f / 2 ^ w * 4096 + f % 2 ^ w * 2 ^ up =
      ap (λ (n : ℕ). n * 2 ^ up) (sym (div-add-mod' f (2 ^ w)))
      ∙ add-mul (f / 2 ^ w * 2 ^ w) (f % 2 ^ w) (2 ^ up)
      ∙ ap (λ (n : ℕ). n + f % 2 ^ w * 2 ^ up) (mul_assoc (f / 2 ^ w) (2 ^ w) (2 ^ up) ∙ ap (λ (n : ℕ). f / 2 ^ w * n) top) in
      let small = mul-lt-mul_of_pos_right {k = 2 ^ up} (mod-lt f (pow_pos w)) (pow_pos up) in
      let rest : f * 2 ^ up % 4096 ≡ f % 2 ^ w * 2 ^ up = rw split (mod-mul-add (f / 2 ^ w) 4096 (f % 2 ^ w * 2 ^ up) (omega (arith, small, top))) in
      ap (λ (n : ℕ). n * 2) rest ∙ mul_assoc (f % 2 ^ w) (2 ^ up) 2 ∙ ap (λ (n : ℕ). f % 2 ^ w * n) (omega (arith, two-pow-succ up))

cut-next : (k : Kind) (fs : List Field) (rest : PropertyReader) (f : ℕ) → is_next rest ≡ leb (2 ^ length fs) f → before k fs (next_of (taken k) rest)
    (cut_from fs (flags_of (length fs) (f % 2 ^ length fs)) (drop (rest_of (width (arg k)) rest).at rest.words.now))
    ≡ cut_from (arg k ∷ fs) (flags_of (suc (length fs)) f) (drop rest.at rest.words.now)
unfolding select flags_of args_from cut_args
cut-next k fs rest f s =
    decide (leb (2 ^ length fs) f) (λ e. rw (s, e, ← (drop-drop (width (arg k)) rest.at rest.words.now))) (λ e. rw (s, e))

picked : (fs : List Field) (vs : Args Optional fs) (rest : PropertyReader) (f up : ℕ) → length fs + up ≡ 13 → rest.flags ≡ f * 2 ^ up → Picked fs vs rest
    → selection_of fs vs ≡ cut_from fs (flags_of (length fs) f) (drop rest.at rest.words.now)
unfolding select chosen flags_of args_from cut_args
picked [] vs rest f up e m all = refl
picked (fixed xs ∷ fs) vs rest f up e m x = elim x [ ]
picked (arg k ∷ fs) vs rest f up e m (next {after = after} a b more) =
    let w = length fs in
    let there : is_next rest ≡ leb (2 ^ w) f = rw m (flag-same w up f (omega arith)) in
    let left : after.flags ≡ f % 2 ^ w * 2 ^ suc up = ap (λ (r : PropertyReader). r.flags) b ∙ ap (λ (n : ℕ). n % 4096 * 2) m ∙ flags-left w up f (omega arith) in
    let words : after.words ≡ rest.words = ap (λ (r : PropertyReader). r.words) b in
    let place : after.at ≡ (rest_of (width (arg k)) rest).at = ap (λ (r : PropertyReader). r.at) b in
    ap (λ (v : Option (Pooled k)). before k fs v (selection_of fs vs.1)) a
    ∙ ap (before k fs (next_of (taken k) rest)) (picked fs vs.1 after (f % 2 ^ w) (suc up) (omega arith) left more)
    ∙ rw (words, place) (cut-next k fs rest f there)

header_in : ℕ → ℕ → Selection properties → Header Pooled
header_in c n x = header c n x.there x.args

pub header-picked : (c n : ℕ) (vs : Args Optional properties) (rest : PropertyReader) → rest.at ≡ 0 → Picked properties vs rest
    → header c n (present properties vs) (chosen properties vs) ≡ header_with c n rest.flags rest.words.now
unfolding header_in
header-picked c n vs rest z p =
    let thirteen : length properties ≡ 13 = unfold properties in refl in
    let all = picked properties vs rest rest.flags 0 (omega arith) (omega arith) p in
    ap (header_in c n) (subst (λ (w : ℕ). selection_of properties vs ≡ cut_from properties (flags_of w rest.flags) (drop rest.at rest.words.now)) thirteen all ∙ ap (λ (i : ℕ). cut_from properties (flags_of 13 rest.flags) (drop i rest.words.now)) z)
