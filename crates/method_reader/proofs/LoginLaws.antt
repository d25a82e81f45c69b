-- The login string: where its NUL stands, and what the reader answers by it.
use mathlib.Core.Path.{◌≡◌, refl, sym, ap, ◌∙◌}
use mathlib.Core.Bool.{Bool, true, false, cond, ◌&&◌}
use Rattle.std.specs.Prelude.{Option, None, Some}
use mathlib.Core.List.{List, [], ◌∷◌}
use Prim.Native.Nat.{ℕ, suc, ◌+◌, ◌-◌, ◌≤◌, ◌<◌}
use native.Mathlib.Nat.{zero-add}
use native.Mathlib.Omega.{arith}
use lib.ListN.{length, take, drop, length-drop}
use lib.Seq.{length-take-le}
use lib.Dec.{eqb}
use Rattle.utf8.specs.Utf8.{utf8}
use Rattle.types.specs.Answer.{Refusal, given, refused, not_utf8, not_written}
use Rattle.types.specs.Strings.{octets_of, long_str_at}
use Rattle.types.specs.declared.Span.{Span}
use Rattle.types.proofs.RoundTrip.{long-start}
use Rattle.tables.specs.Letters.{Letters}
use Rattle.method.specs.Fields.{login}
use Rattle.method.specs.Reading.{arg_at}
use Rattle.method.specs.Kinds.Login.{Login, one_more, until_nul, user_length, login_spans, login_utf8, login_in}
use Rattle.std.specs.List.{position_from}
use Rattle.std.specs.Cmp.Lexicographic.{pointwise}

-- The octets from i up to the end

abbrev pub up_to : List ℕ → ℕ → ℕ → List ℕ
up_to s i end = take (end - i) (drop i s)

-- The place of the first NUL, counted from i on

abbrev nul_from : ℕ → Option ℕ → Option ℕ
nul_from i None = None
nul_from i (Some n) = Some (i + n)

one_on : (i : ℕ) (o : Option ℕ) → nul_from i (one_more o) ≡ nul_from (i + 1) o
one_on i None = refl
one_on i (Some n) = let e : i + suc n ≡ i + 1 + n = omega arith in ap Some e

from-place : (i : ℕ) (xs : List ℕ) → position_from (λ x. eqb x 0) i xs ≡ nul_from i (until_nul xs)
unfolding until_nul
from-place i [] = refl
from-place i (x ∷ xs) = by (eqb x 0) (from-place (i + 1) xs)
  where
    by : (b : Bool) → position_from (λ x. eqb x 0) (i + 1) xs ≡ nul_from (i + 1) (until_nul xs)
        → cond b (Some i) (position_from (λ x. eqb x 0) (i + 1) xs) ≡ nul_from i (cond b (Some 0) (one_more (until_nul xs)))
    by true e = let here : i ≡ i + 0 = omega arith in ap Some here
    by false e = e ∙ sym (one_on i (until_nul xs))

first-nul : (xs : List ℕ) → position_from (λ x. eqb x 0) 0 xs ≡ until_nul xs
first-nul xs = from-place 0 xs ∙ from-zero (until_nul xs)
  where
    from-zero : (o : Option ℕ) → nul_from 0 o ≡ o
    from-zero None = refl
    from-zero (Some n) = ap Some (zero-add n)

until-inside : (xs : List ℕ) (n : ℕ) → until_nul xs ≡ Some n → n < length xs
unfolding until_nul
until-inside [] n e = let z : ◌≡◌ {A = ℕ} 0 1 = cc in absurd (omega arith)
until-inside (x ∷ xs) n e = here (eqb x 0) (until_nul xs) e (λ k h. until-inside xs k h)
  where
    here : (b : Bool) (o : Option ℕ) → cond b (Some 0) (one_more o) ≡ Some n → ((k : ℕ) → o ≡ Some k → k < length xs) → n < suc (length xs)
    here true o h later = let zero : 0 ≡ n = cc in omega arith
    here false None h later = let z : ◌≡◌ {A = ℕ} 0 1 = cc in absurd (omega arith)
    here false (Some k) h later = let next : suc k ≡ n = cc in omega (arith, later k refl)

user-inside : (xs : List ℕ) (n : ℕ) → user_length xs ≡ Some n → n + 1 < length xs
user-inside [] n e = let z : ◌≡◌ {A = ℕ} 0 1 = cc in absurd (omega arith)
user-inside (x ∷ xs) n e = by (eqb x 0) e
  where
    by : (b : Bool) → cond b (until_nul xs) None ≡ Some n → n + 1 < suc (length xs)
    by true h = omega (arith, until-inside xs n h)
    by false h = let z : ◌≡◌ {A = ℕ} 0 1 = cc in absurd (omega arith)

-- by whether a NUL is first

pub user-none : (xs : List ℕ) → pointwise eqb (take 1 xs) (0 ∷ []) ≡ false → user_length xs ≡ None
user-none [] e = refl
user-none (x ∷ xs) e = by (eqb x 0) e
  where
    by : (b : Bool) → b && true ≡ false → cond b (until_nul xs) None ≡ None
    by true h = let z : ◌≡◌ {A = ℕ} 0 1 = cc in absurd (omega arith)
    by false h = refl

user-is : (xs : List ℕ) → pointwise eqb (take 1 xs) (0 ∷ []) ≡ true → user_length xs ≡ until_nul (drop 1 xs)
user-is [] e = let z : ◌≡◌ {A = ℕ} 0 1 = cc in absurd (omega arith)
user-is (x ∷ xs) e = by (eqb x 0) e
  where
    by : (b : Bool) → b && true ≡ true → cond b (until_nul xs) None ≡ until_nul xs
    by true h = refl
    by false h = let z : ◌≡◌ {A = ℕ} 0 1 = cc in absurd (omega arith)

pub user-of : (xs text : List ℕ) (o : Option ℕ) → pointwise eqb (take 1 xs) (0 ∷ []) ≡ true → text ≡ drop 1 xs → o ≡ position_from (λ x. eqb x 0) 0 text → user_length xs ≡ o
user-of xs text o e t p = user-is xs e ∙ ap until_nul (sym t) ∙ sym (p ∙ first-nul text)

-- What is read of a long string that is there

module _ (letters : Letters) (s : List ℕ) (at room : ℕ) where
  pub login-refused : {e : Refusal} → refused e ≡ long_str_at s at → arg_at letters login s at room ≡ refused e
  unfolding arg_at
  login-refused h = rw (← h)

  module _ (v : Span) (end : ℕ) (read : given v end ≡ long_str_at s at) where
    login-in : (o : Option ℕ) → user_length (octets_of s v) ≡ o → arg_at letters login s at room ≡ login_in s at v o end
    unfolding arg_at
    login-in o e = rw (← read, e)

    pub login-inside : (end ≡ v.start + v.len) × (end ≤ length s)
    login-inside = let l = long-start s at v end (sym read) in (l.1, l.2)

    its-octets : up_to s v.start end ≡ octets_of s v
    its-octets = let n : end - v.start ≡ v.len = omega (arith, login-inside.0) in ap (λ (k : ℕ). take k (drop v.start s)) n

    pub login-none : user_length (up_to s v.start end) ≡ None → arg_at letters login s at room ≡ refused (not_written at)
    login-none e = login-in None (ap user_length (sym its-octets) ∙ e)

    module _ (n : ℕ) (found : user_length (up_to s v.start end) ≡ Some n) where
      pub nul-inside : v.start + 1 + n < end
      nul-inside =
          let l = login-inside in
          let wide : length (up_to s v.start end) ≡ end - v.start = length-take-le (end - v.start) (drop v.start s) (omega (arith, length-drop v.start s, l.1)) in
          omega (arith, l.0, user-inside (up_to s v.start end) n found, wide)

      pub login-found : arg_at letters login s at room
          ≡ login_utf8 s
          (record {
            user = record { start = v.start + 1; len = v.start + 1 + n - (v.start + 1) };
            password = record { start = suc (v.start + 1 + n); len = end - suc (v.start + 1 + n) };
          }) end
      login-found =
          let l = login-inside in
          let user : n ≡ v.start + 1 + n - (v.start + 1) = omega arith in
          let start : v.start + n + 2 ≡ suc (v.start + 1 + n) = omega arith in
          let len : v.len - (n + 2) ≡ end - suc (v.start + 1 + n) = omega (arith, l.0) in
          let spans : login_spans v n ≡ record { user = record { start = v.start + 1; len = v.start + 1 + n - (v.start + 1) }; password = record { start = suc (v.start + 1 + n); len = end - suc (v.start + 1 + n) } }
          = λ i. record { user = record { start = v.start + 1; len = user i }; password = record { start = start i; len = len i } } in
          login-in (Some n) (ap user_length (sym its-octets) ∙ found) ∙ ap (λ (x : Login Span). login_utf8 s x end) spans

-- The user up to the NUL and the password behind it are UTF-8, or one is not

module _ (s : List ℕ) (user nul end : ℕ) where
  abbrev login_at : ℕ → Login Span
  login_at p = record { user = record { start = user; len = nul - user }; password = record { start = p; len = end - p } }

  behind : (b : Bool) → utf8 (up_to s (nul + 1) end) ≡ b → utf8 (up_to s (suc nul) end) ≡ b
  behind b e = let one : suc nul ≡ nul + 1 = omega arith in ap (λ (p : ℕ). utf8 (up_to s p end)) one ∙ e

  pub user-refused : utf8 (up_to s user nul) ≡ false → refused not_utf8 ≡ login_utf8 s (login_at (suc nul)) end
  user-refused u = rw u

  module _ (u : utf8 (up_to s user nul) ≡ true) where
    pub password-refused : utf8 (up_to s (nul + 1) end) ≡ false → refused not_utf8 ≡ login_utf8 s (login_at (suc nul)) end
    password-refused p = rw (u, behind false p)

    pub texts-given : utf8 (up_to s (nul + 1) end) ≡ true → given (login_at (nul + 1)) end ≡ login_utf8 s (login_at (suc nul)) end
    texts-given p =
        let one : nul + 1 ≡ suc nul = omega arith in
        ap (λ (p : ℕ). given (login_at p) end) one ∙ (rw (u, behind true p))
