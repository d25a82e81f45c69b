-- The laws of a login.
use mathlib.Core.Path.{◌≡◌, refl, ap, ◌∙◌}
use mathlib.Core.Bool.{Bool, true, false}
use Rattle.std.specs.Prelude.{Option, None, Some}
use mathlib.Core.List.{List, [], ◌∷◌, ◌++◌}
use Prim.Native.Nat.{ℕ, ◌+◌, ◌-◌, ◌^◌, ◌<◌}
use native.Mathlib.Omega.{arith}
use lib.ListN.{length, length-append}
use lib.Dec.{leb}
use Rattle.utf8.specs.Utf8.{utf8}
use Rattle.types.specs.Answer.{Refusal, given, not_utf8, too_long}
use Rattle.types.specs.Octets.{octets}
use Rattle.types.specs.Strings.{octets_of, long_str, long_str_at, judge_length}
use Rattle.types.specs.Judgement.{test}
use Rattle.types.specs.declared.Span.{Span}
use Rattle.types.proofs.Chain.{then-go, need-given, given-next, test-none}
use Rattle.types.proofs.Tests.{true-T, yes_leb}
use Rattle.types.proofs.Standing.{Stands, stands-left, stands-right}
use Rattle.types.proofs.RoundTrip.{place_long, long-here, long-cut, long-move}
use Rattle.tables.specs.Letters.{Letters}
use Rattle.tables.specs.Writing.{tape_meaning}
use Rattle.method.specs.Kinds.Login.{Login, login_text, NoNul, one_more, until_nul, user_length, login_spans, login_in, judge_text, login_kind}
use Rattle.method.proofs.Kind.{KindLaws}
use Rattle.method.proofs.ShortStrLaws.{span-passes}

pub login-next : (s : List ℕ) (p : ℕ) (v : Span) (o : Option ℕ) (q : ℕ) (a : Login Span) (n : ℕ) → login_in s p v o q ≡ given a n → q ≡ n
login-next s p v None q a n e = let z : ◌≡◌ {A = ℕ} 0 1 = cc in absurd (omega arith)
login-next s p v (Some m) q a n e =
    let b = need-given (utf8 (octets_of s (login_spans v m).user)) _ _ a n e in
    let c = need-given (utf8 (octets_of s (login_spans v m).password)) _ _ a n b.1 in
    given-next (login_spans v m) a q n c.1

-- the user ends where the first NUL stands
pub nul-after : (u w : List ℕ) → NoNul u → until_nul (u ++ (0 ∷ w)) ≡ Some (length u)
unfolding until_nul
nul-after [] w h = refl
nul-after (x ∷ u) w h = rw h.0 (ap one_more (nul-after u w h.1))

-- where a login's octets stand
unfoldable pub place_login : ℕ → Login (List ℕ) → Login Span
place_login p x =
    record {
      user = record { start = p + 4 + 1; len = length x.user };
      password = record { start = p + 4 + length x.user + 2; len = length x.password };
    }

pub login-spans : (p : ℕ) (x : Login (List ℕ)) → login_spans (place_long p (login_text x)) (length x.user) ≡ place_login p x
unfolding place_login
login-spans p x =
    let m : length (login_text x) - (length x.user + 2) ≡ length x.password = omega (arith, length-append x.user (0 ∷ x.password)) in
    rw m

pub login-parts : {s : List ℕ} {p : ℕ} (x : Login (List ℕ)) → Stands s p (long_str (login_text x))
    → (octets_of s (place_login p x).user ≡ x.user) × (octets_of s (place_login p x).password ≡ x.password)
unfolding place_login
login-parts {s} {p} x h =
    let o = login_text x in
    let u = x.user in
    let w = x.password in
    let a : Stands s (p + 4 + 1) (u ++ (0 ∷ w)) = stands-right (0 ∷ []) (u ++ (0 ∷ w)) (stands-right (octets 4 (length o)) o h) in
    let b : Stands s (p + 4 + 1 + length u + 1) w = stands-right (0 ∷ []) w (stands-right u (0 ∷ w) a) in
    let q : p + 4 + 1 + length u + 1 ≡ p + 4 + length u + 2 = omega arith in
    let c : Stands s (p + 4 + length u + 2) w = rw q at b in
    ((stands-left u (0 ∷ w) a).same, c.same)

-- a length that is not refused
pub length-fit : (n : ℕ) → judge_length n ≡ None → n < 256 ^ 4
length-fit n e = omega (arith, yes_leb n 4294967295 (test-none (leb n 4294967295) too_long None e).0)

pub too_long_lem : (n : ℕ) (r : Refusal) → judge_length n ≡ Some r → r ≡ too_long
too_long_lem n r e = go (leb n 4294967295) e
  where
    go : (b : Bool) → test b too_long None ≡ Some r → r ≡ too_long
    go true h = let z : ◌≡◌ {A = ℕ} 0 1 = cc in absurd (omega arith)
    go false h = cc

pub text-passes : (pool : List ℕ) (v : Span) (more : Option Refusal) → judge_text pool v more ≡ None → (utf8 (octets_of pool v) ≡ true) × (more ≡ None)
text-passes pool v more e = test-none (utf8 (octets_of pool v)) not_utf8 more (span-passes pool v (test (utf8 (octets_of pool v)) not_utf8 more) e)

abbrev pub FitLogin : Login (List ℕ) → Type 0
FitLogin x = (utf8 x.user ≡ true) × (utf8 x.password ≡ true) × NoNul x.user × (length (login_text x) < 256 ^ 4)

pub login-here : (letters : Letters) {s : List ℕ} {p : ℕ} (x : Login (List ℕ)) (room : ℕ) → FitLogin x → Stands s p (long_str (login_text x))
    → login_kind.at letters s p room ≡ given (place_login p x) (p + length (long_str (login_text x)))
login-here letters {s} {p} x room f h =
    let o = login_text x in
    let u = x.user in
    let w = x.password in
    let b : Stands s (p + 4) o = stands-right (octets 4 (length o)) o h in
    let parts = login-parts x h in
    let a : utf8 (octets_of s (login_spans (place_long p o) (length u)).user) ≡ true
    = ap (λ (y : Login Span). utf8 (octets_of s y.user)) (login-spans p x) ∙ ap utf8 parts.0 ∙ f.0 in
    let d : utf8 (octets_of s (login_spans (place_long p o) (length u)).password) ≡ true
    = ap (λ (y : Login Span). utf8 (octets_of s y.password)) (login-spans p x) ∙ ap utf8 parts.1 ∙ f.1 in
    rw (long-here o f.3 h, b.same, nul-after u w f.2, a, d, login-spans p x)

abbrev pub login_laws : (letters : Letters) → KindLaws letters login_kind
login_laws letters =
    record {
      within =
          λ s p room v q e.
          then-go (long_str_at s p) _ v q e
          (λ x r e1 h1.
          let a = long-move s p x r e1 in
          let m = login-next s p x (user_length (octets_of s x)) r v q h1 in
          record { far = omega (arith, a.0); inside = omega (arith, a.1); fits = omega arith });
      typed = λ s p room v q o e. tt;
      used-tape = λ v. refl;
      Fit = FitLogin;
      place = place_login;
      here = λ v room f c h. login-here letters v room f h;
      cut = λ v room f c. rw (long-cut (login_text v) f.3 c);
      tape-size = λ v p. refl;
      back = λ v more f h. let a = login-parts v h in λ i. record { user = a.0 i; password = a.1 i };
      sound = true;
      few = λ b pool tape v e l. omega (arith, length-fit (length (login_text (login_kind.meaning pool (tape_meaning letters pool tape) v))) l);
      long = λ x r e. too_long_lem (length (login_text x)) r e;
      no_user = false;
      no_nul = λ e v. absurd (true-T e);
      fit =
          λ o b pool tape v t e l z.
          let x = login_kind.meaning pool (tape_meaning letters pool tape) v in
          let a = text-passes pool v.user (judge_text pool v.password None) e in
          (a.0, (text-passes pool v.password None a.1).0, z, length-fit (length (login_text x)) l);
      length-words = λ v. refl;
      words_back = λ v more. refl;
      kept = λ v t. refl;
    }
