-- A login, in a long string: NUL user NUL password (RFC 4616).
use Rattle.std.specs.Prelude.{◌≡◌, false, cond, List, [], ◌∷◌, ◌++◌, ℕ, suc, ◌+◌, ◌-◌, length, drop, eqb}
use Rattle.std.specs.Prelude.{Option, None, Some}
use Rattle.utf8.specs.Utf8.{utf8}
use Rattle.types.specs.Answer.{Answer, Refusal, given, refused, not_utf8, not_written, and_then, need}
use Rattle.types.specs.Strings.{octets_of, long_str, long_str_at, judge_length}
use Rattle.types.specs.Judgement.{test}
use Rattle.types.specs.declared.Span.{Span}
use Rattle.method.specs.Kinds.{FieldKind}
use Rattle.method.specs.Kinds.ShortStr.{judge_span, span_from}

pub record Login (A : Type 0) : Type 0 where
  pub user : A
  pub password : A

abbrev pub login_text : Login (List ℕ) → List ℕ
login_text x = 0 ∷ (x.user ++ (0 ∷ x.password))

-- no NUL in the user
abbrev pub NoNul : List ℕ → Type 0
NoNul [] = Unit {0}
NoNul (x ∷ xs) = (eqb x 0 ≡ false) × NoNul xs

-- Read: the place of the first NUL

abbrev pub one_more : Option ℕ → Option ℕ
one_more None = None
one_more (Some n) = Some (suc n)

unfoldable pub until_nul : List ℕ → Option ℕ
until_nul [] = None
until_nul (x ∷ xs) = cond (eqb x 0) (Some 0) (one_more (until_nul xs))

-- the length of the user in a login string: a NUL, the user up to the next NUL, the password
abbrev pub user_length : List ℕ → Option ℕ
user_length [] = None
user_length (x ∷ xs) = cond (eqb x 0) (until_nul xs) None

abbrev pub login_spans : Span → ℕ → Login Span
login_spans v m =
    record {
      user = record { start = v.start + 1; len = m };
      password = record { start = v.start + m + 2; len = v.len - (m + 2) };
    }

abbrev pub login_utf8 : List ℕ → Login Span → ℕ → Answer (Login Span)
login_utf8 s x q = need (utf8 (octets_of s x.user)) not_utf8 (need (utf8 (octets_of s x.password)) not_utf8 (given x q))

-- first NotWritten at its length field p, then NotUtf8
abbrev pub login_in : List ℕ → ℕ → Span → Option ℕ → ℕ → Answer (Login Span)
login_in s p v None q = refused (not_written p)
login_in s p v (Some m) q = login_utf8 s (login_spans v m) q

-- Judged: the user's span and text, then the password's
abbrev pub judge_text : List ℕ → Span → Option Refusal → Option Refusal
judge_text pool v more = judge_span pool v (test (utf8 (octets_of pool v)) not_utf8 more)

abbrev pub login_kind : FieldKind
login_kind =
    record {
      Meaning = Login (List ℕ);
      Located = Login Span;
      Pooled = Login Span;
      pooled = λ x. x;
      meaning = λ pool t x. record { user = octets_of pool x.user; password = octets_of pool x.password };
      at = λ letters s p room. and_then (long_str_at s p) (λ v q. login_in s p v (user_length (octets_of s v)) q);
      octets = λ letters x. long_str (login_text x);
      judge = λ letters pool tape x. judge_text pool x.user (judge_text pool x.password None);
      judge_length = λ letters x. judge_length (length (login_text x));
      Typed = λ x. Unit {0};
      NoNul = λ x. NoNul x.user;
      tape = λ x. [];
      start = λ x. 0;
      used = λ x. 0;
      values = λ x. 0;
      width = 4;
      words = λ x. x.user.start ∷ x.user.len ∷ x.password.start ∷ x.password.len ∷ [];
      from = λ ws. record { user = span_from ws; password = span_from (drop 2 ws) };
      cut = λ x. x;
    }
