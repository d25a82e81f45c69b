-- A short string. A span outside the pool has fewer octets than it needs: Truncated, judged before the string's length.
use Rattle.std.specs.Prelude.{Option, None}
use Rattle.std.specs.Prelude.{List, [], ◌∷◌, ℕ, get_or}
use Rattle.types.specs.Answer.{Refusal, truncated}
use Rattle.types.specs.Strings.{octets_of, short_str, short_str_at, judge_short_str}
use Rattle.types.specs.Judgement.{test}
use Rattle.types.specs.declared.Span.{Span}
use Rattle.tables.specs.Writing.{in_pool}
use Rattle.method.specs.Kinds.{FieldKind}

-- first the span, then what stands in it
abbrev pub judge_span : List ℕ → Span → Option Refusal → Option Refusal
judge_span pool v more = test (in_pool pool v.start v.len) truncated more

abbrev pub span_from : List ℕ → Span
span_from ws = record { start = get_or ws 0 0; len = get_or ws 1 0 }

abbrev pub short_str_kind : FieldKind
short_str_kind =
    record {
      Meaning = List ℕ;
      Located = Span;
      Pooled = Span;
      pooled = λ v. v;
      meaning = λ pool t v. octets_of pool v;
      at = λ letters s p room. short_str_at s p;
      octets = λ letters xs. short_str xs;
      judge = λ letters pool tape v. judge_span pool v (judge_short_str (octets_of pool v));
      judge_length = λ letters xs. None;
      Typed = λ v. Unit {0};
      NoNul = λ xs. Unit {0};
      tape = λ v. [];
      start = λ v. 0;
      used = λ v. 0;
      values = λ xs. 0;
      width = 2;
      words = λ v. v.start ∷ v.len ∷ [];
      from = span_from;
      cut = λ v. v;
    }
