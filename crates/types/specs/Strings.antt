-- Short and long strings: 0-9-1, 4.2.5.3; a short string is UTF-8 (document 01, "types.rs: octets and strings").
use Rattle.std.specs.Prelude.{ℕ, ◌+◌, List, ◌++◌, length, take, drop, leb}
use Rattle.std.specs.Prelude.{cond, Option, None, Some}
use Rattle.utf8.specs.Utf8.{utf8}
use Rattle.types.specs.Answer.{Refusal, Answer, given, truncated, short_str_too_long, not_utf8, too_long, and_then, need}
use Rattle.types.specs.Octets.{uint_at, octets}
use Rattle.types.specs.Judgement.{test}
use Rattle.types.specs.declared.Span.{Span}

-- the octets of a span
abbrev pub octets_of : List ℕ → Span → List ℕ
octets_of s v = take v.len (drop v.start s)

-- the same where they all are in s
unfoldable pub octets_in : List ℕ → Span → Option (List ℕ)
octets_in s v = cond (leb (v.start + v.len) (length s)) (Some (octets_of s v)) None

-- Readers

-- n octets at a position
unfoldable pub span_at : ℕ → List ℕ → ℕ → Answer Span
span_at n s at = need (leb (at + n) (length s)) truncated (given (record { start = at; len = n }) (at + n))

-- a long string: its length in four octets, then its octets
unfoldable pub long_str_at : List ℕ → ℕ → Answer Span
long_str_at s at = and_then (uint_at 4 s at) (λ n p. span_at n s p)

-- a short string: its length in one octet, then its octets, which are UTF-8
unfoldable pub short_str_at : List ℕ → ℕ → Answer Span
short_str_at s at = and_then (uint_at 1 s at) (λ n p. and_then (span_at n s p) (λ v q. need (utf8 (octets_of s v)) not_utf8 (given v q)))

-- a table of which only the length is read
unfoldable pub skip_field_table_at : List ℕ → ℕ → Answer Unit
skip_field_table_at s at = and_then (long_str_at s at) (λ v p. given tt p)

-- What is written

abbrev pub short_str : List ℕ → List ℕ
short_str xs = octets 1 (length xs) ++ xs

abbrev pub long_str : List ℕ → List ℕ
long_str xs = octets 4 (length xs) ++ xs

-- and what a writer refuses: of a short string its length, then its octets; of what has a length field of four octets its length
abbrev pub judge_short_str : List ℕ → Option Refusal
judge_short_str xs = test (leb (length xs) 255) short_str_too_long (test (utf8 xs) not_utf8 None)

abbrev pub judge_length : ℕ → Option Refusal
judge_length n = test (leb n 4294967295) too_long None
