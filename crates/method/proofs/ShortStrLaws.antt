-- The laws of a short string.
use mathlib.Core.Path.{◌≡◌, refl}
use mathlib.Core.Bool.{true}
use Rattle.std.specs.Prelude.{Option, None}
use mathlib.Core.List.{List}
use Prim.Native.Nat.{ℕ}
use native.Mathlib.Omega.{arith}
use lib.ListN.{length}
use lib.Dec.{leb}
use Rattle.types.specs.Answer.{Refusal, truncated, short_str_too_long, not_utf8}
use Rattle.types.specs.Strings.{octets_of, judge_short_str}
use Rattle.types.specs.Judgement.{test}
use Rattle.types.specs.declared.Span.{Span}
use Rattle.utf8.specs.Utf8.{utf8}
use Rattle.types.proofs.Tests.{yes_leb}
use Rattle.types.proofs.Chain.{test-none}
use Rattle.types.proofs.RoundTrip.{FitShort, place_short, short-here, short_cut, short-seen, short-fit, short-move}
use Rattle.tables.specs.Letters.{Letters}
use Rattle.tables.specs.Writing.{in_pool}
use Rattle.method.specs.Kinds.ShortStr.{judge_span, short_str_kind}
use Rattle.method.proofs.Kind.{KindLaws}
use Rattle.method.proofs.NumberLaws.{nothing-long}

-- a span in the pool, then what is judged behind it
pub span-passes : (pool : List ℕ) (v : Span) (more : Option Refusal) → judge_span pool v more ≡ None → more ≡ None
span-passes pool v more e = (test-none (in_pool pool v.start v.len) truncated more e).1

abbrev pub short_str_laws : (letters : Letters) → KindLaws letters short_str_kind
short_str_laws letters =
    record {
      within = λ s p room v q e. let a = short-move s p v q e in record { far = omega (arith, a.0); inside = a.1; fits = omega arith };
      typed = λ s p room v q o e. tt;
      used-tape = λ v. refl;
      Fit = FitShort;
      place = place_short;
      here = λ v room f c h. short-here v f h;
      cut = λ v room f c. short_cut v f c;
      tape-size = λ v p. refl;
      back = λ v more f h. short-seen v h;
      sound = true;
      few =
          λ b pool tape v e l.
          let xs = octets_of pool v in
          let d = test-none (leb (length xs) 255) short_str_too_long (test (utf8 xs) not_utf8 None) (span-passes pool v (judge_short_str xs) e) in
          omega (arith, yes_leb (length xs) 255 d.0);
      long = λ x r e. nothing-long r e;
      no_user = true;
      no_nul = λ e v. tt;
      fit = λ o b pool tape v t e l z. short-fit (octets_of pool v) (span-passes pool v (judge_short_str (octets_of pool v)) e);
      length-words = λ v. refl;
      words_back = λ v more. refl;
      kept = λ v t. refl;
    }
