-- The laws of a number.
use mathlib.Core.Path.{◌≡◌, refl, sym}
use mathlib.Core.Bool.{true}
use Rattle.std.specs.Prelude.{None, Some}
use Prim.Native.Nat.{ℕ, ◌^◌, ◌<◌}
use native.Mathlib.Omega.{arith}
use native.Mathlib.Nat.{mod-eq_of_lt}
use lib.Dec.{leb}
use Rattle.types.specs.Answer.{Refusal}
use Rattle.types.proofs.Tests.{yes_leb}
use Rattle.types.proofs.NumberLaws.{length-octets, uint_at-lt}
use Rattle.types.proofs.RoundTrip.{number-here, number_past, number-move}
use Rattle.tables.specs.Letters.{Letters}
use Rattle.method.specs.Kinds.Number.{number_kind}
use Rattle.method.proofs.Kind.{KindLaws}

-- no length field of four octets
pub nothing-long : {A : Type 0} (r : Refusal) → None ≡ Some r → A
nothing-long r e = let z : ◌≡◌ {A = ℕ} 0 1 = cc in absurd (omega arith)

abbrev pub number_laws : (letters : Letters) (k : ℕ) → KindLaws letters (number_kind k)
number_laws letters k =
    record {
      within = λ s p room v q e. let a = number-move k s p v q e in record { far = omega (arith, a.0); inside = a.1; fits = omega arith };
      typed = λ s p room v q o e. uint_at-lt k s p o (sym e);
      used-tape = λ v. refl;
      Fit = λ n. n < 256 ^ k;
      place = λ p n. n;
      here = λ v room f c h. rw (length-octets k v) (number-here k v f h);
      cut = λ {s} {p} v room f c. number_past k s p (omega (arith, c.less, length-octets k v));
      tape-size = λ v p. refl;
      back = λ v more f h. refl;
      sound = leb k 8;
      few = λ b pool tape v e l. omega (arith, length-octets k v, yes_leb k 8 b);
      long = λ x r e. nothing-long r e;
      no_user = true;
      no_nul = λ e v. tt;
      fit = λ o b pool tape v t e l z. t;
      length-words = λ v. refl;
      words_back = λ v more. refl;
      kept = λ v t. mod-eq_of_lt t;
    }
