-- The laws of a bit octet.
use mathlib.Core.Path.{◌≡◌, refl}
use mathlib.Core.Bool.{Bool, true, false}
use Rattle.std.specs.Prelude.{Option, None, Some}
use mathlib.Core.List.{List, [], ◌∷◌}
use Prim.Native.Nat.{ℕ, ◌+◌, ◌*◌, ◌^◌, ◌/◌, ◌%◌, ◌≤◌, ◌<◌}
use native.Mathlib.Omega.{arith}
use native.Mathlib.Nat.{two-pow-succ}
use lib.Dec.{leb, eqb}
use lib.ListN.{length}
use lib.Pow.{pow_mono}
use Rattle.bits.specs.Flags.{bit}
use Rattle.bits.proofs.FlagLaws.{bit-small}
use Rattle.types.specs.Answer.{given}
use Rattle.types.specs.Octets.{uint_at}
use Rattle.types.proofs.Chain.{then-go, given-next}
use Rattle.types.proofs.Tests.{yes_leb}
use Rattle.types.proofs.RoundTrip.{number-here, number_past, number-move}
use Rattle.tables.specs.Letters.{Letters}
use Rattle.method.specs.Kinds.Bits.{Flags, octet_of, flags_in, written_at, packed, flags_from, bits_kind}
use Rattle.method.proofs.Kind.{KindLaws}
use Rattle.method.proofs.NumberLaws.{nothing-long}

pub written_next : {A : Type 0} (p : ℕ) (o : Option A) (q : ℕ) (a : A) (n : ℕ) → written_at p o q ≡ given a n → q ≡ n
written_next p None q a n e = let z : ◌≡◌ {A = ℕ} 0 1 = cc in absurd (omega arith)
written_next p (Some x) q a n e = given-next x a q n e

bit-odd : (b : Bool) (n : ℕ) → eqb ((bit b + 2 * n) % 2) 1 ≡ b
bit-odd true n = let e : (1 + 2 * n) % 2 ≡ 1 = omega arith in rw e
bit-odd false n = let e : (0 + 2 * n) % 2 ≡ 0 = omega arith in rw e

bit-half : (b : Bool) (n : ℕ) → (bit b + 2 * n) / 2 ≡ n
bit-half true n = omega arith
bit-half false n = omega arith

pub flags-back : (places : List Bool) (flags : Flags places) → flags_in places (octet_of places flags) ≡ Some flags
unfolding octet_of flags_in
flags-back [] flags = refl
flags-back (false ∷ places) flags =
    let n = octet_of places flags in
    let even : 2 * n % 2 ≡ 0 = omega arith in
    let half : 2 * n / 2 ≡ n = omega arith in
    rw (even, half) (flags-back places flags)
flags-back (true ∷ places) flags =
    let n = octet_of places flags.1 in
    rw (bit-odd flags.0 n, bit-half flags.0 n, flags-back places flags.1)

octet-lt : (places : List Bool) (flags : Flags places) → octet_of places flags < 2 ^ length places
unfolding octet_of
octet-lt [] flags = omega arith
octet-lt (false ∷ places) flags = omega (arith, octet-lt places flags, two-pow-succ (length places))
octet-lt (true ∷ places) flags = omega (arith, octet-lt places flags.1, two-pow-succ (length places), bit-small flags.0)

pub octet-small : (places : List Bool) (flags : Flags places) → length places ≤ 8 → octet_of places flags < 256 ^ 1
octet-small places flags h = omega (arith, octet-lt places flags, pow_mono h)

bit-one : (f : Bool) → eqb (bit f) 1 ≡ f
bit-one true = refl
bit-one false = refl

pub flags-word : (places : List Bool) (flags : Flags places) → flags_from places (packed places flags) ≡ flags
flags-word [] flags = refl
flags-word (false ∷ places) flags = flags-word places flags
flags-word (true ∷ places) flags =
    let f = flags.0 in
    let n = packed places flags.1 in
    let odd : (bit f + 2 * n) % 2 ≡ bit f = omega (arith, bit-small f) in
    let half : (bit f + 2 * n) / 2 ≡ n = omega (arith, bit-small f) in
    rw (odd, half, bit-one f, flags-word places flags.1)

abbrev pub bits_laws : (letters : Letters) (places : List Bool) → KindLaws letters (bits_kind places)
bits_laws letters places =
    record {
      within =
          λ s p room v q e.
          then-go (uint_at 1 s p) _ v q e
          (λ n r e1 h1.
          let a = number-move 1 s p n r e1 in
          let m = written_next p (flags_in places n) r v q h1 in
          record { far = omega (arith, a.0); inside = omega (arith, a.1); fits = omega arith });
      typed = λ s p room v q o e. tt;
      used-tape = λ v. refl;
      Fit = λ flags. length places ≤ 8;
      place = λ p flags. flags;
      here = λ v room f c h. rw (number-here 1 (octet_of places v) (octet-small places v f) h, flags-back places v);
      cut = λ {s} {p} v room f c. rw (number_past 1 s p (omega (arith, c.less)));
      tape-size = λ v p. refl;
      back = λ v more f h. refl;
      sound = leb (length places) 8;
      few = λ b pool tape v e l. omega arith;
      long = λ x r e. nothing-long r e;
      no_user = true;
      no_nul = λ e v. tt;
      fit = λ o b pool tape v t e l z. yes_leb (length places) 8 b;
      length-words = λ v. refl;
      words_back = λ v more. flags-word places v;
      kept = λ v t. refl;
    }
