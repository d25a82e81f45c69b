-- A number of k octets.
use Rattle.std.specs.Prelude.{None}
use Rattle.std.specs.Prelude.{[], ◌∷◌, ℕ, ◌^◌, ◌%◌, ◌<◌, get_or}
use Rattle.types.specs.Octets as number
use Rattle.types.specs.Octets.{uint_at}
use Rattle.method.specs.Kinds.{FieldKind}

abbrev pub number_kind : ℕ → FieldKind
number_kind k =
    record {
      Meaning = ℕ;
      Located = ℕ;
      Pooled = ℕ;
      pooled = λ n. n;
      meaning = λ pool t n. n;
      at = λ letters s p room. uint_at k s p;
      octets = λ letters n. number.octets k n;
      judge = λ letters pool tape n. None;
      judge_length = λ letters n. None;
      Typed = λ n. n < 256 ^ k;
      NoNul = λ n. Unit {0};
      tape = λ n. [];
      start = λ n. 0;
      used = λ n. 0;
      values = λ n. 0;
      width = 1;
      words = λ n. n ∷ [];
      from = λ ws. get_or ws 0 0;
      cut = λ n. n % 256 ^ k;
    }
