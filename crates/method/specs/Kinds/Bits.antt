-- A bit octet, lowest bit first: a flag in each place that is true.
use Rattle.std.specs.Prelude.{Bool, true, false, cond, List, [], ◌∷◌, ℕ, ◌+◌, ◌*◌, ◌/◌, ◌%◌, get_or, eqb}
use Rattle.std.specs.Prelude.{Option, None, Some}
use Rattle.bits.specs.Flags.{bit}
use Rattle.types.specs.Answer.{Answer, given, refused, not_written, and_then}
use Rattle.types.specs.Octets as number
use Rattle.types.specs.Octets.{uint_at}
use Rattle.method.specs.Kinds.{FieldKind}

abbrev pub Flags : List Bool → Type 0
Flags [] = Unit {0}
Flags (false ∷ places) = Flags places
Flags (true ∷ places) = Bool × Flags places

-- the octet: 0 in the places without a flag
unfoldable pub octet_of : (places : List Bool) → Flags places → ℕ
octet_of [] flags = 0
octet_of (false ∷ places) flags = 2 * octet_of places flags
octet_of (true ∷ places) flags = bit flags.0 + 2 * octet_of places flags.1

-- the flags of an octet n; none if a bit without one is set
abbrev pub with_flag : {A : Type 0} → Bool → Option A → Option (Bool × A)
with_flag f None = None
with_flag f (Some flags) = Some (f, flags)

unfoldable pub flags_in : (places : List Bool) → ℕ → Option (Flags places)
flags_in [] n = cond (eqb n 0) (Some tt) None
flags_in (false ∷ places) n = cond (eqb (n % 2) 1) None (flags_in places (n / 2))
flags_in (true ∷ places) n = with_flag (eqb (n % 2) 1) (flags_in places (n / 2))

-- a field at p whose value is none is NotWritten there
abbrev pub written_at : {A : Type 0} → ℕ → Option A → ℕ → Answer A
written_at p None q = refused (not_written p)
written_at p (Some a) q = given a q

-- the flags alone as a word, the first one lowest, and back

abbrev pub packed : (places : List Bool) → Flags places → ℕ
packed [] flags = 0
packed (false ∷ places) flags = packed places flags
packed (true ∷ places) flags = bit flags.0 + 2 * packed places flags.1

abbrev pub flags_from : (places : List Bool) → ℕ → Flags places
flags_from [] n = tt
flags_from (false ∷ places) n = flags_from places n
flags_from (true ∷ places) n = (eqb (n % 2) 1, flags_from places (n / 2))

abbrev pub bits_kind : List Bool → FieldKind
bits_kind places =
    record {
      Meaning = Flags places;
      Located = Flags places;
      Pooled = Flags places;
      pooled = λ flags. flags;
      meaning = λ pool t flags. flags;
      at = λ letters s p room. and_then (uint_at 1 s p) (λ n q. written_at p (flags_in places n) q);
      octets = λ letters flags. number.octets 1 (octet_of places flags);
      judge = λ letters pool tape flags. None;
      judge_length = λ letters flags. None;
      Typed = λ flags. Unit {0};
      NoNul = λ flags. Unit {0};
      tape = λ flags. [];
      start = λ flags. 0;
      used = λ flags. 0;
      values = λ flags. 0;
      width = 1;
      words = λ flags. packed places flags ∷ [];
      from = λ ws. flags_from places (get_or ws 0 0);
      cut = λ flags. flags;
    }
