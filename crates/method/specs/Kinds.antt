-- All that is said of a kind of argument: its forms, its octets, its reader, what its writer refuses, its words. Each kind is a file below.
use Rattle.std.specs.Prelude.{Option}
use Rattle.std.specs.Prelude.{List, ℕ}
use Rattle.types.specs.Answer.{Answer, Refusal}
use Rattle.tables.specs.Letters.{Letters}
use Rattle.tables.specs.Forest.{TableMeaning}
use Rattle.tables.specs.Tape.{Record}
pub mod Number
pub mod ShortStr
pub mod Bits
pub mod Login
pub mod Table

pub record FieldKind : Type 1 where
  -- what it means
  pub Meaning : Type 0
  -- as it is located in octets
  pub Located : Type 0
  -- over a pool, as a reader returns it and a writer takes it: a string as a span; of a table, which is on the tape, the number of its records
  pub Pooled : Type 0
  pub pooled : Located → Pooled
  -- what it means over a pool, where its table means t
  pub meaning : List ℕ → TableMeaning → Pooled → Meaning
  -- octets s at p, with room for so many tape records
  pub at : Letters → List ℕ → ℕ → ℕ → Answer Located
  pub octets : Letters → Meaning → List ℕ
  -- what is refused of it over a pool and a tape, and then of its length field of four octets
  pub judge : Letters → List ℕ → List ℕ → Pooled → Option Refusal
  pub judge_length : Letters → Meaning → Option Refusal
  -- the range that the writers' parameter types have; no NUL in a login's user
  pub Typed : Pooled → Type 0
  pub NoNul : Meaning → Type 0
  -- its tape records: those located, where their table begins, how many are pooled, how many it means
  pub tape : Located → List Record
  pub start : Located → ℕ
  pub used : Pooled → ℕ
  pub values : Meaning → ℕ
  -- its words of 64 bits: how many, which, and back
  pub width : ℕ
  pub words : Pooled → List ℕ
  pub from : List ℕ → Pooled
  -- as the code makes it from its words: a number is cut to its octets
  pub cut : Pooled → Pooled
