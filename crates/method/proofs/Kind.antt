-- What is proved of a kind of argument: where its reader ends, that what its writer accepts is read back and cut short is Truncated, and its words.
-- Each kind has a file of them, and lists of fields go by these laws alone.
use mathlib.Core.Path.{◌≡◌}
use mathlib.Core.Bool.{Bool, true}
use Rattle.std.specs.Prelude.{None, Some}
use mathlib.Core.List.{List, [], ◌++◌}
use Prim.Native.Nat.{ℕ, ◌+◌, ◌≤◌}
use lib.ListN.{length, take}
use Rattle.types.specs.Answer.{Refusal, given, refused, truncated, too_long}
use Rattle.types.proofs.NumberLaws as number
use Rattle.types.proofs.Standing.{Stands, Cut}
use Rattle.tables.specs.Letters.{Letters}
use Rattle.tables.specs.Forest.{meaning_of}
use Rattle.tables.specs.Tape.{Record, forest_of}
use Rattle.tables.specs.Writing.{tape_meaning}
use Rattle.tables.proofs.JudgeLaws.{Octets}
use Rattle.method.specs.Kinds.{FieldKind}

-- from p to q within the octets, with k records in the room
pub record Within (s : List ℕ) (p room q k : ℕ) : Type 0 where
  pub far : p ≤ q
  pub inside : q ≤ length s
  pub fits : k ≤ room

-- no tape records, and its reader asks for no room
pub record Tableless (K : FieldKind) : Type 0 where
  pub no-tape : (v : K.Located) → K.tape v ≡ []
  pub no_room : (letters : Letters) (s : List ℕ) (p room : ℕ) → K.at letters s p 0 ≡ K.at letters s p room

pub record KindLaws (letters : Letters) (K : FieldKind) : Type 1 where
  -- Read: where its reader ends, the range of what it gives, and its tape records
  pub within : (s : List ℕ) (p room : ℕ) (v : K.Located) (q : ℕ) → K.at letters s p room ≡ given v q → Within s p room q (length (K.tape v))
  pub typed : (s : List ℕ) (p room : ℕ) (v : K.Located) (q : ℕ) → number.Octets s → K.at letters s p room ≡ given v q → K.Typed (K.pooled v)
  pub used-tape : (v : K.Located) → K.used (K.pooled v) ≡ length (K.tape v)
  -- Read back: what fits, and where it stands when its octets begin at p
  pub Fit : K.Meaning → Type 0
  pub place : ℕ → K.Meaning → K.Located
  pub here : {s : List ℕ} {p : ℕ} (v : K.Meaning) (room : ℕ) → Fit v → K.values v ≤ room → Stands s p (K.octets letters v)
      → K.at letters s p room ≡ given (place p v) (p + length (K.octets letters v))
  pub cut : {s : List ℕ} {p : ℕ} (v : K.Meaning) (room : ℕ) → Fit v → Cut s p (K.octets letters v) → K.at letters s p room ≡ refused truncated
  pub tape-size : (v : K.Meaning) (p : ℕ) → length (K.tape (place p v)) ≡ K.values v
  pub back : {s : List ℕ} {p : ℕ} (v : K.Meaning) (more : List Record) → Fit v → Stands s p (K.octets letters v)
      → let x = K.pooled (place p v) in K.meaning s (meaning_of letters s (forest_of (take (K.used x) (K.tape (place p v) ++ more)))) x ≡ v
  -- Written, if the kind is sound (a number has eight octets at most, a bit octet eight places): what a writer accepts has few octets, and it fits if
  -- no user has a NUL, which some kinds cannot have
  pub sound : Bool
  pub few : sound ≡ true → (pool tape : List ℕ) (v : K.Pooled) → let x = K.meaning pool (tape_meaning letters pool tape) v in
      K.judge letters pool tape v ≡ None → K.judge_length letters x ≡ None → length (K.octets letters x) ≤ 4294967299
  pub long : (x : K.Meaning) (r : Refusal) → K.judge_length letters x ≡ Some r → r ≡ too_long
  pub no_user : Bool
  pub no_nul : no_user ≡ true → (v : K.Meaning) → K.NoNul v
  pub fit : Octets letters → sound ≡ true → (pool tape : List ℕ) (v : K.Pooled) → let x = K.meaning pool (tape_meaning letters pool tape) v in
      K.Typed v → K.judge letters pool tape v ≡ None → K.judge_length letters x ≡ None → K.NoNul x → Fit x
  -- Words
  pub length-words : (v : K.Pooled) → length (K.words v) ≡ K.width
  pub words_back : (v : K.Pooled) (more : List ℕ) → K.from (K.words v ++ more) ≡ v
  pub kept : (v : K.Pooled) → K.Typed v → K.cut v ≡ v
