-- What the second pass writes. It goes over what the first has accepted, with space for all of it, so there is no refusal.
use Rattle.std.specs.Prelude.{ℕ, ◌+◌, ◌*◌, ◌≤◌, ◌≡◌, List, [], length, Option, None}
use Rattle.types.specs.Answer.{Refusal}
use Rattle.types.specs.Memory.{splice}
use Rattle.tables.specs.Letters.{Kind, leaf, container, unknown}
use Rattle.tables.specs.Forest.{Words, leaf_meaning}
use Rattle.tables.specs.Tape.{tape_records}
use Rattle.tables.specs.Writing.{leaf_octets}

-- the octets xs were written at a place, and r is the place behind them
pub record Emitted (xs : List ℕ) (at : ℕ) (before after : List ℕ) (r : ℕ) : Type 0 where
  pub next : r ≡ at + length xs
  pub memory : after ≡ splice at xs before

-- what is asked before: records up to `end` on the tape that are judged, octets whose lengths can be written, and space for them
pub record Ready (judged : Option Refusal) (xs : List ℕ) (at : ℕ) (out : List ℕ) (end : ℕ) (tape : List ℕ) : Type 0 where
  pub passes : judged ≡ None
  pub lengths : length xs ≤ 4294967295 + 5
  pub space : at + length xs ≤ length out
  pub on_tape : end * tape_records.size ≤ length tape

-- the octets of a leaf's payload
abbrev pub leaf_payload : Kind → List ℕ → Words → List ℕ
leaf_payload (leaf l) pool x = leaf_octets l (leaf_meaning l pool x)
leaf_payload (container named) pool x = []
leaf_payload unknown pool x = []
