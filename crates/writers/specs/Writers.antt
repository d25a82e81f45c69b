-- The writers of numbers, octets and strings at a place of an output, with their refusals in document 01's order. Want of space
-- (11) comes last in each.
use Rattle.std.specs.Prelude.{cond, ℕ, ◌+◌, List, length, leb}
use Rattle.std.specs.Prelude.{Option, None, Some}
use Rattle.types.specs.Answer.{Refusal, given, refused, no_space}
use Rattle.types.specs.Octets.{octets}
use Rattle.types.specs.Strings.{short_str, long_str, judge_short_str, judge_length}
use Rattle.types.specs.Memory.{splice, Outcome, outcome}

-- a writer that would write the octets xs at a place of its output: what it refuses, then the space, then the octets and the next place
unfoldable pub write_at : Option Refusal → List ℕ → ℕ → List ℕ → Outcome Unit
write_at (Some r) xs at out = outcome (refused r) out
write_at None xs at out =
    cond (leb (at + length xs) (length out)) (outcome (given tt (at + length xs)) (splice at xs out)) (outcome (refused no_space) out)

-- a number of k octets
unfoldable pub write_uint : ℕ → ℕ → ℕ → List ℕ → Outcome Unit
write_uint k n at out = write_at None (octets k n) at out

-- octets as they are
unfoldable pub write_octets : List ℕ → ℕ → List ℕ → Outcome Unit
write_octets xs at out = write_at None xs at out

-- over 255 octets (2), then not UTF-8 (4)
unfoldable pub write_short_str : List ℕ → ℕ → List ℕ → Outcome Unit
write_short_str xs at out = write_at (judge_short_str xs) (short_str xs) at out

-- a length over 4,294,967,295 (9)
unfoldable pub write_long_str : List ℕ → ℕ → List ℕ → Outcome Unit
write_long_str xs at out = write_at (judge_length (length xs)) (long_str xs) at out
