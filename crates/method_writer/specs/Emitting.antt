-- What the second pass writes. It goes over what the first has accepted, with space for all of it, so there is no refusal.
use Rattle.std.specs.Prelude.{List, ℕ, ◌+◌, ◌≤◌, length}
use Rattle.method_writer.specs.Sizes.{Size, octets, long, refused}

-- what is asked before: arguments that are accepted, octets that have space
abbrev pub Ready : Size → ℕ → List ℕ → Type 0
Ready (octets n) at out = at + n ≤ length out
Ready long at out = ⊥
Ready (refused r) at out = ⊥
