-- A writer's judgement: none, or the first refusal.
use Rattle.std.specs.Prelude.{Bool, cond}
use Rattle.std.specs.Prelude.{Option, None, Some}
use Rattle.types.specs.Answer.{Refusal}

-- a refusal where a test fails, and else what follows
abbrev pub test : Bool → Refusal → Option Refusal → Option Refusal
test b r more = cond b more (Some r)

-- one judgement, and then another
abbrev pub or_else : Option Refusal → Option Refusal → Option Refusal
or_else None more = more
or_else (Some r) more = Some r
