-- What is written of a command in words: nothing where its class and method are not known.
use Rattle.std.specs.Prelude.{cond, List, ℕ}
use Rattle.types.specs.Answer.{refused, unknown_method}
use Rattle.types.specs.Memory.{Outcome, outcome}
use Rattle.tables.specs.Letters.{Letters}
use Rattle.method.specs.Commands.{known}
use Rattle.method.specs.Pooled.{write_command}
use Rattle.method.specs.Words.{command_from}
use Rattle.method_words.specs.declared.Call.{Call}

unfoldable pub write_call : Letters → List ℕ → List ℕ → Call → ℕ → List ℕ → Outcome Unit
write_call letters pool tape x at out =
    cond (known x.class x.method) (write_command letters pool tape (command_from x.class x.method x.words) at out)
    (outcome (refused (unknown_method x.class x.method)) out)
