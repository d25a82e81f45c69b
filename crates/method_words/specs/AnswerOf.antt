-- What the answer of known_command says.
use Rattle.std.specs.Prelude.{Option, None, Some}
use Rattle.method.specs.Fields.{Pooled}
use Rattle.method.specs.Commands as table
use Rattle.method.specs.AnswerOf.{command_of}
use Rattle.method.specs.declared.Command.{Command}

abbrev pub command_of_known : Option Command → Option (table.Command Pooled)
command_of_known (Some x) = Some (command_of x)
command_of_known None = None
