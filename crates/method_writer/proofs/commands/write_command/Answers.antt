use mathlib.Core.Path.{◌∙◌}
use Rattle.tables.specs.Letters.{errata}
use Rattle.method.specs.AnswerOf.{command_of}
use Rattle.method_words.proofs.CallLaws.{call_back}
use Rattle.method_writer.proofs.WriteLaws.{call-written}
use Rattle.method_writer.proofs.commands.write_command.Goals as goal

pub returns : goal.returns
returns c =
    let a = c.args in c.write_call.ensures ∙ call-written errata a.pool.now a.tape.now (command_of a.command) c.call_of.result (call_back a.command c.call_of.result c.call_of.ensures) a.at a.out.now
