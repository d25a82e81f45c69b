-- `method_reader::commands::read_command` meets its contract. Assumes nothing.
use Rattle.tables.specs.Letters.{errata}
use Rattle.method_reader.proofs.KeptLaws.{call_known, call_there}
use Rattle.method_reader.proofs.commands.read_command.Goals as goal

pub unwrap-value-requires : goal.unwrap-value-requires
unwrap-value-requires c =
    let a = c.args in call_there errata a.s.now a.at.at a.used a.tape.now (λ i. (c.type_inv.s i).fits) _ _ _ _ _ c.in_ok-call.ensures _ c.known_command.ensures

pub returns : goal.returns
returns c =
    let a = c.args in
    call_known errata a.s.now a.at.at a.used a.tape.now (λ i. (c.type_inv.s i).fits) _ _ _ _ _ c.in_ok-call.ensures _ (rw c.unwrap-value.ensures at c.known_command.ensures)
