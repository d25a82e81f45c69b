-- `payload_words::command_from` meets its contract. Assumes nothing.
use Rattle.payload_words.proofs.PayloadLaws.{large-refused}
use Rattle.payload_words.proofs.command_from.Goals as goal

pub returns-in_default : goal.returns-in_default
returns-in_default c =
    rw (c.low_u16.ensures, c.low_u16-2.ensures) (large-refused c.args.words (λ p q. c.in_default.ensures p))

pub returns-in_default-try_from : goal.returns-in_default-try_from
returns-in_default-try_from c =
    rw (c.low_u16.ensures, c.low_u16-2.ensures) (large-refused c.args.words (λ p q. c.in_default-try_from.ensures q))
