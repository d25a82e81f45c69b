-- `payload_words::header_from` meets its contract. Assumes nothing.
use mathlib.Core.Path.{◌≡◌}
use lib.ListN.{length}
use Rattle.payload_words.proofs.PayloadLaws.{header-taken}
use borrow.Author.Rules.{rules}
use Rattle.payload_words.proofs.header_from.Goals as goal

pub returns : goal.returns
returns c =
    let all_words : length c.args.words ≡ 26 = search rules in
    header-taken c.args.words _ _ all_words c.copy_from_slice.ensures.after (rw (c.low_u16.ensures, c.low_u16-2.ensures) at c.header_of.ensures)
