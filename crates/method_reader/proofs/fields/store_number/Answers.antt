-- `method_reader::fields::store_number` meets its contract. Assumes nothing.
use mathlib.Core.Path.{refl}
use Rattle.std.proofs.Common.{rules}
use Rattle.method.specs.Reading.{arg_at}
use Rattle.method_reader.proofs.FieldLaws.{stored_refused, stored-given}
use Rattle.method_reader.proofs.fields.store_number.Goals as goal

pub returns-in_err-n : goal.returns-in_err-n
unfolding arg_at
returns-in_err-n c =
    stored_refused _ _ _ _ _ _ _ _ _ c.in_err-n.ensures (search rules)

pub returns : goal.returns
unfolding arg_at
returns c =
    stored-given _ _ _ _ _ _ _ _ _ _ c.in_ok-n.ensures refl c.requires refl
