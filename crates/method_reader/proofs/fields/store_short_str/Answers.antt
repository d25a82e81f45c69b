-- `method_reader::fields::store_short_str` meets its contract. Assumes nothing.
use mathlib.Core.Path.{refl}
use Rattle.std.proofs.Common.{rules}
use Rattle.method.specs.Reading.{arg_at}
use Rattle.method_reader.proofs.FieldLaws.{stored_refused, stored-given, two-put}
use Rattle.method_reader.proofs.fields.store_short_str.Goals as goal

pub returns-in_err-v : goal.returns-in_err-v
unfolding arg_at
returns-in_err-v c =
    stored_refused _ _ _ _ _ _ _ _ _ c.in_err-v.ensures (search rules)

pub returns : goal.returns
unfolding arg_at
returns c =
    stored-given _ _ _ _ _ _ _ _ _ _ c.in_ok-v.ensures refl c.requires
    (two-put c.args.words.now c.copy_from_slice.new.self c.in_ok-v.v.start c.in_ok-v.v.len c.requires (search rules))
