-- `method_reader::fields::store_login` meets its contract. Assumes nothing.
use mathlib.Core.Path.{refl, ◌∙◌}
use Rattle.std.proofs.Common.{rules}
use Rattle.method_reader.proofs.FieldLaws.{stored_refused, stored-given, four-put}
use Rattle.method_reader.proofs.fields.store_login.Goals as goal

pub returns-in_err-login : goal.returns-in_err-login
returns-in_err-login c =
    stored_refused _ _ _ _ _ _ _ _ _ c.in_err-login.ensures (search rules)

pub returns : goal.returns
returns c =
    stored-given _ _ _ _ _ _ _ _ _ _ c.in_ok-login.ensures refl c.requires
    (four-put c.args.words.now c.copy_from_slice.new.self c.copy_from_slice-2.new.self _ _ _ _ c.requires
    (c.copy_from_slice.ensures.after ∙ c.to_words.ensures) (c.copy_from_slice-2.ensures.after ∙ c.to_words-2.ensures))
