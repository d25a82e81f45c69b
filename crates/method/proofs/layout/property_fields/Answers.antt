-- `method::layout::property_fields` meets its contract, field by field. Assumes nothing.
use mathlib.Core.Path.{refl}
use Rattle.method.specs.Properties.{properties}
use Rattle.method.proofs.layout.property_fields.Goals as goal

pub returns : goal.returns
unfolding properties
returns c =
    refl
