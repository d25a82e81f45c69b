-- The fields that are still to come of those present, by thirteen flags.
use Rattle.std.specs.Prelude.{List, map}
use Rattle.method.specs.Fields.{Field}
use Rattle.method.specs.Properties.{select, flags_of}
use Rattle.method.specs.Layout.{field_of}
use Rattle.method.specs.declared.present.PresentFields.{PresentFields}

abbrev pub present_fields : PresentFields → List Field
present_fields p = select (flags_of 13 p.flags) (map field_of p.layout.now)
