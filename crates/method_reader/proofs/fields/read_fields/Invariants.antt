use Rattle.method.specs.Present.{present_fields}
use Rattle.method_reader.proofs.FieldLaws.{Going}
use Rattle.method_reader.proofs.fields.read_fields.Given as goal

abbrev pub invariant-loop-field : goal.invariant-loop-field
invariant-loop-field l = Going (present_fields l.initial.field-iterator) l.s l.initial.at.at l.room l.initial.words l.words l.table l.left l.at l.j (present_fields l.field-iterator)
