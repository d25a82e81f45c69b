use Rattle.method.specs.Present.{present_fields}
use Rattle.method_writer.proofs.EmitLaws.{Going}
use Rattle.method_writer.proofs.emit.emit_fields.Given as goal

abbrev pub invariant-loop-field : goal.invariant-loop-field
invariant-loop-field l = Going l.pool l.tape (present_fields l.fn.fields) l.fn.words l.from l.initial.out (present_fields l.field-iterator) l.rest l.at l.out
