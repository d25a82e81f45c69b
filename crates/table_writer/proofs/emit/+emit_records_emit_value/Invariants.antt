use Prim.Native.Nat.{◌+◌, ◌-◌}
use Rattle.tables.specs.Letters.{errata}
use Rattle.table_writer.proofs.EmitSteps.{Going}
use Rattle.table_writer.proofs.emit.+emit_records_emit_value.Given as goal

abbrev pub decreases-emit_records : goal.decreases-emit_records
decreases-emit_records l = l.levels + l.levels + 1

abbrev pub decreases-emit_value : goal.decreases-emit_value
decreases-emit_value l = l.levels + l.levels

abbrev pub invariant-emit_records-loop-i : goal.invariant-emit_records-loop-i
invariant-emit_records-loop-i l = Going errata l.named l.source.pool.now l.levels l.source.tape.now l.first l.end l.initial.out l.at l.out l.here l.i

abbrev pub decreases-emit_records-loop-i : goal.decreases-emit_records-loop-i
decreases-emit_records-loop-i l = l.end - l.i
