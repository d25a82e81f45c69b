use Prim.Native.Nat.{◌+◌, ◌-◌, ◌*◌}
use Rattle.tables.specs.Letters.{errata}
use Rattle.table_writer.proofs.PassLaws.{Kept}
use Rattle.table_writer.proofs.judge.+judge_records_judge_value.Given as goal

abbrev pub decreases-judge_records : goal.decreases-judge_records
decreases-judge_records l = 2 * l.levels + 1

abbrev pub decreases-judge_value : goal.decreases-judge_value
decreases-judge_value l = 2 * l.levels

abbrev pub invariant-judge_records-loop-i : goal.invariant-judge_records-loop-i
invariant-judge_records-loop-i l = Kept errata l.levels l.named l.source.pool.now l.source.tape.now l.end l.first l.i l.size

abbrev pub decreases-judge_records-loop-i : goal.decreases-judge_records-loop-i
decreases-judge_records-loop-i l = l.end - l.i
