use Rattle.tables.specs.Letters.{errata}
use Rattle.table_reader.proofs.CountingLaws as laws
use Prim.Native.Nat.{◌+◌, ◌-◌, ◌*◌}
use Rattle.table_reader.proofs.judge.+judge_entries_judge_value.Given as goal

abbrev pub decreases-judge_entries : goal.decreases-judge_entries
decreases-judge_entries l = 2 * l.levels + 1

abbrev pub decreases-judge_value : goal.decreases-judge_value
decreases-judge_value l = 2 * l.levels

abbrev pub invariant-judge_entries-loop-here : goal.invariant-judge_entries-loop-here
invariant-judge_entries-loop-here l = laws.Kept errata l.levels l.named l.s l.room l.fn.body.start l.end l.here.at l.count

abbrev pub decreases-judge_entries-loop-here : goal.decreases-judge_entries-loop-here
decreases-judge_entries-loop-here l = l.end - l.here.at
