use lib.ListN.{length}
use Rattle.tables.specs.Letters.{errata}
use Rattle.table_reader.proofs.FillLaws.{Going}
use Prim.Native.Nat.{◌+◌, ◌-◌, ◌*◌}
use Rattle.table_reader.proofs.fill.+fill_entries_fill_value.Given as goal

abbrev pub decreases-fill_entries : goal.decreases-fill_entries
decreases-fill_entries l = l.levels * 2 + 1

abbrev pub decreases-fill_value : goal.decreases-fill_value
decreases-fill_value l = l.levels * 2

abbrev pub invariant-fill_entries-loop-here : goal.invariant-fill_entries-loop-here
invariant-fill_entries-loop-here l = Going errata l.levels l.named l.s l.fn.body.start l.end l.initial.tape l.k l.tape l.here.at l.record

abbrev pub decreases-fill_entries-loop-here : goal.decreases-fill_entries-loop-here
decreases-fill_entries-loop-here l = length l.initial.tape - l.record
