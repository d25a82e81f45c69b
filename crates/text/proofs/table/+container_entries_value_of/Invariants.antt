use Rattle.std.proofs.Common.{◌+◌, ◌*◌}
use Rattle.text.proofs.table.+container_entries_value_of.Given as goal

abbrev pub decreases-container : goal.decreases-container
decreases-container l = 3 * l.levels + 2

abbrev pub decreases-entries : goal.decreases-entries
decreases-entries l = 3 * l.levels + 1

abbrev pub decreases-value_of : goal.decreases-value_of
decreases-value_of l = 3 * l.levels
