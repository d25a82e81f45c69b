-- The octet of the flags behind those that are left.
use mathlib.Core.Path.{◌≡◌}
use mathlib.Core.Bool.{Bool}
use mathlib.Core.List.{List, ◌++◌}
use Rattle.std.specs.Iterator.Adapters.{rev_source}
use Rattle.bits.specs.Flags.{pack_bits}
use Rattle.bits.proofs.pack_bits.Given as goal

abbrev pub invariant-loop-flag : goal.invariant-loop-flag
invariant-loop-flag l = (done : List Bool) × (l.fn.flags ≡ (rev_source l.flag-iterator).rest.now ++ done) × (l.n ≡ pack_bits done)
