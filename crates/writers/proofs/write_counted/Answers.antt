-- `writers::write_counted` meets its contract. Assumes nothing.
use mathlib.Core.Path.{sym, ap, ◌∙◌}
use Prim.Native.Nat.{ℕ, ◌+◌}
use native.Mathlib.Omega.{arith}
use Rattle.types.specs.Octets.{number_width}
use Rattle.types.specs.Memory.{splice}
use Rattle.types.proofs.Tests.{yes_leb}
use Rattle.writers.proofs.WriterLaws.{counted-given}
use Rattle.writers.proofs.write_counted.Goals as goal

pub returns : goal.returns
returns c =
    rw c.octets-k.ensures
    (counted-given (number_width c.args.width) c.args.s.now c.args.at c.args.out.now (omega (arith, yes_leb _ _ (sym c.if-not-has_octets.ensures))) c.put_number.ensures
    (c.put_octets.ensures ∙ ap (λ (m : ℕ). splice (c.args.at + m) c.args.s.now c.put_number.new.out) c.octets-k.ensures))
