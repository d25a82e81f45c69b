-- `utf8::ascii_part` meets its contract. The invariant: as long as all octets were ASCII, those before the index are. Assumes nothing.
use mathlib.Core.Path.{◌≡◌, sym, ◌∙◌}
use Prim.Native.Nat.{ℕ}
use native.Mathlib.Omega.{arith}
use Rattle.std.proofs.lemmas.Bool.{ltb-true}
use Rattle.utf8.proofs.ScanLaws.{ascii-none, ascii-next}
use Rattle.utf8.proofs.ascii_part.Goals as goal
use Rattle.utf8.proofs.ascii_part.Goals.{then-not-is_ascii, else-not-is_ascii}

pub loop-octet-init : goal.loop-octet-init
loop-octet-init c =
    λ e. ascii-none _ _ _ (omega arith)

pub loop-octet-preserved : goal.loop-octet-preserved
loop-octet-preserved c =
    λ e.
    elim c.if-not-is_ascii.branch [ then-not-is_ascii w ↦ let z : ◌≡◌ {A = ℕ} 0 1 = cc in absurd (omega arith) | else-not-is_ascii w ↦ ascii-next _ _ _ (c.loop-octet.invariant (sym w.ascii-is ∙ e)) (omega (arith, ltb-true _ _ (sym c.is_ascii.ensures ∙ w.if-not-is_ascii.false))) ]
