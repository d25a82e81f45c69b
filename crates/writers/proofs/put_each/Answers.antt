-- `writers::put_each` meets its contract. Assumes nothing.
use mathlib.Core.Path.{sym, ap, ◌∙◌}
use mathlib.Core.List.{List}
use Prim.Native.Nat.{◌+◌}
use native.Mathlib.Numerals.{add-one}
use native.Mathlib.Omega.{arith}
use lib.ListN.{set, get_or, length-set}
use lib.Seq.{paste, paste-suc}
use Rattle.writers.proofs.WriterLaws.{paste_all}
use Rattle.writers.proofs.put_each.Goals as goal

pub loop-i-preserved : goal.loop-i-preserved
loop-i-preserved c =
    let a = c.args in
    let l = c.loop-i in (
      ap (λ (o : List _). set o (a.at + l.i) (get_or a.s.now l.i 0)) l.invariant.0
          ∙ paste-suc a.out.now a.at a.s.now l.i 0 (omega arith) (omega arith)
          ∙ ap (paste a.out.now a.at a.s.now) (sym (add-one l.i)),
      simp length-set l.invariant.1,
    )

pub returns : goal.returns
returns c =
    let a = c.args in
    let l = c.loop-i in
    l.invariant.0 ∙ paste_all a.out.now a.at a.s.now l.i (omega arith)
