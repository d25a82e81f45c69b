-- `writers::put_part` meets its contract: the octets go into the part, and from it into the output. Assumes nothing.
use mathlib.Core.Path.{◌≡◌, sym, ap, ◌∙◌}
use mathlib.Core.List.{List}
use Prim.Native.Nat.{◌+◌}
use native.Mathlib.Numerals.{add-one}
use native.Mathlib.Omega.{arith}
use lib.ListN.{set, get_or, length-set}
use lib.Seq.{paste, paste-suc}
use Rattle.writers.proofs.WriterLaws.{part-all}
use Rattle.writers.proofs.put_part.Goals as goal

pub loop-j-preserved : goal.loop-j-preserved
loop-j-preserved c =
    let a = c.args in
    let part = c.loop-i.part in
    let l = c.loop-j in (
      ap (λ (o : List _). set o (a.to + l.j) (get_or part l.j 0)) l.invariant.0
          ∙ paste-suc a.out.now a.to part l.j 0 (omega arith) (omega arith)
          ∙ ap (paste a.out.now a.to part) (sym (add-one l.j)),
      simp length-set l.invariant.1,
    )

pub returns : goal.returns
returns c =
    let a = c.args in
    let l = c.loop-i in
    let m = c.loop-j in
    let i : l.i ≡ a.k = omega arith in
    let j : m.j ≡ a.k = omega arith in
    m.invariant.0
    ∙ ap (paste a.out.now a.to l.part) j
    ∙ part-all a.out.now l.part a.s.now a.to a.from a.k (omega arith) (rw i at l.invariant.0)
