-- `utf8::is_ascii` meets its contract. Assumes nothing.
use mathlib.Core.Path.{◌≡◌, refl, sym, ap, ◌∙◌}
use mathlib.Core.List.{List, [], ◌++◌, append_assoc}
use Prim.Native.Nat.{ℕ, ◌-◌}
use native.Mathlib.Omega.{arith}
use lib.ListN.{length, take, length-append, length-drop}
use lib.Seq.{take_all, length-take-le}
use Rattle.utf8.proofs.ScanLaws.{ascii-none, ascii-all, ascii-more, ascii-over}
use Rattle.utf8.proofs.is_ascii.Goals as goal

pub returns-then-n-lt8 : goal.returns-then-n-lt8
returns-then-n-lt8 c =
    λ e. ascii-all _ _ refl (c.ascii_part.ensures e)

pub loop-eight-init : goal.loop-eight-init
loop-eight-init c =
    let r = c.chunks_exact-eight-items.ensures in
    let i = c.into_iter-eight-iterator.ensures.into_iter_gives in
    ([], rw i (sym r.rest), ascii-none _ _ _ (omega arith), rw i r.size)

pub loop-eight-preserved : goal.loop-eight-preserved
loop-eight-preserved c =
    let l = c.loop-eight.invariant in
    let s = c.in-Some.ensures.steps in
    let x = c.in-Some.eight.now in (
      l.0 ++ x,
      l.1 ∙ ap (λ (rest : List ℕ). l.0 ++ rest) s.1.0 ∙ sym (append_assoc l.0 x c.next.new.self.rest.now),
      ascii-more _ _ l.2 (c.ascii_part-in-loop-eight.ensures c.if-not-ascii_part.false),
      s.0 ∙ l.3,
    )

pub returns : goal.returns
returns c =
    let l = c.loop-eight.invariant in
    let s = c.args.s.now in
    let n = length s in
    let left = c.loop-eight.eight-iterator.rest.now in
    let before : length (take (n - 1) s) ≡ n - 1 = length-take-le (n - 1) s (omega arith) in
    λ e.
    ascii-over s l.0 left (n - 1) (n - 8) l.1 l.2 (take_all _ _ (omega (arith, length-drop (n - 8) s))) (c.ascii_part-2.ensures e) (omega (arith, before, ap length l.1, length-append l.0 left, l.3, c.in-None.ensures.steps))
