-- `frame_reader::walk::Progress::put_entry` meets its contract. Assumes nothing.
use mathlib.Core.Path.{◌≡◌, sym, ap, ◌∙◌}
use mathlib.Core.List.{List, [], ◌∷◌, ◌++◌, append_assoc}
use Prim.Native.Nat.{ℕ, ◌+◌, ◌*◌, ◌-◌}
use native.Mathlib.Omega.{arith}
use lib.ListN.{take, drop}
use lib.Seq.{drop-drop}
use Rattle.types.specs.Memory.{splice}
use Rattle.frame_reader.proofs.walk.Progress.put_entry.Goals as goal

three-put : (l : List ℕ) (i first second third : ℕ) → take i l ++ first ∷ second ∷ third ∷ drop 3 (drop i l) ≡ splice i (first ∷ second ∷ third ∷ []) l
unfolding splice
three-put l i first second third = ap (λ (r : List ℕ). take i l ++ first ∷ second ∷ third ∷ r) (drop-drop 3 i l) ∙ sym (append_assoc (take i l) (first ∷ second ∷ third ∷ []) (drop (i + 3) l))

pub returns : goal.returns
returns c =
    let a = c.args in
    let three : a.self.frames * 3 + 3 - a.self.frames * 3 ≡ 3 = omega arith in
    rw (c.copy_from_slice.ensures.after, three) (three-put a.register.now (a.self.frames * 3) a.self.at a.self.used a.own)
