-- A payload's words as they are put together and taken apart; no command has a class or method of more than 16 bits.
use mathlib.Core.Path.{◌≡◌, refl, sym, ap, ◌∙◌}
use mathlib.Core.Bool.{Bool, true, ◌&&◌}
use mathlib.Core.Logic.{inr}
use Rattle.std.specs.Prelude.{None}
use mathlib.Core.List.{List, [], ◌∷◌}
use Prim.Native.Nat.{ℕ, ◌%◌, ◌<◌}
use native.Mathlib.Omega.{arith}
use borrow.Author.Tests.{eqb-true}
use lib.ListN.{length, take, drop, get_or, length-drop}
use lib.Seq.{take_all}
use lib.Dec.{leb, eqb}
use Rattle.types.specs.Answer.{unknown_method}
use Rattle.types.proofs.Tests.{yes_leb, decide}
use Rattle.tables.proofs.JudgeLaws.{and-true}
use Rattle.method.specs.Fields.{Pooled}
use Rattle.method.specs.Commands.{Row, commands, fields_in, known}
use Rattle.method.specs.Properties.{Header}
use Rattle.method.proofs.LayoutLaws.{every}
use Rattle.method_words.specs.Words.{command_with, header_with}
use Rattle.payload_words.specs.Words.{command_or, command_from, header_from}

abbrev small : Row → Bool
small r = leb r.class 65535 && leb r.method 65535

none_in : (rs : List Row) (c m : ℕ) → every small rs ≡ true → (c < 65536 → m < 65536 → ⊥) → fields_in rs c m ≡ None
none_in [] c m e h = refl
none_in (r ∷ rs) c m e h =
    let a = and-true (small r) (every small rs) e in
    let b = and-true (leb r.class 65535) (leb r.method 65535) a.0 in
    decide (eqb c r.class && eqb m r.method)
    (λ y.
    let p = and-true (eqb c r.class) (eqb m r.method) y in
    absurd (h (omega (arith, eqb-true c r.class p.0, yes_leb r.class 65535 b.0)) (omega (arith, eqb-true m r.method p.1, yes_leb r.method 65535 b.1))))
    (λ n. rw n (none_in rs c m a.1 h))

pub large-unknown : (c m : ℕ) (ws : List ℕ) → (c < 65536 → m < 65536 → ⊥) → command_with c m ws ≡ None
unfolding command_with known
large-unknown c m ws h = rw (none_in commands c m (unfold commands in refl) h)

-- class and method of more than 16 bits
pub large-refused : (ws : List ℕ) → (get_or ws 1 0 < 65536 → get_or ws 2 0 < 65536 → ⊥) → inr (unknown_method (get_or ws 1 0 % 65536) (get_or ws 2 0 % 65536)) ≡ command_from ws
large-refused ws h = ap (command_or (get_or ws 1 0) (get_or ws 2 0)) (sym (large-unknown (get_or ws 1 0) (get_or ws 2 0) (take 8 (drop 3 ws)) h))

-- the words of an argument are a part of the 26
pub header-taken : (ws words : List ℕ) (x : Header Pooled) → length ws ≡ 26 → words ≡ take 22 (drop 4 ws)
    → x ≡ header_with (get_or ws 1 0 % 65536) (get_or ws 2 0) (get_or ws 3 0 % 65536 % 8192) words → x ≡ header_from ws
header-taken ws words x l a h =
    let bits : get_or ws 3 0 % 65536 % 8192 ≡ get_or ws 3 0 % 8192 = omega arith in
    let whole : words ≡ drop 4 ws = a ∙ take_all 22 (drop 4 ws) (omega (arith, length-drop 4 ws)) in
    rw (h, bits, whole)
