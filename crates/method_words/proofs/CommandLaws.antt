-- From the words of a pair to its command.
use mathlib.Core.Path.{◌≡◌, refl, sym}
use Rattle.std.specs.Prelude.{Option}
use mathlib.Core.List.{List, [], ◌∷◌}
use Prim.Native.Nat.{ℕ, ◌^◌, ◌%◌}
use native.Mathlib.Nat.{mod-eq_of_lt}
use native.Mathlib.Omega.{arith}
use mir.Syntax.{w64}
use mir.Val.{Fits}
use lib.ListN.{length, get_or}
use Rattle.method.specs.Fields.{Pooled}
use Rattle.method.specs.Commands.{Command}
use Rattle.method_words.specs.Words.{command_with}

-- a word is not changed by the cut to eight octets
pub word_kept : (n : ℕ) → Fits w64 n → n ≡ n % 256 ^ 8
word_kept n f = sym (mod-eq_of_lt f.fits)

-- eight words, one by one, so that what is made of them computes
abbrev pub eight : List ℕ → List ℕ
eight ws = get_or ws 0 0 ∷ get_or ws 1 0 ∷ get_or ws 2 0 ∷ get_or ws 3 0 ∷ get_or ws 4 0 ∷ get_or ws 5 0 ∷ get_or ws 6 0 ∷ get_or ws 7 0 ∷ []

eight-words : (ws : List ℕ) → length ws ≡ 8 → eight ws ≡ ws
eight-words (a ∷ b ∷ c ∷ d ∷ e ∷ f ∷ g ∷ h ∷ []) l = refl
eight-words [] l = absurd (omega arith)
eight-words (a ∷ []) l = absurd (omega arith)
eight-words (a ∷ b ∷ []) l = absurd (omega arith)
eight-words (a ∷ b ∷ c ∷ []) l = absurd (omega arith)
eight-words (a ∷ b ∷ c ∷ d ∷ []) l = absurd (omega arith)
eight-words (a ∷ b ∷ c ∷ d ∷ e ∷ []) l = absurd (omega arith)
eight-words (a ∷ b ∷ c ∷ d ∷ e ∷ f ∷ []) l = absurd (omega arith)
eight-words (a ∷ b ∷ c ∷ d ∷ e ∷ f ∷ g ∷ []) l = absurd (omega arith)
eight-words (a ∷ b ∷ c ∷ d ∷ e ∷ f ∷ g ∷ h ∷ i ∷ ws) l = absurd (omega arith)

-- in a match on the pair: the arm of one
pub in-arm : (d n : ℕ) (ws : List ℕ) {c m : ℕ} {x : Option (Command Pooled)} → length ws ≡ 8 → c ≡ d → m ≡ n → x ≡ command_with d n (eight ws) → x ≡ command_with c m ws
in-arm d n ws l p q e = rw (p, q) (rw (eight-words ws l) at e)
