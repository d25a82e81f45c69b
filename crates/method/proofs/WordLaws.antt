-- The arguments of fields as words: how many, and that what is carried in them comes back.
use mathlib.Core.Path.{◌≡◌, refl, sym}
use mathlib.Core.List.{List, [], ◌∷◌, ◌++◌, append_assoc}
use Prim.Native.Nat.{ℕ}
use native.Mathlib.Omega.{arith}
use lib.ListN.{length, drop, length-append}
use lib.Seq.{drop-append_seam}
use Rattle.method.specs.Fields.{Kind, Field, fixed, arg, Pooled, Args}
use Rattle.method.specs.Words.{width, widths, arg_words, args_words, args_from}
use Rattle.tables.specs.Letters.{errata}
use Rattle.method.proofs.KindLaws.{laws}

pub length-words : (fs : List Field) (vs : Args Pooled fs) → length (args_words fs vs) ≡ widths fs
unfolding args_words
length-words [] vs = refl
length-words (fixed xs ∷ fs) vs = omega (arith, length-words fs vs)
length-words (arg k ∷ fs) vs =
    omega (arith, length-append (arg_words k vs.0) (args_words fs vs.1), (laws errata k).length-words vs.0, length-words fs vs.1)

pub drop-words : (k : Kind) (v : Pooled k) (more : List ℕ) → drop (width (arg k)) (arg_words k v ++ more) ≡ more
drop-words k v more = rw (sym ((laws errata k).length-words v)) (drop-append_seam (arg_words k v) more)

pub args-words : (fs : List Field) (vs : Args Pooled fs) (more : List ℕ) → args_from fs (args_words fs vs ++ more) ≡ vs
unfolding args_words args_from
args-words [] vs more = refl
args-words (fixed xs ∷ fs) vs more = args-words fs vs more
args-words (arg k ∷ fs) vs more =
    let ws = args_words fs vs.1 in
    rw (
      append_assoc (arg_words k vs.0) ws more,
      (laws errata k).words_back vs.0 (ws ++ more),
      drop-words k vs.0 (ws ++ more),
      args-words fs vs.1 more,
    )
