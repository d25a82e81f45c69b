-- `values::LeafWords::value` meets its contract: each arm is the row of its letter. Assumes nothing.
use mathlib.Core.Path.{refl, sym, ap, ◌∙◌}
use mathlib.Core.List.{[], ◌∷◌}
use Rattle.std.specs.Prelude.{None, Some}
use lib.IntN.{ℤ}
use mir.Syntax.{w8, w16, w32, w64}
use Rattle.values.specs.Values.{unused, f32_value, FromWords, leaf_letters, value_of}
use Rattle.types.specs.declared.Span.{Span}
use Rattle.values.specs.declared.FieldValue.TheVariants as value
use Rattle.types.proofs.Arms.{rest}
use Rattle.values.proofs.ValueLaws.{at-letter, cast-signed, signed-row, unsigned-row}
use Rattle.values.proofs.LeafWords.value.Goals as goal

pub returns-in-116 : goal.returns-in-116
returns-in-116 c =
    c.in_range.ensures ∙ at-letter 116 c.args.self c.in-116.is

pub returns-in-98 : goal.returns-in-98
returns-in-98 c =
    let n = c.number.ensures in
    signed-row w8 98 c.args.self n.unused n.number value.I8 _ c.map.ensures.cases c.map-in-98.ensures.cases c.in-98.is refl

pub returns-in-66 : goal.returns-in-66
returns-in-66 c =
    let n = c.number-in-66.ensures in
    unsigned-row w8 66 c.args.self n.unused n.number value.U8 c.map-in-66.ensures.cases c.in-66.is refl

pub returns-in-115 : goal.returns-in-115
returns-in-115 c =
    let n = c.number-in-115.ensures in
    signed-row w16 115 c.args.self n.unused n.number value.I16 _ c.map-in-115.ensures.cases c.map-in-115-2.ensures.cases c.in-115.is refl

pub returns-in-117 : goal.returns-in-117
returns-in-117 c =
    let n = c.number-in-117.ensures in
    unsigned-row w16 117 c.args.self n.unused n.number value.U16 c.map-in-117.ensures.cases c.in-117.is refl

pub returns-in-73 : goal.returns-in-73
returns-in-73 c =
    let n = c.number-in-73.ensures in
    signed-row w32 73 c.args.self n.unused n.number value.I32 _ c.map-in-73.ensures.cases c.map-in-73-2.ensures.cases c.in-73.is refl

pub returns-in-105 : goal.returns-in-105
returns-in-105 c =
    let n = c.number-in-105.ensures in
    unsigned-row w32 105 c.args.self n.unused n.number value.U32 c.map-in-105.ensures.cases c.in-105.is refl

pub returns-in-108 : goal.returns-in-108
returns-in-108 c =
    let s = c.cast_signed in
    c.with_unused.ensures
    ∙ ap (λ (z : ℤ). unused c.args.self.second (value.I64 z)) (cast-signed w64 s.result _ s.type_inv s.ensures)
    ∙ at-letter 108 c.args.self c.in-108.is

pub returns-in-102 : goal.returns-in-102
returns-in-102 c =
    let n = c.number-in-102.ensures in
    unsigned-row w32 102 c.args.self n.unused n.number f32_value c.map-in-102.ensures.cases c.in-102.is refl

pub returns-in-100 : goal.returns-in-100
returns-in-100 c =
    c.with_unused-in-100.ensures ∙ ap (unused c.args.self.second) c.f64_value.ensures ∙ at-letter 100 c.args.self c.in-100.is

pub returns-in-68 : goal.returns-in-68
returns-in-68 c =
    c.decimal.ensures ∙ at-letter 68 c.args.self c.in-68.is

pub returns-in-83 : goal.returns-in-83
returns-in-83 c =
    ap (λ (v : Span). Some (value.LongStr v)) c.from_words.ensures ∙ at-letter 83 c.args.self c.in-83.is

pub returns-in-120 : goal.returns-in-120
returns-in-120 c =
    ap (λ (v : Span). Some (value.Bytes v)) c.from_words-in-120.ensures ∙ at-letter 120 c.args.self c.in-120.is

pub returns-in-84 : goal.returns-in-84
returns-in-84 c =
    c.with_unused-in-84.ensures ∙ at-letter 84 c.args.self c.in-84.is

pub returns-in-86 : goal.returns-in-86
returns-in-86 c =
    c.in_range-in-86.ensures ∙ at-letter 86 c.args.self c.in-86.is

pub returns-in_default : goal.returns-in_default
unfolding value_of
returns-in_default c =
    let w = c.args.self in
    ap (λ (g : FromWords). g w.first w.second) (sym (rest (λ a b. None) ((86 ∷ []) ∷ (84 ∷ []) ∷ (120 ∷ []) ∷ (83 ∷ []) ∷ (68 ∷ []) ∷ (100 ∷ []) ∷ (102 ∷ []) ∷ (108 ∷ []) ∷ (105 ∷ []) ∷ (73 ∷ []) ∷ (117 ∷ []) ∷ (115 ∷ []) ∷ (66 ∷ []) ∷ (98 ∷ []) ∷ (116 ∷ []) ∷ []) w.letter leaf_letters c.in_default.in_default-own.rest tt))
