-- Laws of the strings, one for each way through them.
use mathlib.Core.Path.{◌≡◌, refl, sym, ap, ◌∙◌}
use mathlib.Core.Bool.{Bool, true, false, cond}
use mathlib.Core.List.{List}
use Prim.Native.Nat.{ℕ, ◌+◌, ◌-◌, ◌≤◌}
use native.Mathlib.Omega.{arith}
use borrow.Author.Tests.{leb-true, le-leb, lt-leb}
use lib.Dec.{leb}
use lib.ListN.{length, take, drop, length-drop}
use lib.Seq.{take_all}
use denote.Bor.{Bor}
use Rattle.std.specs.Prelude.{Option, None, Some, option_copied}
use Rattle.std.specs.Slice.{IsGetRangeResult}
use Rattle.utf8.specs.Utf8.{Fault, fault, utf8}
use Rattle.types.specs.Answer.{Answer, given, refused, truncated, not_utf8, and_then}
use Rattle.types.specs.Octets.{uint_at}
use Rattle.types.specs.Strings.{octets_of, octets_in, span_at, short_str_at}
use Rattle.types.specs.declared.Span.{Span}

-- what an answer that gives a span says
pub record Spanned (n : ℕ) (s : List ℕ) (at : ℕ) (v : Span) (next : ℕ) : Type 0 where
  pub within : at + n ≤ length s
  pub start : v.start ≡ at
  pub len : v.len ≡ n
  pub past : next ≡ at + n

pub span_at-read : (n : ℕ) (s : List ℕ) (at : ℕ) {v : Span} {next : ℕ} → given v next ≡ span_at n s at → Spanned n s at v next
unfolding span_at
span_at-read n s at {v} {next} e = go (leb (at + n) (length s)) refl e
  where
    go : (b : Bool) → leb (at + n) (length s) ≡ b → given v next ≡ cond b (given (record { start = at; len = n }) (at + n)) (refused truncated) → Spanned n s at v next
    go true t q =
        let w : v ≡ record { start = at; len = n } = cc in
        record { within = leb-true _ _ t; start = ap (λ (x : Span). x.start) w; len = ap (λ (x : Span). x.len) w; past = cc }
    go false t q = let z : ◌≡◌ {A = ℕ} 0 1 = cc in absurd (omega arith)

-- the octets of a span, as a part of what stands from its start on
pub octets_in-part : (s : List ℕ) (v : Span) {rest : List ℕ} (r : Option (Bor (List ℕ))) → v.start ≤ length s → rest ≡ take (length s - v.start) (drop v.start s)
    → IsGetRangeResult rest 0 v.len r → option_copied r ≡ octets_in s v
unfolding octets_in
octets_in-part s v {rest} (Some x) h e p =
    let l = length-drop v.start s in
    let d : rest ≡ drop v.start s = e ∙ take_all _ _ (omega arith) in
    let n : v.len - 0 ≡ v.len = omega arith in
    rw (le-leb (v.start + v.len) (length s) (omega (arith, p, ap length d))) (ap Some (p.0.2 ∙ rw (n, d) refl))
octets_in-part s v {rest} None h e p =
    let l = length-drop v.start s in
    let d : rest ≡ drop v.start s = e ∙ take_all _ _ (omega arith) in
    rw (lt-leb (v.start + v.len) (length s) (omega (arith, p, ap length d))) refl

-- the part that is scanned is the span's octets
pub scanned : (n : ℕ) (s : List ℕ) (at : ℕ) {v : Span} {q : ℕ} {F : Fault} → given v q ≡ span_at n s at → F ≡ fault (take (q - v.start) (drop v.start s)) → F ≡ fault (octets_of s v)
scanned n s at {v} {q} e f =
    let r = span_at-read n s at e in
    let k : q - v.start ≡ v.len = omega (arith, r) in
    f ∙ ap (λ (m : ℕ). fault (take m (drop v.start s))) k

-- what is judged of a short string's octets
abbrev judged : List ℕ → Span → ℕ → Answer Span
judged s v q = cond (utf8 (octets_of s v)) (given v q) (refused not_utf8)

module _ (s : List ℕ) (at : ℕ) where
  by_length : (n p : ℕ) {A : Answer Span} → given n p ≡ uint_at 1 s at → A ≡ and_then (span_at n s p) (judged s) → A ≡ short_str_at s at
  unfolding short_str_at
  by_length n p e a = a ∙ ap (λ (x : Answer ℕ). and_then x (λ n p. and_then (span_at n s p) (judged s))) e

  pub short_str-given : (n p : ℕ) (v : Span) (q : ℕ) → given n p ≡ uint_at 1 s at → given v q ≡ span_at n s p → utf8 (octets_of s v) ≡ true → given v q ≡ short_str_at s at
  short_str-given n p v q e f u = by_length n p e (sym (ap (λ (b : Bool). cond b (given v q) (refused not_utf8)) u) ∙ ap (λ (x : Answer Span). and_then x (judged s)) f)

  pub short_str-not_utf8 : (n p : ℕ) (v : Span) (q : ℕ) → given n p ≡ uint_at 1 s at → given v q ≡ span_at n s p → utf8 (octets_of s v) ≡ false → refused not_utf8 ≡ short_str_at s at
  short_str-not_utf8 n p v q e f u = by_length n p e (sym (ap (λ (b : Bool). cond b (given v q) (refused not_utf8)) u) ∙ ap (λ (x : Answer Span). and_then x (judged s)) f)
