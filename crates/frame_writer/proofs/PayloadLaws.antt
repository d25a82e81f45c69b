-- A payload of any kind that is put straight into the output: what its writer's answer over a part of the output says of the frame.
use mathlib.Core.Path.{◌≡◌, refl, sym, ap, ◌∙◌}
use mathlib.Core.Bool.{Bool, cond}
use mathlib.Core.List.{List, [], ◌∷◌, ◌++◌, append_assoc}
use Rattle.std.specs.Prelude.{Option, None, Some, Result, Ok, Err}
use Rattle.std.specs.Result.{result_ok}
use Prim.Native.Nat.{ℕ, ◌+◌, ◌-◌, ◌≤◌, ◌<◌}
use native.Mathlib.Omega.{arith}
use lib.ListN.{length, take, drop, take-append-drop}
use lib.Seq.{length-take-le, take-append-le, drop-append-le}
use lib.Dec.{leb}
use Rattle.types.specs.Answer.{Refusal, Answer, given, refused, too_long, no_space}
use Rattle.types.specs.Strings.{judge_length}
use Rattle.types.specs.Judgement.{or_else}
use Rattle.types.specs.Memory.{splice, Outcome, outcome}
use Rattle.types.proofs.Tests.{leb_yes, yes_leb, no_leb, decide}
use Rattle.types.proofs.Splice.{splice-length}
use Rattle.types.specs.declared.WireError.{WireError}
use Rattle.writers.specs.AnswerOf.{answer_of_written}
use Rattle.writers.specs.Writers.{write_at}
use Rattle.writers.proofs.WriterLaws.{write-refused, write-full, write-given}
use Rattle.table_writer.specs.Sizes.{sized}
use Rattle.frame.specs.Frame.{frame_end, frame_octets, encode}
use Rattle.frame_writer.specs.Parts.{frame_head, PayloadPart, put_payload, why_not}
use Rattle.frame_writer.proofs.EncodeLaws.{encode-too-long, encode-no-space, encode-given}

-- What a writer's answer says

module _ (xs : List ℕ) (at : ℕ) (out : List ℕ) where
  -- that it wrote
  record Wrote (judged : Option Refusal) (next : ℕ) (after : List ℕ) : Type 0 where
    passes : judged ≡ None
    past : next ≡ at + length xs
    space : at + length xs ≤ length out
    memory : after ≡ splice at xs out

  wrote : (judged : Option Refusal) {next : ℕ} {after : List ℕ} → outcome (given tt next) after ≡ write_at judged xs at out → Wrote judged next after
  wrote (Some r) {next} {after} e =
      let o : outcome (given tt next) after ≡ outcome (refused r) out = e ∙ write-refused xs at out r in
      let z : ◌≡◌ {A = ℕ} 0 1 = cc in
      absurd (omega arith)
  wrote None {next} {after} e =
      decide (leb (at + length xs) (length out))
      (λ y.
      let h = yes_leb (at + length xs) (length out) y in
      let o : outcome (given tt next) after ≡ outcome (given tt (at + length xs)) (splice at xs out) = e ∙ write-given xs at out h in
      record { passes = refl; past = cc; space = h; memory = cc })
      (λ n.
      let o : outcome (given tt next) after ≡ outcome (refused _) out = e ∙ write-full xs at out (no_leb (at + length xs) (length out) n) in
      let z : ◌≡◌ {A = ℕ} 0 1 = cc in
      absurd (omega arith))

  -- that it refused
  record Left (judged : Option Refusal) (after : List ℕ) : Type 0 where
    full : judged ≡ None → length out < at + length xs
    memory : after ≡ out

  left : (judged : Option Refusal) {r : Refusal} {after : List ℕ} → outcome (refused r) after ≡ write_at judged xs at out → Left judged after
  left (Some q) {r} {after} e =
      let o : outcome (refused r) after ≡ outcome (refused q) out = e ∙ write-refused xs at out q in
      record { full = λ p. let z : ◌≡◌ {A = ℕ} 0 1 = cc in absurd (omega arith); memory = cc }
  left None {r} {after} e =
      decide (leb (at + length xs) (length out))
      (λ y.
      let o : outcome (refused r) after ≡ outcome (given tt (at + length xs)) (splice at xs out) = e ∙ write-given xs at out (yes_leb (at + length xs) (length out) y) in
      let z : ◌≡◌ {A = ℕ} 0 1 = cc in
      absurd (omega arith))
      (λ n.
      let h = no_leb (at + length xs) (length out) n in
      let o : outcome (refused r) after ≡ outcome (refused _) out = e ∙ write-full xs at out h in
      record { full = λ p. h; memory = cc })

-- a piece in the first of two lists
splice_front : (at : ℕ) (xs l rest : List ℕ) → at + length xs ≤ length l → splice at xs l ++ rest ≡ splice at xs (l ++ rest)
unfolding splice
splice_front at xs l rest h =
    let k : at ≤ length l = omega arith in
    rw (take-append-le at l rest, drop-append-le (at + length xs) l rest, append_assoc (take at l ++ xs) (drop (at + length xs) l) rest)

-- A payload of any kind

-- what its writer refuses, given space enough, and its octets
pub record Judged : Type 0 where
  pub refusal : Option Refusal
  pub octets : List ℕ

-- the frame with it
unfoldable pub write_with : ℕ → ℕ → Judged → ℕ → List ℕ → Outcome Unit
write_with t ch p at out = write_at (or_else p.refusal (judge_length (length p.octets))) (frame_octets t ch p.octets) at out

-- a payload with a refusal of its own, or for which there is no space unless it is too long
refused-frame : (t ch : ℕ) (o : Option Refusal) (P : List ℕ) (at : ℕ) (out : List ℕ) → (o ≡ None → length P ≤ 4294967295 → length out < at + length P + 8)
    → outcome (refused (why_not (sized o (length P)))) out ≡ write_at (or_else o (judge_length (length P))) (frame_octets t ch P) at out
unfolding encode
refused-frame t ch (Some r) P at out h = sym (write-refused (frame_octets t ch P) at out r)
refused-frame t ch None P at out h =
    decide (leb (length P) 4294967295)
    (λ y.
    let short = yes_leb (length P) 4294967295 y in
    ap (λ (b : Bool). outcome (refused (cond b no_space too_long)) out) y ∙ encode-no-space t ch P at out short (h refl short))
    (λ n. ap (λ (b : Bool). outcome (refused (cond b no_space too_long)) out) n ∙ encode-too-long t ch P at out (no_leb (length P) 4294967295 n))

-- A payload put behind the first seven octets

module _ (o : Option Refusal) (P : List ℕ) (at : ℕ) (out : List ℕ) where
  -- it has no refusal, but no space or too great a length
  not-put : (o ≡ None → length P ≤ 4294967295 → length out < at + length P + 8) → (None, out) ≡ put_payload o P at out
  not-put h = go o h
    where
      go : (o : Option Refusal) → (o ≡ None → length P ≤ 4294967295 → length out < at + length P + 8) → (None, out) ≡ put_payload o P at out
      go (Some r) h = refl
      go None h =
          decide (leb (at + length P + 8) (length out))
          (λ y.
          decide (leb (length P) 4294967295)
          (λ z. absurd (omega (arith, h refl (yes_leb (length P) 4294967295 z), yes_leb (at + length P + 8) (length out) y)))
          (λ n. rw (y, n)))
          (λ n. rw n)

  -- where there is no space for any frame
  pub put-no-frame : length out < at + 8 → (None, out) ≡ put_payload o P at out
  put-no-frame h = not-put (λ q l. omega arith)

  -- as its writer answers over the part
  pub put-answered : {end : ℕ} → PayloadPart at out end → (w : Result ℕ WireError) {after : List ℕ} → outcome (answer_of_written w) after ≡ write_at o P (at + 7) (take end out)
      → (result_ok w, after ++ drop end out) ≡ put_payload o P at out
  put-answered {end} part (Ok next) {after} e =
      let w = wrote P (at + 7) (take end out) o e in
      let l = length-take-le end out part.inside in
      let t = part.taken (length P) (omega (arith, w.space)) in
      let m : after ++ drop end out ≡ splice (at + 7) P out =
      ap (λ (xs : List ℕ). xs ++ drop end out) w.memory
      ∙ splice_front (at + 7) P (take end out) (drop end out) w.space
      ∙ ap (splice (at + 7) P) (take-append-drop end out) in
      rw (w.passes, leb_yes (at + length P + 8) (length out) t.1, leb_yes (length P) 4294967295 t.0, w.past, m)
  put-answered {end} part (Err x) {after} e =
      let l = left P (at + 7) (take end out) o e in
      let n = length P in
      rw (ap (λ (xs : List ℕ). xs ++ drop end out) l.memory ∙ take-append-drop end out)
      (not-put
      (λ q short.
      let full : end < at + 7 + n = omega (arith, l.full q, length-take-le end out part.inside) in
      decide (leb (at + n + 8) (length out))
      (λ y. absurd (omega (arith, part.fits n short (yes_leb (at + n + 8) (length out) y))))
      (no_leb (at + n + 8) (length out))))

-- a payload that was put
pub record Put (o : Option Refusal) (P : List ℕ) (at : ℕ) (out : List ℕ) (next : ℕ) (whole : List ℕ) : Type 0 where
  pub passes : o ≡ None
  pub past : next ≡ at + 7 + length P
  pub short : length P ≤ 4294967295
  pub space : at + length P + 8 ≤ length out
  pub memory : whole ≡ splice (at + 7) P out
  pub same : length whole ≡ length out

-- one that was not
record NotPut (o : Option Refusal) (P : List ℕ) (at : ℕ) (out whole : List ℕ) : Type 0 where
  full : o ≡ None → length P ≤ 4294967295 → length out < at + length P + 8
  memory : whole ≡ out

put-apart : {n : ℕ} {a b : List ℕ} → ◌≡◌ {A = Option ℕ × List ℕ} (Some n, a) (None, b) → ⊥
put-apart {n} h = let place : ◌≡◌ {A = Option ℕ} (Some n) None = ap (λ q. q.0) h in let z : ◌≡◌ {A = ℕ} 0 1 = cc in omega arith

module _ (P : List ℕ) (at : ℕ) (out : List ℕ) where
  pub was_put : (o : Option Refusal) {next : ℕ} {whole : List ℕ} → (Some next, whole) ≡ put_payload o P at out → Put o P at out next whole
  was_put (Some r) e = absurd (put-apart e)
  was_put None {next} {whole} e =
      decide (leb (at + length P + 8) (length out))
      (λ y.
      decide (leb (length P) 4294967295)
      (λ s.
      let h : (Some next, whole) ≡ (Some (at + 7 + length P), splice (at + 7) P out) = rw (y, s) at e in
      let place : Some next ≡ Some (at + 7 + length P) = ap (λ q. q.0) h in
      let space = yes_leb (at + length P + 8) (length out) y in
      let m : whole ≡ splice (at + 7) P out = ap (λ q. q.1) h in
      record {
        passes = refl;
        past = cc;
        short = yes_leb (length P) 4294967295 s;
        space = space;
        memory = m;
        same = ap length m ∙ splice-length (at + 7) P [] out (omega arith);
      })
      (λ n. absurd (put-apart (rw (y, n) at e))))
      (λ n. absurd (put-apart (rw n at e)))

  was-not-put : (o : Option Refusal) {whole : List ℕ} → (None, whole) ≡ put_payload o P at out → NotPut o P at out whole
  was-not-put (Some r) e = record { full = λ p. let z : ◌≡◌ {A = ℕ} 0 1 = cc in absurd (omega arith); memory = ap (λ q. q.1) e }
  was-not-put None {whole} e =
      decide (leb (at + length P + 8) (length out))
      (λ y.
      decide (leb (length P) 4294967295)
      (λ s. absurd (put-apart (sym (rw (y, s) at e))))
      (λ n.
      let h : (None, whole) ≡ (None, out) = rw (y, n) at e in
      record { full = λ p short. absurd (omega (arith, no_leb (length P) 4294967295 n)); memory = ap (λ q. q.1) h }))
      (λ n.
      let h : (None, whole) ≡ (None, out) = rw n at e in
      record { full = λ p short. no_leb (at + length P + 8) (length out) n; memory = ap (λ q. q.1) h })

module _ (p : Judged) (t ch at : ℕ) (out : List ℕ) where
  -- with the octets around it, it is the frame
  pub with-written : {next : ℕ} {whole after : List ℕ} → Put p.refusal p.octets at out next whole
      → after ≡ splice (at + 7 + (next - at - 7)) (frame_end ∷ []) (splice at (frame_head t ch (next - at - 7)) whole)
      → outcome (given tt (next + 1)) after ≡ write_with t ch p at out
  unfolding write_with encode
  with-written {next} {whole} {after} a e =
      let n : next - at - 7 ≡ length p.octets = omega (arith, a.past) in
      let q : next + 1 ≡ at + length p.octets + 8 = omega (arith, a.past) in
      rw (a.passes, q) (encode-given t ch p.octets at out a.short a.space a.memory (rw n at e))

  -- one that was not put left the output as it was, and is refused for the frame's first reason
  pub with-refused : {whole : List ℕ} {w : Answer Unit} → (None, whole) ≡ put_payload p.refusal p.octets at out → w ≡ refused (why_not (sized p.refusal (length p.octets)))
      → outcome w whole ≡ write_with t ch p at out
  unfolding write_with
  with-refused e first =
      let l = was-not-put p.octets at out p.refusal e in
      rw (first, l.memory) (refused-frame t ch p.refusal p.octets at out l.full)
