-- The octets around a payload that stands already, and the three ways out of the frame encoder.
use mathlib.Core.Path.{◌≡◌, refl, sym, ap, ◌∙◌}
use mathlib.Core.List.{List, [], ◌∷◌, ◌++◌, append_assoc}
use Rattle.std.specs.Prelude.{Option, None, Result}
use Rattle.std.specs.Result.{IsOk}
use Prim.Native.Nat.{ℕ, ◌+◌, ◌≤◌, ◌<◌}
use native.Mathlib.Omega.{arith}
use lib.ListN.{length, length-append}
use Rattle.types.specs.Answer.{Refusal, given, refused, too_long, no_space}
use Rattle.types.specs.declared.WireError.{WireError}
use Rattle.types.specs.Octets.{octets}
use Rattle.types.specs.Memory.{splice, outcome}
use Rattle.types.proofs.Tests.{leb_yes, leb_no}
use Rattle.types.proofs.NumberLaws.{length-octets}
use Rattle.types.proofs.Splice.{splice-before, splice-after}
use Rattle.writers.specs.AnswerOf.{answer_of_written}
use Rattle.writers.specs.Writers.{write_at, write_uint, write_octets}
use Rattle.writers.proofs.WriterLaws.{write-refused, write-full, write-given}
use Rattle.table_writer.specs.Emitting.{Emitted}
use Rattle.table_writer.proofs.EmitLaws.{is_written, emitted-length, emitted-after}
use Rattle.frame.specs.Frame.{frame_end, frame_octets, encode}
use Rattle.frame.proofs.FrameLaws.{frame-length}
use Rattle.frame_writer.specs.Parts.{frame_head}

abbrev Written : Type 0
Written = Result ℕ WireError

-- what is written where it has space
put_memory : (w : Written) (xs : List ℕ) (at : ℕ) (out : List ℕ) {after : List ℕ} → at + length xs ≤ length out → outcome (answer_of_written w) after ≡ write_at None xs at out → after ≡ splice at xs out
put_memory w xs at out h e = let o = e ∙ write-given xs at out h in cc

-- a number
number_memory : (k n : ℕ) (w : Written) (at : ℕ) (out : List ℕ) {after : List ℕ} → at + k ≤ length out → outcome (answer_of_written w) after ≡ write_uint k n at out → after ≡ splice at (octets k n) out
unfolding write_uint
number_memory k n w at out h e = put_memory w (octets k n) at out (omega (arith, length-octets k n)) e

-- and the place behind it
number_put : (k n : ℕ) (w : Written) {at r : ℕ} {out after : List ℕ} → r ≡ at + k → at + k ≤ length out → outcome (answer_of_written w) after ≡ write_uint k n at out → Emitted (octets k n) at out after r
number_put k n w p h e = record { next = omega (arith, p, length-octets k n); memory = number_memory k n w _ _ h e }

-- a number leaves the output as long as it was
pub number-length : (k n : ℕ) (w : Written) (at : ℕ) (out : List ℕ) {after : List ℕ} → at + k ≤ length out → outcome (answer_of_written w) after ≡ write_uint k n at out → length after ≡ length out
number-length k n w at out h e = emitted-length (omega (arith, length-octets k n)) (number_put k n w refl h e)

-- type octet, channel and size before a payload of n octets, and the frame end behind it
pub put-around : (t ch n at : ℕ) (out : List ℕ) {o len : ℕ} {a b c after : List ℕ} (u v w x : Written) → o ≡ t → len ≡ n → at + n + 8 ≤ length out
    → outcome (answer_of_written u) a ≡ write_uint 1 o at out → outcome (answer_of_written v) b ≡ write_uint 2 ch (at + 1) a
    → outcome (answer_of_written w) c ≡ write_uint 4 len (at + 3) b → outcome (answer_of_written x) after ≡ write_uint 1 frame_end (at + 7 + n) c
    → after ≡ splice (at + 7 + n) (frame_end ∷ []) (splice at (frame_head t ch n) out)
put-around t ch n at out {o} {len} {a} {b} {c} u v w x p q h e f g i =
    let one : Emitted (octets 1 t) at out a (at + 1) = number_put 1 t u refl (omega arith) (rw p at e) in
    let la = emitted-length (omega arith) one in
    let three : Emitted (octets 1 t ++ octets 2 ch) at out b (at + 3) = emitted-after (omega arith) one (number_put 2 ch v (omega arith) (omega arith) f) in
    let lb = emitted-length (omega arith) three in
    let seven : Emitted (frame_head t ch n) at out c (at + 7) = emitted-after (omega arith) three (number_put 4 n w (omega arith) (omega arith) (rw q at g)) in
    let lc = emitted-length (omega arith) seven in
    number_memory 1 frame_end x _ _ (omega arith) i ∙ ap (splice (at + 7 + n) (frame_end ∷ [])) seven.memory

module _ (t ch : ℕ) (P : List ℕ) (at : ℕ) (out : List ℕ) where
  pub encode-too-long : 4294967295 < length P → outcome (refused too_long) out ≡ encode t ch P at out
  unfolding encode
  encode-too-long h = sym (ap (λ (r : Option Refusal). write_at r (frame_octets t ch P) at out) (rw (leb_no (length P) 4294967295 h)) ∙ write-refused (frame_octets t ch P) at out too_long)

  module _ (short : length P ≤ 4294967295) where
    judged : encode t ch P at out ≡ write_at None (frame_octets t ch P) at out
    unfolding encode
    judged = ap (λ (r : Option Refusal). write_at r (frame_octets t ch P) at out) (rw (leb_yes (length P) 4294967295 short))

    pub encode-no-space : length out < at + length P + 8 → outcome (refused no_space) out ≡ encode t ch P at out
    encode-no-space h = sym (judged ∙ write-full (frame_octets t ch P) at out (omega (arith, frame-length t ch P)))

    module _ (space : at + length P + 8 ≤ length out) where
      -- the payload
      pub payload-ok : {after : List ℕ} (w : Written) → outcome (answer_of_written w) after ≡ write_octets P (at + 7) out → IsOk w
      unfolding write_octets
      payload-ok w e = is_written w P (at + 7) out (omega arith) e

      pub payload-put : {after : List ℕ} (w : Written) → outcome (answer_of_written w) after ≡ write_octets P (at + 7) out → after ≡ splice (at + 7) P out
      unfolding write_octets
      payload-put w e = put_memory w P (at + 7) out (omega arith) e

      -- the frame's octets around the payload that stands behind the first seven
      around : {mid after : List ℕ} → mid ≡ splice (at + 7) P out → after ≡ splice (at + 7 + length P) (frame_end ∷ []) (splice at (frame_head t ch (length P)) mid)
          → after ≡ splice at (frame_octets t ch P) out
      unfolding frame_octets
      around {mid} {after} m a =
          let H = frame_head t ch (length P) in
          let E = frame_end ∷ [] in
          let place : at + 7 + length P ≡ at + length (H ++ P) = omega (arith, length-append H P) in
          a
          ∙ ap (λ (l : List ℕ). splice (at + 7 + length P) E (splice at H l)) m
          ∙ ap (splice (at + 7 + length P) E) (splice-before at H P out (omega arith))
          ∙ ap (λ (i : ℕ). splice i E (splice at (H ++ P) out)) place
          ∙ splice-after at (H ++ P) E out (omega (arith, length-append H P))
          ∙ ap (λ (xs : List ℕ). splice at xs out) (append_assoc H P E)

      pub encode-given : {mid after : List ℕ} → mid ≡ splice (at + 7) P out → after ≡ splice (at + 7 + length P) (frame_end ∷ []) (splice at (frame_head t ch (length P)) mid)
          → outcome (given tt (at + length P + 8)) after ≡ encode t ch P at out
      encode-given {mid} {after} m a =
          let next : at + length P + 8 ≡ at + length (frame_octets t ch P) = omega (arith, frame-length t ch P) in
          cc (next, around m a, judged, write-given (frame_octets t ch P) at out (omega (arith, frame-length t ch P)))
