-- From what a decoded frame's payload leaves to what a step of the walk leaves.
use mathlib.Core.Path.{◌≡◌, sym, ap, ◌∙◌}
use mathlib.Core.List.{List, [], ◌∷◌}
use Prim.Native.Nat.{ℕ, ◌*◌, ◌≤◌, ◌<◌}
use native.Mathlib.Omega.{arith}
use lib.ListN.{length}
use Rattle.types.specs.Answer.{Refusal, Answer, given, refused, tape_full}
use Rattle.types.specs.Memory.{splice, Outcome, outcome}
use Rattle.types.specs.Records.{record_count}
use Rattle.types.proofs.Chain.{given-value}
use Rattle.types.proofs.Tests.{leb_yes, leb_no}
use Rattle.tables.specs.Letters.{Letters}
use Rattle.tables.specs.Tape.{WithTape, WithCount, room_of, fill_tape, records_only}
use Rattle.frame.specs.Frame.{Frame, decode_at}
use Rattle.frame.specs.Step.{frame_with_payload_at, walk_step_at}
use Rattle.frame.specs.Walk.{register_records}
use Rattle.frame_reader.specs.Walking.{StepOutcome, step_outcome, slots_of, fill_both}
use Rattle.frame_reader.proofs.StepLaws.{frame_read}

-- from the case of an answer that a match has found
pub from-answer : {R A : Type 0} (answer_of : R → Answer A) {r k : R} {after : List ℕ} {o : Outcome A} → outcome (answer_of r) after ≡ o → r ≡ k → outcome (answer_of k) after ≡ o
from-answer answer_of {after = after} e q = ap (λ k. outcome (answer_of k) after) (sym q) ∙ e

pub from_step : {R : Type 0} (answer_of : R → Answer (WithCount Unit)) {r k : R} {after entered : List ℕ} {o : StepOutcome} → step_outcome (answer_of r) after entered ≡ o → r ≡ k
    → step_outcome (answer_of k) after entered ≡ o
from_step answer_of {after = after} {entered = entered} e q = ap (λ k. step_outcome (answer_of k) after entered) (sym q) ∙ e

pub same_count : {m n p q : ℕ} → ◌≡◌ {A = Answer (WithCount Unit)} (given (record { value = tt; count = m }) p) (given (record { value = tt; count = n }) q) → m ≡ n
same_count e = ap (λ (w : WithCount Unit). w.count) (given-value _ _ _ _ e)

-- from the tape alone to both memories
module _ {A : Type 0} (at used k : ℕ) (tape register : List ℕ) {after : List ℕ} where
  both-refused : (a : Answer (WithTape A)) {r : Refusal} → outcome (refused r) after ≡ records_only (fill_tape used tape a) → step_outcome (refused r) after register ≡ fill_both at used k tape register a
  both-refused (given x n) e = let z : ◌≡◌ {A = ℕ} 0 1 = cc in absurd (omega arith)
  both-refused (refused q) e = cc

  both-given : (a : Answer (WithTape A)) {own n : ℕ} {entered : List ℕ} → outcome (given (record { value = tt; count = own }) n) after ≡ records_only (fill_tape used tape a)
      → entered ≡ splice (k * 3) (at ∷ used ∷ own ∷ []) register → step_outcome (given (record { value = tt; count = own }) n) after entered ≡ fill_both at used k tape register a
  both-given (given x m) {own} {n} {entered} e g =
      let answers : ◌≡◌ {A = Answer (WithCount Unit)} (given (record { value = tt; count = own }) n) (given (record { value = tt; count = length x.tape }) m) = cc in
      let count : own ≡ length x.tape = same_count answers in
      let next : n ≡ m = cc in
      cc
  both-given (refused q) e g = let z : ◌≡◌ {A = ℕ} 0 1 = cc in absurd (omega arith)

module _ (letters : Letters) (s : List ℕ) (at used k : ℕ) (tape register : List ℕ) where
  abbrev pub walked : StepOutcome
  walked = fill_both at used k tape register (walk_step_at letters s at (slots_of k register) (room_of used tape))

  pub decode-refused : {r : Refusal} → refused r ≡ decode_at s at → step_outcome (refused r) tape register ≡ walked
  unfolding walk_step_at
  decode-refused e = rw (← e)

  module _ {f : Frame} {next : ℕ} (decoded : given f next ≡ decode_at s at) where
    pub register-full : record_count register_records register ≤ k → step_outcome (refused tape_full) tape register ≡ walked
    unfolding walk_step_at
    register-full h = rw (← decoded, leb_no 1 (slots_of k register) (omega arith))

    module _ (free : k < record_count register_records register) where
      step_is : walk_step_at letters s at (slots_of k register) (room_of used tape) ≡ frame_with_payload_at letters s f next (room_of used tape)
      unfolding walk_step_at
      step_is = rw (← decoded, leb_yes 1 (slots_of k register) (omega arith))

      from-payload : {o : StepOutcome} → o ≡ fill_both at used k tape register (frame_with_payload_at letters s f next (room_of used tape)) → o ≡ walked
      from-payload e = e ∙ sym (ap (fill_both at used k tape register) step_is)

      pub payload-refused : {r : Refusal} {after : List ℕ} → outcome (refused r) after ≡ records_only (frame_read letters s f next used tape) → step_outcome (refused r) after register ≡ walked
      payload-refused e = from-payload (both-refused at used k tape register (frame_with_payload_at letters s f next (room_of used tape)) e)

      pub payload-given : {own n : ℕ} {after entered : List ℕ} → outcome (given (record { value = tt; count = own }) n) after ≡ records_only (frame_read letters s f next used tape)
          → entered ≡ splice (k * 3) (at ∷ used ∷ own ∷ []) register → step_outcome (given (record { value = tt; count = own }) n) after entered ≡ walked
      payload-given e g = from-payload (both-given at used k tape register (frame_with_payload_at letters s f next (room_of used tape)) e g)
