-- The walk step by step, with no fuel, and its outcome in the lent tape and register: what a proof about code goes by.
use mathlib.Core.Path.{◌≡◌, refl, ◌∙◌}
use Rattle.std.specs.Prelude.{Option, None, Some}
use mathlib.Core.List.{List, [], ◌∷◌, ◌++◌}
use Prim.Native.Nat.{ℕ, suc, ◌+◌, ◌-◌, ◌*◌, ◌≤◌, ◌<◌}
use native.Mathlib.Omega.{arith}
use native.Mathlib.Nat.{zero-add, add-zero}
use lib.ListN.{length}
use Rattle.types.specs.Answer.{Refusal, given, refused}
use Rattle.types.specs.Memory.{splice}
use Rattle.types.specs.Records.{concat_map}
use Rattle.types.specs.declared.Span.{Span}
use Rattle.types.proofs.Splice.{splice-nil, splice-after}
use Rattle.tables.specs.Letters.{Letters}
use Rattle.tables.specs.Tape.{Record, tape_records, WithTape}
use Rattle.tables.proofs.TapeLaws.{length-concat_map, concat_map-append}
use Rattle.method.specs.Fields.{Pooled}
use Rattle.frame.specs.Step.{FrameOf, walk_step_at}
use Rattle.frame.specs.Walk.{register_records, WalkResult, ended, push, walk_from, WalkOutcome, outcome_of_walk}
use Rattle.frame.proofs.ListLaws.{walk_none, walk-stop, walk-agree, walk_step}
use Rattle.frame.proofs.FrameLaws.{step_move}

module _ (letters : Letters) where
  -- the walk from a position on
  abbrev pub walk_on : List ℕ → ℕ → ℕ → ℕ → ℕ → WalkResult
  walk_on s p slots room used = walk_from (walk_step_at letters) (length s) s p slots room used

  on : (s : List ℕ) (p slots room used : ℕ) (l : FrameOf Pooled Span) (n : ℕ) (rs : List Record) → walk_step_at letters s p slots room ≡ given (record { value = l; tape = rs }) n → p < n
  on s p slots room used l n rs e = let a = step_move letters s p slots room (record { value = l; tape = rs }) n e in omega (arith, a.0)

  pub on-end : (s : List ℕ) (p slots room used : ℕ) → length s ≤ p → walk_on s p slots room used ≡ ended p None
  on-end s p slots room used h = walk_none (walk_step_at letters) (length s) s p slots room used h

  pub on-stop : (s : List ℕ) (p slots room used : ℕ) (r : Refusal) → p < length s → walk_step_at letters s p slots room ≡ refused r → walk_on s p slots room used ≡ ended p (Some r)
  on-stop s p slots room used r h e =
      walk-agree (walk_step_at letters) on (length s) (suc (length s)) s p slots room used (omega arith) (omega arith)
      ∙ walk-stop (walk_step_at letters) (length s) s p slots room used r h e

  pub on_step : (s : List ℕ) (p slots room used : ℕ) (x : WithTape (FrameOf Pooled Span)) (n : ℕ) → p < length s → walk_step_at letters s p slots room ≡ given x n
      → walk_on s p slots room used ≡ push p used x.tape (walk_on s n (slots - 1) (room - length x.tape) (used + length x.tape))
  on_step s p slots room used x n h e = walk_step (walk_step_at letters) on s p slots room used x.value n x.tape h e

-- the outcome of a walk where `used` tape records and k entries stand already
unfoldable pub outcome_from : ℕ → ℕ → List ℕ → List ℕ → WalkResult → WalkOutcome
outcome_from used k tape register w =
    record {
      frames = k + length w.register;
      consumed = w.consumed;
      refusal = w.refusal;
      tape = splice (used * 6) (concat_map tape_records.words w.tape) tape;
      register = splice (k * 3) (concat_map register_records.words w.register) register;
    }

pub outcome-start : (tape register : List ℕ) (w : WalkResult) → outcome_from 0 0 tape register w ≡ outcome_of_walk tape register w
unfolding outcome_from
outcome-start tape register w = rw (zero-add (length w.register))

pub outcome-end : (used k : ℕ) (tape register : List ℕ) (p : ℕ) (refusal : Option Refusal)
    → outcome_from used k tape register (ended p refusal) ≡ record { frames = k; consumed = p; refusal = refusal; tape = tape; register = register }
unfolding outcome_from
outcome-end used k tape register p refusal = rw (splice-nil (used * 6) tape, splice-nil (k * 3) register, add-zero k)

-- a step: its records behind those used, its entry behind those there
pub outcome-step : (used k : ℕ) (tape register : List ℕ) (p : ℕ) (rs : List Record) (w : WalkResult) → (used + length rs) * 6 ≤ length tape → (k + 1) * 3 ≤ length register
    → outcome_from used k tape register (push p used rs w)
    ≡ outcome_from (used + length rs) (k + 1) (splice (used * 6) (concat_map tape_records.words rs) tape) (splice (k * 3) (p ∷ used ∷ length rs ∷ []) register) w
unfolding outcome_from
outcome-step used k tape register p rs w ht hr =
    let tw = concat_map tape_records.words rs in
    let l = length-concat_map tape_records (λ r. refl) rs in
    let a : used * 6 + length tw ≡ (used + length rs) * 6 = omega arith in
    let t = splice-after (used * 6) tw (concat_map tape_records.words w.tape) tape (omega arith) in
    let t' : splice ((used + length rs) * 6) (concat_map tape_records.words w.tape) (splice (used * 6) tw tape) ≡ splice (used * 6) (tw ++ concat_map tape_records.words w.tape) tape = rw a at t in
    let e = p ∷ used ∷ length rs ∷ [] in
    let b : k * 3 + 3 ≡ (k + 1) * 3 = omega arith in
    let g = splice-after (k * 3) e (concat_map register_records.words w.register) register (omega arith) in
    let g' : splice ((k + 1) * 3) (concat_map register_records.words w.register) (splice (k * 3) e register) ≡ splice (k * 3) (e ++ concat_map register_records.words w.register) register = rw b at g in
    let c : k + suc (length w.register) ≡ k + 1 + length w.register = omega arith in
    rw (t', g', concat_map-append tape_records.words rs w.tape, c)
