-- The loop of the walk: what is left to do, done from here, is the whole walk.
use mathlib.Core.Path.{◌≡◌, refl, sym, ap, ◌∙◌}
use Rattle.std.specs.Prelude.{None, Some}
use mathlib.Core.List.{List, [], ◌∷◌}
use Prim.Native.Nat.{ℕ, ◌+◌, ◌-◌, ◌*◌, ◌≤◌, ◌<◌}
use native.Mathlib.Omega.{arith}
use native.Mathlib.Nat.{sub-zero}
use lib.ListN.{length}
use Rattle.types.specs.Answer.{Refusal, Answer, given, refused}
use Rattle.types.specs.Memory.{splice}
use Rattle.types.specs.Records.{concat_map, record_count}
use Rattle.types.specs.declared.Span.{Span}
use Rattle.types.proofs.Splice.{splice-length}
use Rattle.tables.specs.Letters.{Letters}
use Rattle.tables.specs.Tape.{tape_records, WithTape, WithCount, room_of}
use Rattle.tables.proofs.TapeLaws.{length-concat_map}
use Rattle.method.specs.Fields.{Pooled}
use Rattle.frame.specs.Step.{FrameOf, walk_step_at}
use Rattle.frame.specs.Walk.{register_records, WalkResult, WalkOutcome, walk}
use Rattle.frame.proofs.FrameLaws.{step_move, step_room}
use Rattle.frame.proofs.WalkLaws.{walk_on, on-end, on-stop, on_step, outcome_from, outcome-start, outcome-end, outcome-step}
use Rattle.frame_reader.specs.Walking.{step_outcome, slots_of, fill_both}
use Rattle.frame_reader.proofs.WalkStepLaws.{same_count, walked}

module _ (letters : Letters) where
  -- what is left of a walk
  abbrev rest : List ℕ → List ℕ → List ℕ → ℕ → ℕ → ℕ → WalkResult
  rest s tape register at used k = walk_on letters s at (slots_of k register) (room_of used tape) used

  pub record Going (s tape₀ register₀ tape register : List ℕ) (at used k : ℕ) : Type 0 where
    pub whole : outcome_from used k tape register (rest s tape register at used k) ≡ walk letters s tape₀ register₀
    pub same-tape : length tape ≡ length tape₀
    pub same-register : length register ≡ length register₀
    pub tape-in : used * 6 ≤ length tape
    pub register-in : k * 3 ≤ length register

  pub start : (s tape register : List ℕ) → Going s tape register tape register 0 0 0
  unfolding walk
  start s tape register =
      record {
        whole =
            let w = walk_on letters s 0 (record_count register_records register) (record_count tape_records tape) 0 in
            rw (sub-zero (record_count register_records register), sub-zero (record_count tape_records tape)) (outcome-start tape register w);
        same-tape = refl;
        same-register = refl;
        tape-in = omega arith;
        register-in = omega arith;
      }

  abbrev stopped : List ℕ → List ℕ → ℕ → ℕ → Refusal → WalkOutcome
  stopped tape register at k r = record { frames = k; consumed = at; refusal = Some r; tape = tape; register = register }

  -- what a step that gave a frame has left
  record Went {A : Type 0} (at used k : ℕ) (tape register : List ℕ) (a : Answer (WithTape A)) (own n : ℕ) (after entered : List ℕ) : Type 0 where
    frame : WithTape A
    is : a ≡ given frame n
    count : own ≡ length frame.tape
    tape-is : after ≡ splice (used * 6) (concat_map tape_records.words frame.tape) tape
    register-is : entered ≡ splice (k * 3) (at ∷ used ∷ length frame.tape ∷ []) register

  went : {A : Type 0} (at used k : ℕ) (tape register : List ℕ) (a : Answer (WithTape A)) {own n : ℕ} {after entered : List ℕ}
      → step_outcome (given (record { value = tt; count = own }) n) after entered ≡ fill_both at used k tape register a → Went at used k tape register a own n after entered
  went at used k tape register (given x m) {own} {n} e =
      let same : n ≡ m = cc in
      let answers : ◌≡◌ {A = Answer (WithCount Unit)} (given (record { value = tt; count = own }) n) (given (record { value = tt; count = length x.tape }) m) = cc in
      record { frame = x; is = ap (given x) (sym same); count = same_count answers; tape-is = cc; register-is = cc }
  went at used k tape register (refused r) e = let z : ◌≡◌ {A = ℕ} 0 1 = cc in absurd (omega arith)

  module _ (s tape₀ register₀ tape register : List ℕ) (at used k : ℕ) (go : Going s tape₀ register₀ tape register at used k) where
    abbrev step : Answer (WithTape (FrameOf Pooled Span))
    step = walk_step_at letters s at (slots_of k register) (room_of used tape)

    -- no octet is left
    pub finish : length s ≤ at → record { frames = k; consumed = at; refusal = None; tape = tape; register = register } ≡ walk letters s tape₀ register₀
    finish h =
        sym (outcome-end used k tape register at None)
        ∙ ap (outcome_from used k tape register) (sym (on-end letters s at (slots_of k register) (room_of used tape) used h))
        ∙ go.whole

    module _ (h : at < length s) where
      -- a step refuses
      pub stop : {r : Refusal} {after entered : List ℕ} → step_outcome (refused r) after entered ≡ walked letters s at used k tape register → stopped after entered at k r ≡ walk letters s tape₀ register₀
      stop {r} {after} {entered} e = by step refl e
        where
          by : (a : Answer (WithTape (FrameOf Pooled Span))) → step ≡ a → step_outcome (refused r) after entered ≡ fill_both at used k tape register a → stopped after entered at k r ≡ walk letters s tape₀ register₀
          by (given x n) t q = let z : ◌≡◌ {A = ℕ} 0 1 = cc in absurd (omega arith)
          by (refused p) t q =
              let er : r ≡ p = cc in
              let et : after ≡ tape = cc in
              let eg : entered ≡ register = cc in
              rw (er, et, eg)
              (sym (outcome-end used k tape register at (Some p))
              ∙ ap (outcome_from used k tape register) (sym (on-stop letters s at (slots_of k register) (room_of used tape) used p h t))
              ∙ go.whole)

      -- a step gives a frame
      module _ {own n : ℕ} {after entered : List ℕ} (e : step_outcome (given (record { value = tt; count = own }) n) after entered ≡ walked letters s at used k tape register) where
        w : Went at used k tape register step own n after entered
        w = went at used k tape register step e

        move : (at + 8 ≤ n) × (n ≤ length s) × (0 < slots_of k register)
        move = step_move letters s at (slots_of k register) (room_of used tape) w.frame n w.is

        pub moved : (at < n) × (n ≤ length s)
        moved = let m = move in (omega arith, m.1)

        in-room : (used + own) * 6 ≤ length tape
        in-room = omega (arith, step_room letters s at (slots_of k register) (room_of used tape) w.frame n w.is, w.count, go.tape-in)

        in-register : (k + 1) * 3 ≤ length register
        in-register = omega (arith, move.2, go.register-in)

        tape-same : length after ≡ length tape
        tape-same =
            ap length w.tape-is
            ∙ splice-length (used * 6) (concat_map tape_records.words w.frame.tape) [] tape (omega (arith, length-concat_map tape_records (λ r. refl) w.frame.tape, w.count, in-room))

        register-same : length entered ≡ length register
        register-same = ap length w.register-is ∙ splice-length (k * 3) (at ∷ used ∷ length w.frame.tape ∷ []) [] register (omega (arith, in-register))

        onward : outcome_from (used + own) (k + 1) after entered (rest s after entered n (used + own) (k + 1)) ≡ outcome_from used k tape register (rest s tape register at used k)
        onward =
            let rooms : room_of (used + own) after ≡ room_of used tape - length w.frame.tape = omega (arith, tape-same, w.count) in
            let slots : slots_of (k + 1) entered ≡ slots_of k register - 1 = omega (arith, register-same) in
            let one = on_step letters s at (slots_of k register) (room_of used tape) used w.frame n h w.is in
            let two = outcome-step used k tape register at w.frame.tape (walk_on letters s n (slots_of k register - 1) (room_of used tape - length w.frame.tape) (used + length w.frame.tape)) (omega (arith, w.count, in-room)) in-register in
            cc (rooms, slots, one, two, w.count, w.tape-is, w.register-is)

        pub again : Going s tape₀ register₀ after entered n (used + own) (k + 1)
        again =
            record {
              whole = onward ∙ go.whole;
              same-tape = tape-same ∙ go.same-tape;
              same-register = register-same ∙ go.same-register;
              tape-in = omega (arith, in-room, tape-same);
              register-in = omega (arith, in-register, register-same);
            }
