-- The walk: the step repeated from octet 0, each table taking the tape after the one before; the register; the list returned.
-- Document 01, "frame.rs: frames and the walk".
use Rattle.std.specs.Prelude.{Option, None, Some}
use Rattle.std.specs.Prelude.{cond, List, [], ◌∷◌, ◌++◌, ℕ, zero, suc, ◌+◌, ◌-◌, length, take, drop, get_or, ltb}
use Rattle.types.specs.Answer.{Refusal, Answer, given, refused}
use Rattle.types.specs.Memory.{splice}
use Rattle.types.specs.Records.{RecordFormat, concat_map, first_records, record_count, records}
use Rattle.types.specs.declared.Span.{Span}
use Rattle.tables.specs.Letters.{Letters}
use Rattle.tables.specs.Tape.{Record, tape_records, WithTape}
use Rattle.method.specs.Fields.{Meaning, Pooled}
use Rattle.frame.specs.Step.{FrameOf, step_at, walk_step_at, frame_meaning}

-- first octet; tape records used before it; tape records of its own
pub record Entry : Type 0 where
  pub first : ℕ
  pub before : ℕ
  pub own : ℕ

abbrev pub register_records : RecordFormat Entry
register_records =
    record {
      size = 3;
      words = λ e. e.first ∷ e.before ∷ e.own ∷ [];
      read = λ ws. record { first = get_or ws 0 0; before = get_or ws 1 0; own = get_or ws 2 0 };
    }

-- the entries and the tape records of the frames read, the octets consumed, none or the refusal that stopped it
pub record WalkResult : Type 0 where
  pub register : List Entry
  pub tape : List Record
  pub consumed : ℕ
  pub refusal : Option Refusal

abbrev pub ended : ℕ → Option Refusal → WalkResult
ended p refusal = record { register = []; tape = []; consumed = p; refusal = refusal }

-- a frame read at p, before the rest of a walk
abbrev pub push : ℕ → ℕ → List Record → WalkResult → WalkResult
push p used rs w =
    record { register = record { first = p; before = used; own = length rs } ∷ w.register; tape = rs ++ w.tape; consumed = w.consumed; refusal = w.refusal }

-- a step of the walk: octets, position, register records left, tape records left
abbrev pub WalkStep : Type 0 → Type 0
WalkStep A = List ℕ → ℕ → ℕ → ℕ → Answer (WithTape A)

abbrev pub after_step : {A : Type 0} → ℕ → ℕ → Answer (WithTape A) → (List Record → ℕ → WalkResult) → WalkResult
after_step p used (given x n) rest = push p used x.tape (rest x.tape n)
after_step p used (refused r) rest = ended p (Some r)

-- steps until no octet is left or one refuses. At most `fuel` of them: each consumes an octet at least
unfoldable pub walk_from : {A : Type 0} → WalkStep A → ℕ → List ℕ → ℕ → ℕ → ℕ → ℕ → WalkResult
walk_from step zero s p slots room used = ended p None
walk_from step (suc fuel) s p slots room used =
    cond (ltb p (length s))
    (after_step p used (step s p slots room) (λ rs n. walk_from step fuel s n (slots - 1) (room - length rs) (used + length rs)))
    (ended p None)

-- what a walk answers, and the whole of the lent tape and register at exit
pub record WalkOutcome : Type 0 where
  pub frames : ℕ
  pub consumed : ℕ
  pub refusal : Option Refusal
  pub tape : List ℕ
  pub register : List ℕ

abbrev pub outcome_of_walk : List ℕ → List ℕ → WalkResult → WalkOutcome
outcome_of_walk tape register w =
    record {
      frames = length w.register;
      consumed = w.consumed;
      refusal = w.refusal;
      tape = splice 0 (concat_map tape_records.words w.tape) tape;
      register = splice 0 (concat_map register_records.words w.register) register;
    }

module _ (letters : Letters) where
  -- the walk over octets, with a tape and a register wholly free
  unfoldable pub walk : List ℕ → List ℕ → List ℕ → WalkOutcome
  walk s tape register =
      outcome_of_walk tape register
      (walk_from (walk_step_at letters) (length s) s 0 (record_count register_records register) (record_count tape_records tape) 0)

  -- the meaning of the step's answer at a registered octet, with the tape records registered for it
  abbrev pub meaning_at : List ℕ → Answer (WithTape (FrameOf Pooled Span)) → List Record → Option (FrameOf Meaning (List ℕ))
  meaning_at s (given x n) rs = Some (frame_meaning letters s x.value rs)
  meaning_at s (refused r) rs = None

  abbrev pub list_at : List ℕ → List Record → List Entry → List (Option (FrameOf Meaning (List ℕ)))
  list_at s tape [] = []
  list_at s tape (e ∷ es) =
      meaning_at s (step_at letters s e.first e.own) (take e.own (drop e.before tape)) ∷ list_at s tape es

  -- the list returned: as many as frames read
  unfoldable pub returned : List ℕ → WalkOutcome → List (Option (FrameOf Meaning (List ℕ)))
  returned s w = list_at s (records tape_records w.tape) (first_records register_records w.frames w.register)
