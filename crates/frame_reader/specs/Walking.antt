-- A step of the walk over both lent memories: document 01, "frame.rs: frames and the walk".
use Rattle.std.specs.Prelude.{List, [], ◌∷◌, ℕ, ◌-◌, ◌*◌, length}
use Rattle.types.specs.Answer.{Answer, given, refused}
use Rattle.types.specs.Memory.{splice}
use Rattle.types.specs.Records.{concat_map, record_count}
use Rattle.tables.specs.Tape.{tape_records, WithTape, WithCount}
use Rattle.frame.specs.Walk.{register_records}

-- the answer, with the tape and the register at exit
pub data StepOutcome : Type 0 where
  step_outcome : Answer (WithCount Unit) → List ℕ → List ℕ → StepOutcome

-- the register records that are free
abbrev pub slots_of : ℕ → List ℕ → ℕ
slots_of k register = record_count register_records register - k

-- a frame's records behind the used ones, and its entry behind the k that are there; after a refusal both memories as they were
abbrev pub fill_both : {A : Type 0} → ℕ → ℕ → ℕ → List ℕ → List ℕ → Answer (WithTape A) → StepOutcome
fill_both at used k tape register (given x n) =
    step_outcome (given (record { value = tt; count = length x.tape }) n)
    (splice (used * tape_records.size) (concat_map tape_records.words x.tape) tape)
    (splice (k * register_records.size) (at ∷ used ∷ length x.tape ∷ []) register)
fill_both at used k tape register (refused r) = step_outcome (refused r) tape register
