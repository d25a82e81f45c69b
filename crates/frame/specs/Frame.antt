-- Frames: 0-9-1, 4.2.3, and document 01, "frame.rs: frames and the walk". Type octet, channel, size, payload, frame end.
use Rattle.std.specs.Prelude.{Bool, true, cond, List, [], ◌∷◌, ◌++◌, ℕ, ◌+◌, length, get_or, leb, eqb}
use Rattle.std.specs.Prelude.{Option, None, Some}
use Rattle.types.specs.Answer.{Answer, given, truncated, unsupported_field_type, need}
use Rattle.types.specs.Octets.{number_at, octets}
use Rattle.types.specs.Strings.{judge_length}
use Rattle.types.specs.Memory.{Outcome}
use Rattle.types.specs.declared.Span.{Span}
use Rattle.writers.specs.Writers.{write_at}

-- 1 method, 2 header, 3 body, 8 heartbeat
abbrev pub is_frame_type : ℕ → Bool
is_frame_type t = cond (eqb t 1) true (cond (eqb t 2) true (cond (eqb t 3) true (eqb t 8)))

-- the frame type of an octet, if it is one
abbrev pub known_type : ℕ → Option ℕ
known_type t = cond (is_frame_type t) (Some t) None

-- CE
abbrev pub frame_end : ℕ
frame_end = 206

-- a frame where it stands
pub record Frame : Type 0 where
  pub type : ℕ
  pub channel : ℕ
  pub payload : Span

-- under 7 octets 1; type 3; incomplete 1; frame end 3; else size + 8 consumed
unfoldable pub frame_at : List ℕ → ℕ → ℕ → Answer Frame
frame_at s p n =
    need (leb (p + n + 8) (length s)) truncated
    (need (eqb (get_or s (p + 7 + n) 0) frame_end) (unsupported_field_type (get_or s (p + 7 + n) 0))
    (given (record { type = get_or s p 0; channel = number_at 2 s (p + 1); payload = record { start = p + 7; len = n } }) (p + n + 8)))

unfoldable pub decode_at : List ℕ → ℕ → Answer Frame
decode_at s p =
    need (leb (p + 7) (length s)) truncated
    (need (is_frame_type (get_or s p 0)) (unsupported_field_type (get_or s p 0)) (frame_at s p (number_at 4 s (p + 3))))

unfoldable pub frame_octets : ℕ → ℕ → List ℕ → List ℕ
frame_octets type channel payload = octets 1 type ++ (octets 2 channel ++ (octets 4 (length payload) ++ (payload ++ (frame_end ∷ []))))

unfoldable pub encode : ℕ → ℕ → List ℕ → ℕ → List ℕ → Outcome Unit
encode type channel payload at out = write_at (judge_length (length payload)) (frame_octets type channel payload) at out
