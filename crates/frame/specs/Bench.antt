-- The bench sheet of document 01, "Bench sheet": its sixteen numbered lines as one table of facts about the definitions.
use Rattle.std.specs.Prelude.{◌≡◌, true, false, List, [], ◌∷◌, ◌++◌, ℕ, zero, suc, length, replicate}
use Rattle.types.specs.Answer.{Answer, given, refused, truncated, short_str_too_long, unsupported_field_type, too_deep}
use Rattle.types.specs.Strings.{long_str}
use Rattle.types.specs.Memory.{outcome}
use Rattle.writers.specs.Writers.{write_short_str}
use Rattle.tables.specs.Letters.{errata}
use Rattle.tables.specs.Forest as forest
use Rattle.tables.specs.Forest.{item, words, LocatedTable}
use Rattle.tables.specs.Reading.{no_name, table_at, lone_value_at}
use Rattle.tables.specs.Writing.{write_lone_value}
use Rattle.method.specs.Fields.{Meaning, Pooled}
use Rattle.method.specs.Commands.{commands, fields_of, Command, call}
use Rattle.method.specs.Properties.{properties, select, Header, header}
use Rattle.method.specs.Writing.{command_octets}
use Rattle.method.specs.Pooled.{write_header}
use Rattle.frame.specs.Frame.{decode_at}
use Rattle.frame.specs.Step.{command, heartbeat, step_at}
use Rattle.frame.specs.Writing.{SentFrame, octets_of_frame}

-- a table of one entry "a", whose name is the octet at 5, with a letter and a number
abbrev pub one : ℕ → ℕ → LocatedTable
one letter n = item (record { start = 5; len = 1 }) letter (words n 0) forest.none forest.none

-- a lone value, and its tape
abbrev pub alone : ℕ → ℕ → LocatedTable
alone letter n = item no_name letter (words n 0) forest.none forest.none

abbrev pub tape_of : ℕ → ℕ → List ℕ
tape_of letter n = letter ∷ 0 ∷ 0 ∷ n ∷ 0 ∷ 0 ∷ []

-- Ack 5, multiple, channel 1
unfoldable pub ack : SentFrame
unfolding commands fields_of
ack = record { channel = 1; payload = command (call 60 80 (5, ((true, tt), tt))); pool = []; tape = [] }

-- delivery-mode 2 alone
unfoldable pub persistent : Header Pooled
unfolding select properties
persistent =
    header 60 0 (false ∷ false ∷ false ∷ true ∷ false ∷ false ∷ false ∷ false ∷ false ∷ false ∷ false ∷ false ∷ false ∷ []) (2, tt)

unfoldable pub login_of : List ℕ → List ℕ → Command Meaning
unfolding commands fields_of
login_of user password = call 10 11 (record { user = user; password = password }, tt)

-- k values F one in another, each with the name "a"; the last empty
abbrev pub nested : ℕ → List ℕ
nested zero = []
nested (suc k) = 1 ∷ 97 ∷ 70 ∷ long_str (nested k)

-- a reader's next position, or 0
abbrev pub consumed : {A : Type 0} → Answer A → ℕ
consumed (given a n) = n
consumed (refused r) = 0

abbrev pub zeros : ℕ → List ℕ
zeros n = replicate n 0

pub record BenchSheet : Type 0 where
  pub line-1 : table_at errata (0 ∷ 0 ∷ 0 ∷ 0 ∷ []) 0 0 ≡ given forest.none 4
  pub line-2 : table_at errata (0 ∷ 0 ∷ 0 ∷ 3 ∷ 1 ∷ 97 ∷ 86 ∷ []) 0 1 ≡ given (one 86 0) 7
  pub line-3 : write_short_str (replicate 255 97) 0 (zeros 256) ≡ outcome (given tt 256) (255 ∷ replicate 255 97)
  pub line-4 : write_short_str (replicate 256 97) 0 (zeros 300) ≡ outcome (refused short_str_too_long) (zeros 300)
  pub line-5 : decode_at (replicate 6 9) 0 ≡ refused truncated
  pub line-6 : decode_at (9 ∷ zeros 6) 0 ≡ refused (unsupported_field_type 9)
  pub line-7 : step_at errata (8 ∷ zeros 6 ++ (206 ∷ [])) 0 0 ≡ given (record { value = record { channel = 0; payload = heartbeat }; tape = [] }) 8
  pub line-8 : decode_at (8 ∷ zeros 6 ++ (205 ∷ [])) 0 ≡ refused (unsupported_field_type 205)
  pub line-9 : octets_of_frame errata ack ≡ 1 ∷ 0 ∷ 1 ∷ 0 ∷ 0 ∷ 0 ∷ 13 ∷ 0 ∷ 60 ∷ 0 ∷ 80 ∷ 0 ∷ 0 ∷ 0 ∷ 0 ∷ 0 ∷ 0 ∷ 0 ∷ 5 ∷ 1 ∷ 206 ∷ []
  pub line-10 : table_at errata (0 ∷ 0 ∷ 0 ∷ 2 ∷ 1 ∷ 97 ∷ 116 ∷ 1 ∷ []) 0 1 ≡ given (one 116 1) 8
  pub line-11 : (lone_value_at errata (116 ∷ 2 ∷ []) 0 1 ≡ given (alone 116 1) 2) × (write_lone_value errata [] (tape_of 116 1) 0 (zeros 2) ≡ outcome (given tt 2) (116 ∷ 1 ∷ []))
  pub line-12 : (lone_value_at errata (102 ∷ 127 ∷ 192 ∷ 0 ∷ 1 ∷ []) 0 1 ≡ given (alone 102 2143289345) 5)
      × (write_lone_value errata [] (tape_of 102 2143289345) 0 (zeros 5) ≡ outcome (given tt 5) (102 ∷ 127 ∷ 192 ∷ 0 ∷ 1 ∷ []))
  pub line-13 : write_header errata [] [] persistent 0 (zeros 15) ≡ outcome (given tt 15) (0 ∷ 60 ∷ 0 ∷ 0 ∷ 0 ∷ 0 ∷ 0 ∷ 0 ∷ 0 ∷ 0 ∷ 0 ∷ 0 ∷ 16 ∷ 0 ∷ 2 ∷ [])
  pub line-14 : write_lone_value errata [] (tape_of 84 1700000001) 0 (zeros 9) ≡ outcome (given tt 9) (84 ∷ 0 ∷ 0 ∷ 0 ∷ 0 ∷ 101 ∷ 83 ∷ 241 ∷ 1 ∷ [])
  pub line-15 : command_octets errata (login_of (97 ∷ []) (98 ∷ 0 ∷ 99 ∷ [])) ≡ command_octets errata (login_of (97 ∷ 0 ∷ 98 ∷ []) (99 ∷ []))
  pub line-16 : (consumed (table_at errata (long_str (nested 15)) 0 15) ≡ length (long_str (nested 15))) × (table_at errata (long_str (nested 16)) 0 16 ≡ refused too_deep)
