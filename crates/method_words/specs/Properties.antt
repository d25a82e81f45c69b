-- The properties of a content header one by one: put behind those before it with its flag, or taken from the words that are left.
use Rattle.std.specs.Prelude.{◌≡◌, cond, Bool, List, [], ℕ, ◌+◌, ◌*◌, ◌%◌, length, drop, get_or, leb}
use Rattle.std.specs.Prelude.{Option, None, Some}
use Rattle.bits.specs.Flags.{bit}
use Rattle.types.specs.Memory.{splice}
use Rattle.types.specs.declared.Span.{Span}
use Rattle.method.specs.Fields.{Kind}
use Rattle.method.specs.Words.{arg_words}
use Rattle.method.specs.AnswerOf.{Optional, is_there}
use Rattle.method.specs.Kinds.ShortStr.{span_from}
use Rattle.method_words.specs.declared.properties.PropertyWriter.{PropertyWriter}
use Rattle.method_words.specs.declared.headers.PropertyReader.{PropertyReader}

-- A property as words, none if it is absent
abbrev pub optional_words : (k : Kind) → Optional k → Option (List ℕ)
optional_words k None = None
optional_words k (Some v) = Some (arg_words k v)

abbrev pub words_or : Option (List ℕ) → List ℕ
words_or None = []
words_or (Some ws) = ws

pub record Put (ws : Option (List ℕ)) (before after : PropertyWriter) (old new : List ℕ) : Type 0 where
  pub flags : after.flags ≡ before.flags * 2 + bit (is_there ws)
  pub next : after.at ≡ before.at + length (words_or ws)
  pub memory : new ≡ splice before.at (words_or ws) old

-- A property that is taken: present if its flag is set, which is the highest of thirteen; its words are the next ones

abbrev pub is_next : PropertyReader → Bool
is_next rest = leb 4096 rest.flags

abbrev pub next_of : {A : Type 0} → (List ℕ → A) → PropertyReader → Option A
next_of take rest = cond (is_next rest) (Some (take (drop rest.at rest.words.now))) None

-- what is left behind one of so many words: its flag is gone, and the others are each one place higher
abbrev pub rest_of : ℕ → PropertyReader → PropertyReader
rest_of width rest = record { words = rest.words; flags = rest.flags % 4096 * 2; at = cond (is_next rest) (rest.at + width) rest.at }

-- a string, and a number of any width

abbrev pub span_in : List ℕ → Span
span_in ws = span_from ws

abbrev pub number_in : List ℕ → ℕ
number_in ws = get_or ws 0 0
