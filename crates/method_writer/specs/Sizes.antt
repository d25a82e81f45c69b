-- What the first pass answers of fields: the first refusal of an argument, a length that is too great, or how many octets there are to write.
use Rattle.std.specs.Prelude.{Option, None, Some}
use Rattle.std.specs.Prelude.{List, ℕ, ◌+◌, length}
use Rattle.types.specs.Answer.{Refusal}
use Rattle.tables.specs.Letters.{Letters}
use Rattle.method.specs.Fields.{Kind, Field, fixed, arg, Meaning, Args}
use Rattle.method.specs.Writing.{arg_octets, field_octets, judge_arg_length, judge_lengths}
use Rattle.method.specs.Pooled.{pooled_meaning, pooled_meanings, judge_arg, judge_args}
use Rattle.method.specs.Words.{arg_from, args_from}

pub data Size : Type 0 where
  octets : ℕ → Size
  long : Size
  refused : Refusal → Size

-- the arguments, then the lengths, then the size
abbrev pub sized : Option Refusal → Option Refusal → ℕ → Size
sized (Some r) lengths n = refused r
sized None (Some r) n = long
sized None None n = octets n

-- one size and then another: the first refusal, then a length that is too great, then the sum
abbrev pub both : Size → Size → Size
both (refused r) b = refused r
both long (refused r) = refused r
both long long = long
both long (octets n) = long
both (octets m) (refused r) = refused r
both (octets m) long = long
both (octets m) (octets n) = octets (m + n)

-- how many octets there are, if they can be counted
abbrev pub count : Size → ℕ
count (octets n) = n
count long = 0
count (refused r) = 0

module _ (letters : Letters) (pool tape : List ℕ) where
  -- what an argument and arguments mean, from their words

  abbrev pub arg_meaning : (k : Kind) → List ℕ → Meaning k
  arg_meaning k ws = pooled_meaning letters pool tape k (arg_from k ws)

  abbrev pub args_meaning : (fs : List Field) → List ℕ → Args Meaning fs
  args_meaning fs ws = pooled_meanings letters pool tape fs (args_from fs ws)

  -- a field, and fields

  unfoldable pub field_size : Field → List ℕ → Size
  field_size (fixed xs) ws = octets (length xs)
  field_size (arg k) ws =
      sized (judge_arg letters pool tape k (arg_from k ws)) (judge_arg_length letters k (arg_meaning k ws)) (length (arg_octets letters k (arg_meaning k ws)))

  unfoldable pub fields_size : List Field → List ℕ → Size
  fields_size fs ws =
      sized (judge_args letters pool tape fs (args_from fs ws)) (judge_lengths letters fs (args_meaning fs ws)) (length (field_octets letters fs (args_meaning fs ws)))

  -- the octets of a field

  unfoldable pub octets_of : Field → List ℕ → List ℕ
  octets_of (fixed xs) ws = xs
  octets_of (arg k) ws = arg_octets letters k (arg_meaning k ws)

  unfoldable pub octets_of_all : List Field → List ℕ → List ℕ
  octets_of_all fs ws = field_octets letters fs (args_meaning fs ws)
