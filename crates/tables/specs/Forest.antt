-- The values of tables in reading order, each with those beneath it (first child, next sibling), as located and by their meaning: document 01,
-- "types.rs: tables and the tape". N is a name, W a payload.
use Rattle.std.specs.Prelude.{ℕ, suc, ◌+◌, List, []}
use Rattle.types.specs.Strings.{octets_of}
use Rattle.types.specs.declared.Span.{Span}
use Rattle.tables.specs.Letters.{Leaf, number, boolean, decimal, long_str, short_str, Kind, leaf, container, unknown, Letters, kind_of}

pub data Forest (N W : Type 0) : Type 0 where
  none : Forest N W
  -- name, letter, payload, values beneath, values after
  item : N → ℕ → W → Forest N W → Forest N W → Forest N W

-- the number of values, at any depth
unfoldable pub size : {N W : Type 0} → Forest N W → ℕ
size none = 0
size (item n c w u t) = suc (size u + size t)

-- Located in a pool of octets: names are spans, and a payload is the tape's two words

pub record Words : Type 0 where
  pub first : ℕ
  pub second : ℕ

abbrev pub words : ℕ → ℕ → Words
words a b = record { first = a; second = b }

abbrev pub LocatedTable : Type 0
LocatedTable = Forest Span Words

-- The meaning: pool offsets do not count

pub record PayloadMeaning : Type 0 where
  pub first : ℕ
  pub second : ℕ
  pub text : List ℕ

abbrev pub TableMeaning : Type 0
TableMeaning = Forest (List ℕ) PayloadMeaning

abbrev pub numbers : Words → PayloadMeaning
numbers x = record { first = x.first; second = x.second; text = [] }

abbrev pub text_of : List ℕ → Words → PayloadMeaning
text_of pool x = record { first = 0; second = 0; text = octets_of pool (record { start = x.first; len = x.second }) }

abbrev pub leaf_meaning : Leaf → List ℕ → Words → PayloadMeaning
leaf_meaning (number k) pool x = numbers x
leaf_meaning boolean pool x = numbers x
leaf_meaning decimal pool x = numbers x
leaf_meaning long_str pool x = text_of pool x
leaf_meaning short_str pool x = text_of pool x

abbrev pub payload_meaning : Kind → List ℕ → Words → PayloadMeaning
payload_meaning (leaf l) pool x = leaf_meaning l pool x
payload_meaning (container named) pool x = numbers x
payload_meaning unknown pool x = numbers x

unfoldable pub meaning_of : Letters → List ℕ → LocatedTable → TableMeaning
meaning_of letters pool none = none
meaning_of letters pool (item n c x u t) =
    item (octets_of pool n) c (payload_meaning (kind_of letters c) pool x) (meaning_of letters pool u) (meaning_of letters pool t)
