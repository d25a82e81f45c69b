-- Value letters: document 01, "types.rs: tables and the tape", with the RabbitMQ errata. Everything about tables takes the list of letters.
use Rattle.std.specs.Prelude.{ℕ, Bool, true, false, List, [], ◌∷◌}
use Rattle.types.specs.Lookup.{Row, row, lookup}

-- a number of so many octets (of none: no payload); a truth value; a scale octet and a number of four; a long string; a short string,
-- which has no letter in the errata
pub data Leaf : Type 0 where
  number : ℕ → Leaf
  boolean decimal long_str short_str : Leaf

-- container true is a table, which has names; container false an array
pub data Kind : Type 0 where
  leaf : Leaf → Kind
  container : Bool → Kind
  unknown : Kind

abbrev pub Letters : Type 0
Letters = List (Row Kind)

-- in the document's order
abbrev pub errata : Letters
errata =
    row 116 (leaf boolean)  -- t
    ∷ row 98 (leaf (number 1))  -- b
    ∷ row 66 (leaf (number 1))  -- B
    ∷ row 115 (leaf (number 2))  -- s
    ∷ row 117 (leaf (number 2))  -- u
    ∷ row 73 (leaf (number 4))  -- I
    ∷ row 105 (leaf (number 4))  -- i
    ∷ row 108 (leaf (number 8))  -- l
    ∷ row 102 (leaf (number 4))  -- f
    ∷ row 100 (leaf (number 8))  -- d
    ∷ row 68 (leaf decimal)  -- D
    ∷ row 83 (leaf long_str)  -- S
    ∷ row 120 (leaf long_str)  -- x
    ∷ row 84 (leaf (number 8))  -- T
    ∷ row 86 (leaf (number 0))  -- V
    ∷ row 70 (container true)  -- F
    ∷ row 65 (container false)  -- A
    ∷ []

unfoldable pub kind_of : Letters → ℕ → Kind
kind_of letters c = lookup unknown letters c

-- whether the values of a container have names
abbrev pub is_table : Kind → Bool
is_table (leaf l) = false
is_table (container named) = named
is_table unknown = false
