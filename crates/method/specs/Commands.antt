-- The command table, line by line as in document 01, "method.rs: commands".
use Rattle.std.specs.Prelude.{Bool, true, false, ◌&&◌, cond, List, [], ◌∷◌, ◌++◌, ℕ, eqb}
use Rattle.std.specs.Prelude.{Option, None, Some}
use Rattle.types.specs.Strings.{short_str, long_str}
use Rattle.method.specs.Fields as field
use Rattle.method.specs.Fields.{Kind, number, bits, login, Field, fixed, arg, Args}

-- the document's abbreviations

abbrev pub H : Field
H = arg (number 2)

abbrev pub L : Field
L = arg (number 4)

abbrev pub Q : Field
Q = arg (number 8)

abbrev pub s : Field
s = arg field.short_str

abbrev pub z : Field
z = fixed (0 ∷ 0 ∷ [])

abbrev pub s0 : Field
s0 = fixed (short_str [])

abbrev pub e : Field
e = fixed (0 ∷ 0 ∷ 0 ∷ 0 ∷ [])

-- a bit octet, lowest bit first: true for an argument, false for a fixed bit. All bits behind the last argument are fixed too, and so is an
-- octet without an argument
abbrev pub with_bit : Bool → List Bool → List Bool
with_bit false [] = []
with_bit false (p ∷ places) = false ∷ p ∷ places
with_bit true places = true ∷ places

abbrev pub up_to_last : List Bool → List Bool
up_to_last [] = []
up_to_last (p ∷ places) = with_bit p (up_to_last places)

abbrev pub bit_octet : List Bool → Field
bit_octet [] = fixed (0 ∷ [])
bit_octet (p ∷ places) = arg (bits (p ∷ places))

abbrev pub b : List Bool → Field
b places = bit_octet (up_to_last places)

-- product ZeroDDS, version 1.0, as S
abbrev pub client_properties : List ℕ
client_properties =
    long_str
    (short_str (112 ∷ 114 ∷ 111 ∷ 100 ∷ 117 ∷ 99 ∷ 116 ∷ [])  -- product
    ++ (83 ∷ long_str (90 ∷ 101 ∷ 114 ∷ 111 ∷ 68 ∷ 68 ∷ 83 ∷ []))  -- S, ZeroDDS
    ++ short_str (118 ∷ 101 ∷ 114 ∷ 115 ∷ 105 ∷ 111 ∷ 110 ∷ [])  -- version
    ++ (83 ∷ long_str (49 ∷ 46 ∷ 48 ∷ [])))  -- S, 1.0

abbrev pub plain : List ℕ
plain = 80 ∷ 76 ∷ 65 ∷ 73 ∷ 78 ∷ []  -- PLAIN

abbrev pub en_us : List ℕ
en_us = 101 ∷ 110 ∷ 95 ∷ 85 ∷ 83 ∷ []  -- en_US

pub record Row : Type 0 where
  pub class : ℕ
  pub method : ℕ
  pub fields : List Field

abbrev row : ℕ → ℕ → List Field → Row
row c m fs = record { class = c; method = m; fields = fs }

unfoldable pub commands : List Row
commands =
    row 10 11 (fixed client_properties ∷ fixed (short_str plain) ∷ arg login ∷ fixed (short_str en_us) ∷ [])  -- connection.start-ok
    ∷ row 10 31 (H ∷ L ∷ H ∷ [])  -- connection.tune-ok
    ∷ row 10 40 (s ∷ s0 ∷ b (false ∷ []) ∷ [])  -- connection.open
    ∷ row 20 10 (s0 ∷ [])  -- channel.open
    ∷ row 20 20 (b (true ∷ []) ∷ [])  -- channel.flow
    ∷ row 20 21 (b (true ∷ []) ∷ [])  -- channel.flow-ok
    ∷ row 20 40 (H ∷ s ∷ z ∷ z ∷ [])  -- channel.close
    ∷ row 20 41 []  -- channel.close-ok
    ∷ row 40 10 (z ∷ s ∷ s ∷ b (false ∷ true ∷ false ∷ false ∷ false ∷ []) ∷ e ∷ [])  -- exchange.declare
    ∷ row 40 20 (z ∷ s ∷ b (true ∷ false ∷ []) ∷ [])  -- exchange.delete
    ∷ row 50 10 (z ∷ s ∷ b (false ∷ true ∷ false ∷ false ∷ false ∷ []) ∷ e ∷ [])  -- queue.declare
    ∷ row 50 20 (z ∷ s ∷ s ∷ s ∷ b (false ∷ []) ∷ e ∷ [])  -- queue.bind
    ∷ row 50 50 (z ∷ s ∷ s ∷ s ∷ e ∷ [])  -- queue.unbind
    ∷ row 50 30 (z ∷ s ∷ b (false ∷ []) ∷ [])  -- queue.purge
    ∷ row 50 40 (z ∷ s ∷ b (false ∷ false ∷ false ∷ []) ∷ [])  -- queue.delete
    ∷ row 60 10 (L ∷ H ∷ b (true ∷ []) ∷ [])  -- basic.qos
    ∷ row 60 20 (z ∷ s ∷ s ∷ b (false ∷ true ∷ false ∷ false ∷ []) ∷ e ∷ [])  -- basic.consume
    ∷ row 60 30 (s ∷ b (true ∷ []) ∷ [])  -- basic.cancel
    ∷ row 60 40 (z ∷ s ∷ s ∷ b (false ∷ false ∷ []) ∷ [])  -- basic.publish
    ∷ row 60 70 (z ∷ s ∷ b (true ∷ []) ∷ [])  -- basic.get
    ∷ row 60 80 (Q ∷ b (true ∷ []) ∷ [])  -- basic.ack
    ∷ row 60 90 (Q ∷ b (true ∷ []) ∷ [])  -- basic.reject
    ∷ row 60 120 (Q ∷ b (true ∷ true ∷ []) ∷ [])  -- basic.nack
    ∷ row 85 10 (b (true ∷ []) ∷ [])  -- confirm.select
    ∷ row 90 10 []  -- tx.select
    ∷ []

abbrev pub fields_in : List Row → ℕ → ℕ → Option (List Field)
fields_in [] c m = None
fields_in (r ∷ rs) c m = cond (eqb c r.class && eqb m r.method) (Some r.fields) (fields_in rs c m)

abbrev pub is_some : Option (List Field) → Bool
is_some None = false
is_some (Some fs) = true

abbrev pub or_none : Option (List Field) → List Field
or_none None = []
or_none (Some fs) = fs

-- the pair is in the command table
unfoldable pub known : ℕ → ℕ → Bool
known c m = is_some (fields_in commands c m)

-- the fields of a pair that is
unfoldable pub fields_of : ℕ → ℕ → List Field
fields_of c m = or_none (fields_in commands c m)

-- class, method, arguments
pub data Command (X : Kind → Type 0) : Type 0 where
  call : (class method : ℕ) → Args X (fields_of class method) → Command X
