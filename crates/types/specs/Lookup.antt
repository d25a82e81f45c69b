-- A table from octets to anything, row by row; the first row with the octet counts.
use Rattle.std.specs.Prelude.{cond, ℕ, List, [], ◌∷◌, eqb}

pub record Row (A : Type 0) : Type 0 where
  pub octet : ℕ
  pub value : A

abbrev pub row : {A : Type 0} → ℕ → A → Row A
row c a = record { octet = c; value = a }

-- the octet's value, or another one
abbrev pub lookup : {A : Type 0} → A → List (Row A) → ℕ → A
lookup other [] c = other
lookup other (r ∷ rs) c = cond (eqb c r.octet) r.value (lookup other rs c)
