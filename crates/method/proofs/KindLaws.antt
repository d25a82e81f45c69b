-- The laws of every kind.
use mathlib.Core.Path.{◌≡◌, refl}
use Prim.Native.Nat.{ℕ}
use native.Mathlib.Omega.{arith}
use mathlib.Core.Logic.{◌⊎◌, inl, inr}
use Rattle.tables.specs.Letters.{Letters}
use Rattle.method.specs.Fields.{Kind, number, short_str, bits, login, table, kind}
use Rattle.method.proofs.Kind.{Tableless, KindLaws}
use Rattle.method.proofs.NumberLaws.{number_laws}
use Rattle.method.proofs.ShortStrLaws.{short_str_laws}
use Rattle.method.proofs.BitsLaws.{bits_laws}
use Rattle.method.proofs.LoginLaws.{login_laws}
use Rattle.method.proofs.TableLaws.{table_laws}

abbrev pub laws : (letters : Letters) (k : Kind) → KindLaws letters (kind k)
laws letters (number k) = number_laws letters k
laws letters short_str = short_str_laws letters
laws letters (bits places) = bits_laws letters places
laws letters login = login_laws letters
laws letters table = table_laws letters

-- a kind is the table, or has none
abbrev pub table_or_not : (k : Kind) → Tableless (kind k) ⊎ (k ≡ table)
table_or_not (number k) = inl (record { no-tape = λ v. refl; no_room = λ letters s p room. refl })
table_or_not short_str = inl (record { no-tape = λ v. refl; no_room = λ letters s p room. refl })
table_or_not (bits places) = inl (record { no-tape = λ v. refl; no_room = λ letters s p room. refl })
table_or_not login = inl (record { no-tape = λ v. refl; no_room = λ letters s p room. refl })
table_or_not table = inr refl

abbrev pub count : {A B : Type 0} → A ⊎ B → ℕ
count (inl a) = 0
count (inr b) = 1

abbrev pub is_table : Kind → ℕ
is_table k = count (table_or_not k)

pub tableless : (k : Kind) → is_table k ≡ 0 → Tableless (kind k)
tableless k e = go (table_or_not k) e
  where
    go : (o : Tableless (kind k) ⊎ (k ≡ table)) → count o ≡ 0 → Tableless (kind k)
    go (inl t) h = t
    go (inr w) h = absurd (omega arith)
