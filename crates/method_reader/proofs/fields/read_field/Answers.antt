-- `method_reader::fields::read_field` meets its contract: each arm is the kind of the field. Assumes nothing.
use mathlib.Core.Path.{refl}
use Rattle.types.specs.Octets.{number_width}
use Rattle.method.specs.Fields.{number, short_str, bits, login, arg, fixed}
use Rattle.method.specs.Layout.{places, fixed_octets}
use Rattle.method_reader.proofs.FieldLaws.{plain-stored, stored-fixed}
use Rattle.method_reader.proofs.fields.read_field.Goals as goal

pub returns-in-Number : goal.returns-in-Number
returns-in-Number c =
    rw (c.in-Number.is, c.without_records.ensures) (plain-stored (arg (number (number_width c.in-Number.width))) refl _ _ _ _ _ _ c.store_number.ensures)

pub returns-in-ShortStr : goal.returns-in-ShortStr
returns-in-ShortStr c =
    rw (c.in-ShortStr.is, c.without_records-in-ShortStr.ensures) (plain-stored (arg short_str) refl _ _ _ _ _ _ c.store_short_str.ensures)

pub returns-in-Bits : goal.returns-in-Bits
returns-in-Bits c =
    rw (c.in-Bits.is, c.without_records-in-Bits.ensures) (plain-stored (arg (bits (places c.in-Bits.arguments))) refl _ _ _ _ _ _ c.store_bits.ensures)

pub returns-in-Login : goal.returns-in-Login
returns-in-Login c =
    rw (c.in-Login.is, c.without_records-in-Login.ensures) (plain-stored (arg login) refl _ _ _ _ _ _ c.store_login.ensures)

pub returns-in-Table : goal.returns-in-Table
returns-in-Table c =
    rw c.in-Table.is c.store_table.ensures

pub returns-in-Fixed : goal.returns-in-Fixed
returns-in-Fixed c =
    rw (c.in-Fixed.is, c.without_records-in-Fixed.ensures) (plain-stored (fixed (fixed_octets _)) tt _ _ _ _ _ _ (stored-fixed (fixed_octets _) _ _ 0 _ _ (rw c.in-Fixed.is at c.read_fixed.ensures)))
