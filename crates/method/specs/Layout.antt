-- The layouts as the code has them: what each of its fields is.
use Rattle.std.specs.Prelude.{Bool, true, false, List, [], ◌∷◌, map, ℕ, zero, suc}
use Rattle.std.specs.Prelude.{Option, None, Some}
use Rattle.std.proofs.Common.{Bor}
use Rattle.types.specs.Strings.{short_str}
pub use Rattle.types.specs.Octets.{number_width}
use Rattle.method.specs.Fields as field
use Rattle.method.specs.Fields.{number, bits, login, table, Field, fixed, arg}
use Rattle.method.specs.Commands.{client_properties, plain, en_us}
use Rattle.method.specs.declared.layout.Bits.{Bits}
use Rattle.method.specs.declared.layout.Bits.TheVariants.{Lowest, Second, Both}
use Rattle.method.specs.declared.fixed.Fixed.{Fixed}
use Rattle.method.specs.declared.fixed.Fixed.TheVariants.{Zero, TwoZeros, FourZeros, ClientProperties, Plain, EnUs}
use Rattle.method.specs.declared.layout.Field.{Field as CodeField}
use Rattle.method.specs.declared.layout.Field.TheVariants as code

abbrev pub zeros : ℕ → List ℕ
zeros zero = []
zeros (suc k) = 0 ∷ zeros k

abbrev pub fixed_octets : Fixed → List ℕ
fixed_octets Zero = zeros 1
fixed_octets TwoZeros = zeros 2
fixed_octets FourZeros = zeros 4
fixed_octets ClientProperties = client_properties
fixed_octets Plain = short_str plain
fixed_octets EnUs = short_str en_us

-- the bits that are arguments, lowest first
abbrev pub places : Bits → List Bool
places Lowest = true ∷ []
places Second = false ∷ true ∷ []
places Both = true ∷ true ∷ []

abbrev pub field_of : CodeField → Field
field_of (code.Number n) = arg (number (number_width n))
field_of code.ShortStr = arg field.short_str
field_of (code.Bits b) = arg (bits (places b))
field_of code.Login = arg login
field_of code.Table = arg table
field_of (code.Fixed x) = fixed (fixed_octets x)

-- the octets of a fixed field; an argument has none
abbrev pub fixed_part : Field → List ℕ
fixed_part (fixed xs) = xs
fixed_part (arg k) = []

-- the fields of a layout, if it is that of a command
abbrev pub layout_fields : Option (Bor (List CodeField)) → Option (List Field)
layout_fields (Some l) = Some (map field_of l.now)
layout_fields None = None
