-- What the answers of the code say: the kind of a letter, the record of a tape.
use Rattle.std.specs.Prelude.{Option, Some, None}
use Rattle.values.specs.Values as values
use Rattle.values.specs.Values.{value_of}
use Rattle.values.specs.declared.FieldValue.{FieldValue}
use Rattle.types.specs.Octets.{number_width}
use Rattle.tables.specs.Letters as kind
use Rattle.tables.specs.Letters.{number, boolean, decimal, leaf, container, unknown}
use Rattle.tables.specs.Forest.{Words, words}
use Rattle.tables.specs.Tape.{Record}
use Rattle.tables.specs.declared.PayloadWords.{PayloadWords}
use Rattle.tables.specs.declared.TapeRecord.{TapeRecord}
use Rattle.tables.specs.declared.Kind.{Kind}
use Rattle.tables.specs.declared.Kind.TheVariants as code

abbrev pub answer_of_kind : Kind → kind.Kind
answer_of_kind (code.Number width) = leaf (number (number_width width))
answer_of_kind code.Void = leaf (number 0)
answer_of_kind code.Boolean = leaf boolean
answer_of_kind code.Decimal = leaf decimal
answer_of_kind code.LongStr = leaf kind.long_str
answer_of_kind (code.Container named) = container named

-- the kind of a letter, which may have none
abbrev pub kind_or_unknown : Option Kind → kind.Kind
kind_or_unknown (Some k) = answer_of_kind k
kind_or_unknown None = unknown

-- Records

abbrev pub payload_words : PayloadWords → Words
payload_words x = words x.first x.second

abbrev pub record_of : TapeRecord → Record
record_of r = record { letter = r.letter; name = r.name; payload = payload_words r.payload; beneath = r.beneath }

-- the leaf value that a record holds
abbrev pub leaf_value : TapeRecord → Option FieldValue
leaf_value r = value_of (values.leaf r.letter r.payload.first r.payload.second)
