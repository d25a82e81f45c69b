-- A table: its entries are on the tape.
use Rattle.std.specs.Prelude.{true, [], ◌∷◌, ℕ, length, get_or}
use Rattle.types.specs.Answer.{given, and_then}
use Rattle.types.specs.Strings.{judge_length}
use Rattle.tables.specs.Forest.{TableMeaning, LocatedTable, size}
use Rattle.tables.specs.Tape.{flatten}
use Rattle.tables.specs.Reading.{table_at}
use Rattle.tables.specs.Writing.{body, table_octets, judge_table}
use Rattle.method.specs.Kinds.{FieldKind}

-- its first octet and its entries
pub record TableIn : Type 0 where
  pub start : ℕ
  pub entries : LocatedTable

abbrev pub table_kind : FieldKind
table_kind =
    record {
      Meaning = TableMeaning;
      Located = TableIn;
      Pooled = ℕ;
      pooled = λ t. size t.entries;
      meaning = λ pool t n. t;
      at = λ letters s p room. and_then (table_at letters s p room) (λ t q. given (record { start = p; entries = t }) q);
      octets = λ letters t. table_octets letters t;
      judge = λ letters pool tape n. judge_table letters pool tape;
      judge_length = λ letters t. judge_length (length (body letters true t));
      Typed = λ n. Unit {0};
      NoNul = λ t. Unit {0};
      tape = λ t. flatten t.entries;
      start = λ t. t.start;
      used = λ n. n;
      values = λ t. size t;
      width = 1;
      words = λ n. n ∷ [];
      from = λ ws. get_or ws 0 0;
      cut = λ n. n;
    }
