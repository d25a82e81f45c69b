-- The bench sheet holds: each line by computing.
use mathlib.Core.Path.{◌≡◌, refl, sym, ◌∙◌}
use mathlib.Core.List.{List, [], ◌∷◌}
use Prim.Native.Nat.{ℕ}
use Rattle.utf8.specs.Utf8.{character, fault_from, fault, utf8}
use Rattle.types.specs.Octets.{number_at, uint_at}
use Rattle.types.specs.Strings.{span_at, long_str_at, short_str_at}
use Rattle.types.specs.Memory.{splice}
use Rattle.writers.specs.Writers.{write_at, write_short_str}
use Rattle.types.specs.Records.{first_records}
use Rattle.tables.specs.Letters.{errata, kind_of}
use Rattle.tables.specs.Forest.{size, meaning_of}
use Rattle.tables.specs.Reading.{leaf_at, name_at, entries_with_fuel, entries_at, container_at, payload_at, value_with, value_at, table_at, lone_value_at}
use Rattle.tables.specs.Tape.{flatten, unflatten}
use Rattle.tables.specs.Writing.{body, judge_record, judge_with_fuel, judge_records, judge_lone_value, tape_meaning, write_lone_value}
use Rattle.method.specs.Commands.{commands, fields_of}
use Rattle.method.specs.Properties.{properties, select}
use Rattle.method.specs.Writing.{field_octets, command_octets, header_octets, judge_lengths}
use Rattle.frame.specs.Frame.{frame_at, decode_at, frame_octets}
use Rattle.frame.specs.Step as step
use Rattle.frame.specs.Step.{frame_with_payload_at, step_at}
use Rattle.method.specs.Pooled.{pooled_meanings, judge_args, write_header}
use Rattle.method.specs.Kinds.Bits.{octet_of}
use Rattle.frame.specs.Writing.{frame_payload_octets}
use Rattle.frame.specs.Bench.{ack, persistent, login_of, BenchSheet}

-- what either login writes
octets-15 : List ℕ
octets-15 = 0 ∷ 10 ∷ 0 ∷ 11 ∷ 0 ∷ 0 ∷ 0 ∷ 36 ∷ 7 ∷ 112 ∷ 114 ∷ 111 ∷ 100 ∷ 117 ∷ 99 ∷ 116 ∷ 83 ∷ 0 ∷ 0 ∷ 0 ∷ 7 ∷ 90 ∷ 101 ∷ 114 ∷ 111 ∷ 68 ∷ 68 ∷ 83 ∷ 7 ∷ 118 ∷ 101 ∷ 114 ∷ 115 ∷ 105 ∷ 111 ∷ 110 ∷ 83 ∷ 0 ∷ 0 ∷ 0 ∷ 3 ∷ 49 ∷ 46 ∷ 48 ∷ 5 ∷ 80 ∷ 76 ∷ 65 ∷ 73 ∷ 78 ∷ 0 ∷ 0 ∷ 0 ∷ 6 ∷ 0 ∷ 97 ∷ 0 ∷ 98 ∷ 0 ∷ 99 ∷ 5 ∷ 101 ∷ 110 ∷ 95 ∷ 85 ∷ 83 ∷ []

first-15 : command_octets errata (login_of (97 ∷ []) (98 ∷ 0 ∷ 99 ∷ [])) ≡ octets-15
unfolding field_octets command_octets commands fields_of login_of octets-15
first-15 = refl

second-15 : command_octets errata (login_of (97 ∷ 0 ∷ 98 ∷ []) (99 ∷ [])) ≡ octets-15
unfolding field_octets command_octets commands fields_of login_of octets-15
second-15 = refl

pub bench-sheet : BenchSheet
unfolding pooled_meanings character fault_from fault utf8 number_at uint_at span_at long_str_at short_str_at splice write_at first_records kind_of size meaning_of leaf_at name_at entries_with_fuel entries_at container_at payload_at value_with value_at table_at lone_value_at flatten unflatten body judge_record judge_with_fuel judge_records judge_lone_value tape_meaning write_lone_value commands fields_of properties select octet_of field_octets command_octets header_octets judge_args judge_lengths write_header write_short_str frame_at decode_at frame_octets step.payload_at frame_with_payload_at step_at frame_payload_octets ack persistent login_of
bench-sheet =
    record {
      line-1 = refl;
      line-2 = refl;
      line-3 = refl;
      line-4 = refl;
      line-5 = refl;
      line-6 = refl;
      line-7 = refl;
      line-8 = refl;
      line-9 = refl;
      line-10 = refl;
      line-11 = (refl, refl);
      line-12 = (refl, refl);
      line-13 = refl;
      line-14 = refl;
      line-15 = first-15 ∙ sym second-15;
      line-16 = (refl, refl);
    }
