-- The command reader, from the fields read to what it answers.
use mathlib.Core.Path.{◌≡◌, ap, ◌∙◌}
use mathlib.Core.Bool.{true, false}
use mathlib.Core.List.{List, ◌++◌}
use Prim.Native.Nat.{ℕ, ◌≤◌, ◌<◌}
use lib.ListN.{length, drop}
use Rattle.types.specs.Answer.{Refusal, given, refused, not_written, unknown_method}
use Rattle.std.specs.Prelude.{Option, None, Ok, Err}
use Rattle.types.specs.AnswerOf.{refusal}
use Rattle.types.specs.declared.Cursor.{Cursor}
use Rattle.types.specs.Memory.{outcome}
use Rattle.types.specs.Octets.{uint_at}
use Rattle.types.specs.declared.WireError.{WireError}
use Rattle.types.proofs.Tests.{leb_yes, leb_no}
use Rattle.tables.specs.Letters.{Letters}
use Rattle.tables.specs.Tape.{room_of}
use Rattle.method.specs.Commands.{known, fields_of, call}
use Rattle.method.specs.Reading.{command_at, read_command, pooled_args}
use Rattle.method.specs.Words.{args_words}
use Rattle.method.specs.Layout.{zeros}
use Rattle.method.specs.Fields.{Field}
use Rattle.method_words.specs.Words.{call_of}
use Rattle.method_words.specs.InWords.{words_outcome, in_words}
use Rattle.method_words.specs.declared.Call.{Call}
use Rattle.method_reader.specs.Fields.{scan_at, FieldsStored, table_filled, records_in, read_arguments}
use Rattle.method_reader.specs.declared.fields.TablePlace.{TablePlace}
use Rattle.method_reader.proofs.FieldLaws.{ReadFields}
use Rattle.types.proofs.Splice.{splice-head}
use Rattle.method_reader.proofs.ReaderLaws.{command-tables, Read, scan-refused, scan-read, read-filled}

abbrev call_in : ℕ → ℕ → List ℕ → Call
call_in c m words = record { class = c; method = m; words = words }

-- The arguments, from what the reader of fields has left

module _
    (letters : Letters)
    (c m : ℕ)
    (fields : List Field)
    (s : List ℕ)
    (at used room : ℕ)
    (tape before after : List ℕ)
    (own : fields ≡ fields_of c m)
    (free : room ≡ room_of used tape) where
  abbrev Stored : ReadFields → Type 0
  Stored r = FieldsStored (scan_at letters fields s at room None) 0 before after r

  scanned : (r : ReadFields) → Stored r → FieldsStored (scan_at letters (fields_of c m) s at (room_of used tape) None) 0 before after r
  scanned r stored = rw (own, free) at stored

  pub arguments-refused : (e : WireError) → Stored (Err e) → outcome (refused (refusal e)) tape ≡ read_arguments letters c m s at used tape
  unfolding read_arguments
  arguments-refused e stored = rw (scan-refused letters (fields_of c m) s at (room_of used tape) before after e (scanned (Err e) stored))

  module _ (place : Option TablePlace) (next : Cursor) (stored : Stored (Ok (place, next))) where
    read : Read letters (fields_of c m) s at (room_of used tape) before after place next.at
    read = scan-read letters (fields_of c m) s at (room_of used tape) before after place next (scanned (Ok (place, next)) stored)

    pub arguments-spare : next.at < length s → outcome (refused (not_written next.at)) tape ≡ read_arguments letters c m s at used tape
    unfolding read_arguments
    arguments-spare h = rw (read.read, leb_no (length s) next.at h)

    pub arguments-read : (memory lent : List ℕ) → length s ≤ next.at → before ≡ zeros 8 → memory ≡ table_filled letters s place used tape
        → words_outcome (given (record { value = call_in c m after; count = records_in place }) next.at) after memory
        ≡ in_words call_of (λ x. x.words) lent (read_arguments letters c m s at used tape)
    unfolding read_arguments
    arguments-read memory lent h none filled =
        let fs = fields_of c m in
        let value = call c m (pooled_args fs read.args) in
        let ws = args_words fs (pooled_args fs read.args) in
        let made : call_in c m after ≡ call_of value = ap (call_in c m) (read.words ∙ splice-head ws before ∙ ap (λ (l : List ℕ). ws ++ drop (length ws) l) none) in
        ap (λ (x : Call). words_outcome (given (record { value = x; count = records_in place }) next.at) x.words memory) made
        ∙ rw (read.read, leb_yes (length s) next.at h)
        (ap (in_words call_of (λ x. x.words) lent)
        (read-filled letters fs s at used tape memory before after place next.at value (command-tables c m) filled read))

-- Behind class and method

module _ (letters : Letters) (s : List ℕ) (at used : ℕ) (tape : List ℕ) where
  pub class-refused : {e : Refusal} → refused e ≡ uint_at 2 s at → outcome (refused e) tape ≡ read_command letters s at used tape
  unfolding read_command command_at
  class-refused h = rw (← h)

  module _ (c q : ℕ) (class : given c q ≡ uint_at 2 s at) where
    pub method-refused : {e : Refusal} → refused e ≡ uint_at 2 s q → outcome (refused e) tape ≡ read_command letters s at used tape
    unfolding read_command command_at
    method-refused h = rw (← class, ← h)

    module _ (m r : ℕ) (method : given m r ≡ uint_at 2 s q) where
      pub pair-unknown : known c m ≡ false → outcome (refused (unknown_method c m)) tape ≡ read_command letters s at used tape
      unfolding read_command command_at
      pair-unknown k = rw (← class, ← method, k)

      pub pair-known : known c m ≡ true → read_arguments letters c m s r used tape ≡ read_command letters s at used tape
      unfolding read_command command_at read_arguments
      pair-known k = rw (← class, ← method, k)
