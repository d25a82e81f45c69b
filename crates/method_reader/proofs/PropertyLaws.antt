-- The content header reader, from what it reads first: the properties behind the flags, and what stands before them.
use mathlib.Core.Path.{◌≡◌, sym, ap, ◌∙◌}
use mathlib.Core.List.{List}
use Prim.Native.Nat.{ℕ, ◌/◌, ◌<◌}
use native.Mathlib.Omega.{arith}
use Rattle.types.specs.Answer.{given, refused, Refusal}
use Rattle.std.specs.Prelude.{Option, None, Ok, Err}
use Rattle.types.specs.AnswerOf.{refusal}
use Rattle.types.specs.declared.Cursor.{Cursor}
use Rattle.method.specs.Fields.{Field}
use Rattle.types.specs.declared.WireError.{WireError}
use Rattle.types.specs.Octets.{uint_at}
use Rattle.types.specs.Memory.{outcome}
use Rattle.tables.specs.Letters.{Letters}
use Rattle.tables.specs.Tape.{room_of}
use Rattle.method.specs.Properties.{properties, select, flags_of, header}
use Rattle.method.specs.Reading.{header_at, pooled_args, read_header}
use Rattle.method.specs.Layout.{zeros}
use Rattle.method.specs.Words.{args_words}
use Rattle.method.proofs.MethodLaws.{flags-number}
use Rattle.method_words.specs.Words.{padded, header_words}
use Rattle.method_words.specs.InWords.{words_outcome, in_words}
use Rattle.method_words.specs.declared.HeaderWords.{HeaderWords}
use Rattle.method_reader.specs.declared.fields.TablePlace.{TablePlace}
use Rattle.method_reader.specs.Fields.{scan_at, FieldsStored, table_filled, records_in, read_properties, read_sized}
use Rattle.method_reader.proofs.FieldLaws.{ReadFields}
use Rattle.types.proofs.Splice.{splice-head}
use Rattle.method_reader.proofs.ReaderLaws.{property-tables, scan-refused, scan-read, read-filled}

abbrev header_in : ℕ → ℕ → ℕ → List ℕ → HeaderWords
header_in c n flags words = record { class = c; body_size = n; present = flags; words = words }

module _ (letters : Letters) (s : List ℕ) (used : ℕ) (tape : List ℕ) where
  abbrev stored : ℕ → ℕ → List Field → List ℕ → List ℕ → ReadFields → Type 0
  stored p room fields first last r = FieldsStored (scan_at letters fields s p room None) 0 first last r

  module _ (c n flags p room : ℕ) (fields : List Field) (last : List ℕ) (l : fields ≡ select (flags_of 13 flags) properties) (free : room ≡ room_of used tape) where
    pub properties-refused : (first : List ℕ) (e : WireError) → stored p room fields first last (Err e)
        → outcome (refused (refusal e)) tape ≡ read_properties letters c n flags s p used tape
    unfolding read_properties
    properties-refused first e h =
        rw (scan-refused letters (select (flags_of 13 flags) properties) s p (room_of used tape) first last e (rw (l, free) at h))

    pub properties-read : (place : Option TablePlace) (end : Cursor) (memory before : List ℕ) → flags < 8192 → stored p room fields (zeros 22) last (Ok (place, end))
        → memory ≡ table_filled letters s place used tape
        → words_outcome (given (record { value = header_in c n flags last; count = records_in place }) end.at) last memory
        ≡ in_words header_words (λ x. x.words) before (read_properties letters c n flags s p used tape)
    unfolding read_properties
    properties-read place end memory before small h m =
        let fs = select (flags_of 13 flags) properties in
        let x = scan-read letters fs s p (room_of used tape) (zeros 22) last place end (rw (l, free) at h) in
        let value = header c n (flags_of 13 flags) (pooled_args fs x.args) in
        let ws = args_words fs (pooled_args fs x.args) in
        let made : header_in c n flags last ≡ header_words value
        = ap (header_in c n flags) (x.words ∙ splice-head ws (zeros 22)) ∙ ap (λ (k : ℕ). header_in c n k (padded 22 ws)) (sym (flags-number 13 flags (omega arith))) in
        ap (λ (w : HeaderWords). words_outcome (given (record { value = w; count = records_in place }) end.at) w.words memory) made
        ∙ rw x.read
        (ap (in_words header_words (λ x. x.words) before)
        (read-filled letters fs s p used tape memory (zeros 22) last place end.at value (property-tables (flags_of 13 flags)) m x))

  pub sized-refused : (c p : ℕ) (r : Refusal) → refused r ≡ uint_at 8 s p → outcome (refused r) tape ≡ read_sized letters c s p used tape
  unfolding read_sized
  sized-refused c p r e = rw (← e)

  pub flags-refused : (c p n q : ℕ) (r : Refusal) → given n q ≡ uint_at 8 s p → refused r ≡ uint_at 2 s q → outcome (refused r) tape ≡ read_sized letters c s p used tape
  unfolding read_sized
  flags-refused c p n q r d e = rw (← d, ← e)

  pub flags-read : (c p n q flags t : ℕ) → given n q ≡ uint_at 8 s p → given flags t ≡ uint_at 2 s q
      → read_properties letters c n (flags / 8) s t used tape ≡ read_sized letters c s p used tape
  unfolding read_properties read_sized
  flags-read c p n q flags t d e = rw (← d, ← e)

  pub class-refused : (p : ℕ) (r : Refusal) → refused r ≡ uint_at 2 s p → outcome (refused r) tape ≡ read_header letters s p used tape
  unfolding read_header header_at
  class-refused p r e = rw (← e)

  pub weight-refused : (p c q : ℕ) (r : Refusal) → given c q ≡ uint_at 2 s p → refused r ≡ uint_at 2 s q → outcome (refused r) tape ≡ read_header letters s p used tape
  unfolding read_header header_at
  weight-refused p c q r d e = rw (← d, ← e)

  pub weight-read : (p c q weight t : ℕ) → given c q ≡ uint_at 2 s p → given weight t ≡ uint_at 2 s q → read_sized letters c s t used tape ≡ read_header letters s p used tape
  unfolding read_sized read_header header_at
  weight-read p c q weight t d e = rw (← d, ← e)
