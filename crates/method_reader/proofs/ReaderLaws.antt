-- What is known of fields that were read: their words give the arguments back, and the table among them fills the tape.
use mathlib.Core.Path.{◌≡◌, refl, sym, ap, ◌∙◌}
use mathlib.Core.Bool.{Bool, true, false}
use mathlib.Core.List.{List, [], ◌∷◌, ◌++◌, append-nil}
use Prim.Native.Nat.{ℕ, ◌+◌, ◌-◌, ◌*◌, ◌≤◌}
use native.Mathlib.Omega.{arith}
use borrow.Author.Tests.{eqb-true}
use lib.ListN.{length}
use lib.Dec.{leb, eqb}
use Rattle.types.specs.Answer.{Answer, given, refused, and_then}
use Rattle.std.specs.Prelude.{Option, None, Ok, Err}
use Rattle.types.specs.AnswerOf.{refusal}
use Rattle.types.specs.declared.Cursor.{Cursor}
use Rattle.types.specs.Memory.{splice, outcome}
use Rattle.types.specs.Records.{concat_map}
use Rattle.types.specs.declared.WireError.{WireError}
use Rattle.types.proofs.Chain.{then-go, given-next, given-value}
use Rattle.types.proofs.NumberLaws.{Octets}
use Rattle.types.proofs.Splice.{splice-nil}
use Rattle.types.proofs.Standing.{length-zero}
use Rattle.types.proofs.Tests.{decide, yes_leb}
use Rattle.tables.specs.Letters.{Letters}
use Rattle.tables.specs.Forest.{size}
use Rattle.tables.specs.Reading.{table_at}
use Rattle.tables.specs.Tape.{Record, tape_records, flatten, room_of, fill_tape, read_table}
use Rattle.tables.proofs.TapeLaws.{length-flatten}
use Rattle.method.specs.Fields.{Kind, kind, table, Field, fixed, arg, Located, Pooled, Args}
use Rattle.method.specs.Commands.{commands, fields_of}
use Rattle.method.specs.Properties.{properties, select}
use Rattle.method.specs.Reading.{arg_at, arg_tape, tape_of, fixed_at, fields_at, pooled_args}
use Rattle.method.specs.Words.{args_words, args_from}
use Rattle.method.specs.Kinds.Table.{TableIn}
use Rattle.method.specs.Writing.{TypedAll}
use Rattle.method.proofs.LayoutLaws.{every-command}
use Rattle.method.proofs.WordLaws.{args-words}
use Rattle.method_words.specs.Words.{cut_args}
use Rattle.method_reader.specs.Fields.{FieldsRead, table_after, last_table, scan_at, FieldsStored, table_filled, records_in}
use Rattle.method_reader.specs.declared.fields.TablePlace.{TablePlace}
use mathlib.Core.Path.{subst⁻¹}
use mathlib.Core.Logic.{◌⊎◌, inl, inr}
use Rattle.tables.specs.Letters.{errata}
use Rattle.method.proofs.Kind.{Tableless}
use Rattle.method.proofs.KindLaws.{laws, table_or_not, count, is_table, tableless}
use Rattle.method_reader.proofs.FieldLaws.{no-records}

-- What was read is in the range of its type

args-kept : (fs : List Field) (vs : Args Pooled fs) → TypedAll fs vs → cut_args fs vs ≡ vs
unfolding cut_args
args-kept [] vs f = refl
args-kept (fixed xs ∷ fs) vs f = args-kept fs vs f
args-kept (arg k ∷ fs) vs f = rw ((laws errata k).kept vs.0 f.0, args-kept fs vs.1 f.1)

module _ (letters : Letters) where
  args-typed : (fs : List Field) (s : List ℕ) (p room : ℕ) (vs : Args Located fs) (q : ℕ) → Octets s → fields_at letters fs s p room ≡ given vs q
      → TypedAll fs (pooled_args fs vs)
  unfolding fields_at arg_at pooled_args
  args-typed [] s p room vs q o e = tt
  args-typed (fixed xs ∷ fs) s p room vs q o e = then-go (fixed_at xs s p) _ vs q e (λ x r e1 h1. args-typed fs s r room vs q o h1)
  args-typed (arg k ∷ fs) s p room vs q o e =
      then-go (arg_at letters k s p room) _ vs q e
      (λ v r e1 h1.
      then-go (fields_at letters fs s r (room - length (arg_tape k v))) _ vs q h1
      (λ ws t e2 h2.
      rw (← (given-value _ vs t q h2)) ((laws letters k).typed s p room v r o e1, args-typed fs s r (room - length (arg_tape k v)) ws t o e2)))

  -- the words of what was read give it back, whatever stands behind them
  pub args_read : (fs : List Field) (s : List ℕ) (p room : ℕ) (vs : Args Located fs) (q : ℕ) (more : List ℕ) → Octets s → fields_at letters fs s p room ≡ given vs q
      → cut_args fs (args_from fs (args_words fs (pooled_args fs vs) ++ more)) ≡ pooled_args fs vs
  args_read fs s p room vs q more o e =
      rw (args-words fs (pooled_args fs vs) more) (args-kept fs (pooled_args fs vs) (args-typed fs s p room vs q o e))

-- Tables among the fields: one at most, in any command and in any content header

abbrev pub tables : List Field → ℕ
tables [] = 0
tables (fixed xs ∷ fs) = tables fs
tables (arg k ∷ fs) = is_table k + tables fs

pub command-tables : (c m : ℕ) → tables (fields_of c m) ≤ 1
command-tables c m = yes_leb (tables (fields_of c m)) 1 (every-command (λ fs. leb (tables fs) 1) c m refl (unfold commands in refl))

pub select-tables : (ps : List Bool) (fs : List Field) → tables (select ps fs) ≤ tables fs
unfolding select
select-tables [] fs = omega arith
select-tables (p ∷ ps) [] = omega arith
select-tables (true ∷ ps) (fixed xs ∷ fs) = select-tables ps fs
select-tables (true ∷ ps) (arg k ∷ fs) = omega (arith, select-tables ps fs)
select-tables (false ∷ ps) (fixed xs ∷ fs) = select-tables ps fs
select-tables (false ∷ ps) (arg k ∷ fs) = omega (arith, select-tables ps fs)

pub property-tables : (ps : List Bool) → tables (select ps properties) ≤ 1
property-tables ps =
    let e : tables properties ≡ 1 = unfold properties in refl in
    omega (arith, select-tables ps properties)

pub no-tables : (fs : List Field) (vs : Args Located fs) (last : Option TablePlace) → tables fs ≡ 0 → (last_table fs vs last ≡ last) × (tape_of fs vs ≡ [])
unfolding last_table tape_of
no-tables [] vs last e = (refl, refl)
no-tables (fixed xs ∷ fs) vs last e = no-tables fs vs last e
no-tables (arg k ∷ fs) vs last e =
    let t = tableless k (omega arith) in
    rw (no-records k t vs.0, t.no-tape vs.0) (no-tables fs vs.1 last (omega arith))

-- the tape at exit and the number of records, from the place of the table
pub record Filled (letters : Letters) (s : List ℕ) (place : Option TablePlace) (used : ℕ) (tape : List ℕ) (rs : List Record) : Type 0 where
  pub memory : table_filled letters s place used tape ≡ splice (used * tape_records.size) (concat_map tape_records.words rs) tape
  pub count : records_in place ≡ length rs

module _ (letters : Letters) (s : List ℕ) (used : ℕ) (tape : List ℕ) where
  -- a table that was read at p is filled, or it has no records and the tape is left
  pub one_table : (p q : ℕ) (t : TableIn) → arg_at letters table s p (room_of used tape) ≡ given t q → Filled letters s (table_after table t None) used tape (flatten t.entries)
  unfolding arg_at
  one_table p q t e =
      then-go (table_at letters s p (room_of used tape)) _ t q e
      (λ f r e1 h1.
      rw (← (given-value (record { start = p; entries = f }) t r q h1))
      (decide (eqb (size f) 0)
      (λ z.
      let none : flatten f ≡ [] = length-zero (flatten f) (length-flatten f ∙ eqb-true (size f) 0 z) in
      rw (z, none) (record { memory = sym (splice-nil (used * 6) tape); count = refl }))
      (λ z. rw z (record { memory = unfold read_table in rw e1; count = sym (length-flatten f) }))))

  arg-filled : (k : Kind) (fs : List Field) (p room : ℕ) (v : Located k) (q : ℕ) (vs : Args Located fs) → is_table k + tables fs ≤ 1 → room ≡ room_of used tape
      → arg_at letters k s p room ≡ given v q
      → (tables fs ≤ 1 → room - length (arg_tape k v) ≡ room_of used tape → Filled letters s (last_table fs vs None) used tape (tape_of fs vs))
      → Filled letters s (last_table fs vs (table_after k v None)) used tape (arg_tape k v ++ tape_of fs vs)
  arg-filled k fs p room v q vs h r e later = go (table_or_not k) h
    where
      go : (o : Tableless (kind k) ⊎ (k ≡ table)) → count o + tables fs ≤ 1 → Filled letters s (last_table fs vs (table_after k v None)) used tape (arg_tape k v ++ tape_of fs vs)
      go (inl t) n =
          let none = t.no-tape v in
          rw (no-records k t v, none) (later (omega arith) (omega (arith, ap length none)))
      go (inr w) n =
          subst⁻¹ (λ (j : Kind). (x : Located j) → arg_at letters j s p room ≡ given x q → Filled letters s (last_table fs vs (table_after j x None)) used tape (arg_tape j x ++ tape_of fs vs)) w
          (λ x f.
          let a = no-tables fs vs (table_after table x None) (omega arith) in
          rw (a.0, a.1, append-nil (flatten x.entries)) (one_table p q x (rw r at f))) v e

  pub table_filled_lem : (fs : List Field) (p room : ℕ) (vs : Args Located fs) (q : ℕ) → tables fs ≤ 1 → room ≡ room_of used tape → fields_at letters fs s p room ≡ given vs q
      → Filled letters s (last_table fs vs None) used tape (tape_of fs vs)
  unfolding fields_at last_table tape_of
  table_filled_lem [] p room vs q h r e = record { memory = sym (splice-nil (used * 6) tape); count = refl }
  table_filled_lem (fixed xs ∷ fs) p room vs q h r e =
      then-go (fixed_at xs s p) _ vs q e (λ x n e1 h1. table_filled_lem fs n room vs q (omega arith) r h1)
  table_filled_lem (arg k ∷ fs) p room vs q h r e =
      then-go (arg_at letters k s p room) _ vs q e
      (λ v n e1 h1.
      then-go (fields_at letters fs s n (room - length (arg_tape k v))) _ vs q h1
      (λ ws m e2 h2.
      rw (← (given-value _ vs m q h2))
      (arg-filled k fs p room v n ws h r e1 (λ one free. table_filled_lem fs n (room - length (arg_tape k v)) ws m one free e2))))

-- What the reader of fields leaves: the arguments located, the place of the table, and their words

pub record Read (letters : Letters) (fs : List Field) (s : List ℕ) (p room : ℕ) (before after : List ℕ) (place : Option TablePlace) (next : ℕ) : Type 0 where
  pub args : Args Located fs
  pub read : fields_at letters fs s p room ≡ given args next
  pub table : last_table fs args None ≡ place
  pub words : after ≡ splice 0 (args_words fs (pooled_args fs args)) before

abbrev scanned : (fs : List Field) → Args Located fs → ℕ → Answer FieldsRead
scanned fs vs q = given (record { words = args_words fs (pooled_args fs vs); table = last_table fs vs None }) q

module _ (letters : Letters) (fs : List Field) (s : List ℕ) (p room : ℕ) (before after : List ℕ) where
  pub scan-refused : (e : WireError) → FieldsStored (scan_at letters fs s p room None) 0 before after (Err e) → fields_at letters fs s p room ≡ refused (refusal e)
  unfolding scan_at
  scan-refused e h = go (fields_at letters fs s p room) h
    where
      go : (x : Answer (Args Located fs)) → FieldsStored (and_then x (scanned fs)) 0 before after (Err e) → x ≡ refused (refusal e)
      go (given vs q) st = let a = st.0 in let z : ◌≡◌ {A = ℕ} 0 1 = cc in absurd (omega arith)
      go (refused x) st = let b : x ≡ refusal e = cc in ap refused b

  pub scan-read : (place : Option TablePlace) (next : Cursor) → FieldsStored (scan_at letters fs s p room None) 0 before after (Ok (place, next))
      → Read letters fs s p room before after place next.at
  unfolding scan_at
  scan-read place next h = go (fields_at letters fs s p room) refl h
    where
      go : (x : Answer (Args Located fs)) → fields_at letters fs s p room ≡ x → FieldsStored (and_then x (scanned fs)) 0 before after (Ok (place, next))
          → Read letters fs s p room before after place next.at
      go (given vs q) e st =
          let a = sym st.0 in
          record {
            args = vs;
            read = e ∙ ap (given vs) (given-next (last_table fs vs None) place q next.at a);
            table = given-value (last_table fs vs None) place q next.at a;
            words = st.1;
          }
      go (refused x) e st = let z : ◌≡◌ {A = ℕ} 0 1 = cc in absurd (omega arith)

-- The tape is filled with their records
pub read-filled : {A : Type 0} (letters : Letters) (fs : List Field) (s : List ℕ) (p used : ℕ) (tape memory before after : List ℕ) (place : Option TablePlace) (next : ℕ) (value : A) → tables fs ≤ 1
    → memory ≡ table_filled letters s place used tape → (r : Read letters fs s p (room_of used tape) before after place next)
    → outcome (given (record { value = value; count = records_in place }) next) memory ≡ fill_tape used tape (given (record { value = value; tape = tape_of fs r.args }) next)
read-filled letters fs s p used tape memory before after place next value h m r =
    let f : Filled letters s place used tape (tape_of fs r.args) = rw r.table at (table_filled_lem letters s used tape fs p (room_of used tape) r.args next h refl r.read) in
    rw (m, f.memory, f.count)
