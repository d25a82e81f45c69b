-- Properties in one pass: the strings before the table, the properties behind it, and the table between them.
use mathlib.Core.Path.{◌≡◌, refl, sym, ap, ◌∙◌}
use mathlib.Core.Bool.{Bool, true, false, not, cond}
use mathlib.Core.List.{List, [], ◌∷◌, ◌++◌, append_assoc}
use Prim.Native.Nat.{ℕ, ◌+◌, ◌-◌, ◌*◌, ◌/◌, ◌%◌, ◌≤◌, ◌<◌}
use native.Mathlib.Omega.{arith}
use native.Mathlib.Nat.{zero-add, sub-zero}
use lib.ListN.{length, take, drop, set, length-drop}
use lib.Seq.{length-take-le}
use lib.Dec.{leb, eqb}
use borrow.Author.Tests.{eq-eqb, ne_eqb, eqb-true}
use Rattle.std.specs.Prelude.{Option, None, Some, Result, Ok, Err}
use Rattle.std.specs.Result.{result_ok}
use Rattle.types.specs.declared.Cursor.{Cursor}
use Rattle.types.specs.declared.WireError.{WireError}
use Rattle.types.specs.Answer.{Answer, Refusal, given, refused, and_then}
use Rattle.types.proofs.Chain.{then-go, then-agree, given-next, given-value}
use Rattle.types.specs.Memory.{splice, outcome}
use Rattle.types.specs.Records.{concat_map}
use Rattle.types.proofs.Splice.{splice-length, splice-before, splice-after, splice-sets}
use Rattle.types.proofs.Tests.{decide, leb_yes, leb_no, yes_leb, no_leb}
use Rattle.tables.specs.Letters.{errata}
use Rattle.tables.specs.Forest.{LocatedTable, size}
use Rattle.tables.specs.Reading.{table_at}
use Rattle.tables.specs.Tape.{tape_records, flatten, WithCount, room_of, fill_tape, as_tape, read_table}
use Rattle.tables.proofs.TapeLaws.{length-flatten}
use Rattle.table_reader.specs.AnswerOf.{answer_of_records}
use Rattle.table_reader.specs.Ending.{ending_at, read_table_to}
use Rattle.method.specs.Fields.{kind, table, Field, fixed, arg, Located, Args}
use Rattle.method.specs.Properties.{properties, select, flags_of}
use Rattle.method.specs.Reading.{arg_at, fixed_at, fields_at, pooled_args}
use Rattle.method.specs.Words.{widths, args_words}
use Rattle.method.specs.Layout.{zeros}
use Rattle.method.proofs.LayoutLaws.{every, property-widths}
use Rattle.method.proofs.PresentLaws.{select-none}
use Rattle.method_words.specs.Words.{header_words}
use Rattle.method_words.specs.InWords.{words_outcome, in_words}
use Rattle.method.proofs.KindLaws.{tableless}
use Rattle.method.proofs.WordLaws.{length-words}
use Rattle.method_reader.specs.declared.fields.TablePlace.{TablePlace}
use Rattle.method_reader.specs.Fields.{FieldRead, FieldsRead, FieldsStored, field_at, last_table, scan_at, records_in, read_properties}
use Rattle.method_reader.proofs.FieldLaws.{place_after, recordless, part-stored, behind, field-refused, field-given}
use Rattle.method_reader.proofs.ReaderLaws.{tables, select-tables, no-tables, one_table}
use Rattle.method_reader.proofs.PropertyLaws.{properties-read}

-- Fields without a table ask for no room and leave the last table as it was

fields-roomless : (fs : List Field) (s : List ℕ) (p room : ℕ) → tables fs ≡ 0 → fields_at errata fs s p 0 ≡ fields_at errata fs s p room
unfolding fields_at arg_at
fields-roomless [] s p room h = refl
fields-roomless (fixed xs ∷ fs) s p room h = then-agree (fixed_at xs s p) _ _ (λ x q e. fields-roomless fs s q room h)
fields-roomless (arg k ∷ fs) s p room h =
    let t = tableless k (omega arith) in
    rw (t.no_room errata s p room)
    (then-agree ((kind k).at errata s p room) _ _
    (λ v q e.
    rw (t.no-tape v, sub-zero room)
    (ap (λ (b : Answer (Args Located fs)). and_then b (λ vs r. given (v, vs) r)) (fields-roomless fs s q room (omega arith)))))

scan-plain : (fs : List Field) (s : List ℕ) (p room : ℕ) (last : Option TablePlace) (x : FieldsRead) (q : ℕ) → tables fs ≡ 0 → scan_at errata fs s p 0 None ≡ given x q
    → scan_at errata fs s p room last ≡ given (record { words = x.words; table = last }) q
unfolding scan_at
scan-plain fs s p room last x q h e =
    then-go (fields_at errata fs s p 0) _ x q e
    (λ vs m e1 h1.
    let w : FieldsRead = record { words = args_words fs (pooled_args fs vs); table = last_table fs vs None } in
    let same = given-value w x m q h1 in
    let next = given-next w x m q h1 in
    rw (← (fields-roomless fs s p room h), e1, (no-tables fs vs last h).0, ← same, ← next))

field_plain : (f : Field) (s : List ℕ) (p room : ℕ) (y : FieldRead) (m : ℕ) → tables (f ∷ []) ≡ 0 → field_at errata f s p room ≡ given y m → y.records ≡ 0
field_plain (fixed xs) s p room y m h e = recordless (fixed xs) tt s p room y m e
field_plain (arg k) s p room y m h e = recordless (arg k) (omega arith) s p room y m e

-- Fields one list behind another

behind-nil : (a : Answer FieldsRead) → a ≡ behind [] a
behind-nil (given x n) = refl
behind-nil (refused r) = refl

behind-join : (u v : List ℕ) (a : Answer FieldsRead) → behind u (behind v a) ≡ behind (u ++ v) a
behind-join u v (given x n) = ap (λ (ws : List ℕ). given (record { words = ws; table = x.table }) n) (sym (append_assoc u v x.words))
behind-join u v (refused r) = refl

first_plain : (f : Field) (fs : List Field) → tables (f ∷ fs) ≡ 0 → tables (f ∷ []) ≡ 0
first_plain (fixed xs) fs h = refl
first_plain (arg k) fs h = omega arith

rest_plain : (f : Field) (fs : List Field) → tables (f ∷ fs) ≡ 0 → tables fs ≡ 0
rest_plain (fixed xs) fs h = h
rest_plain (arg k) fs h = omega arith

scan-join : (fs gs : List Field) (s : List ℕ) (p room : ℕ) (last : Option TablePlace) (x : FieldsRead) (q : ℕ) → tables fs ≡ 0 → scan_at errata fs s p room last ≡ given x q
    → scan_at errata (fs ++ gs) s p room last ≡ behind x.words (scan_at errata gs s q room last)
scan-join [] gs s p room last x q h e = go (unfold scan_at in unfold fields_at in unfold args_words in unfold last_table in e)
  where
    go : given (record { words = []; table = last }) p ≡ given x q → scan_at errata gs s p room last ≡ behind x.words (scan_at errata gs s q room last)
    go d =
        let w : FieldsRead = record { words = []; table = last } in
        rw (← (given-value w x p q d), ← (given-next w x p q d)) (behind-nil (scan_at errata gs s p room last))
scan-join (f ∷ fs) gs s p room last x q h e = go (field_at errata f s p room) refl (λ m z n d. scan-join fs gs s m room last z n (rest_plain f fs h) d)
  where
    go : (a : Answer FieldRead) → field_at errata f s p room ≡ a
        → ((m : ℕ) (z : FieldsRead) (n : ℕ) → scan_at errata fs s m room last ≡ given z n → scan_at errata (fs ++ gs) s m room last ≡ behind z.words (scan_at errata gs s n room last))
        → scan_at errata (f ∷ (fs ++ gs)) s p room last ≡ behind x.words (scan_at errata gs s q room last)
    go (refused r) d later =
        let no = sym (field-refused fs s p room last f r d) ∙ e in
        let z : ◌≡◌ {A = ℕ} 0 1 = cc in absurd (omega arith)
    go (given y m) d later =
        let none = field_plain f s p room y m (first_plain f fs h) d in
        let here : scan_at errata (f ∷ fs) s p room last ≡ behind y.words (scan_at errata fs s m room last) = rw (none, sub-zero room) at (field-given fs s p room last f y m d) in
        let there : scan_at errata (f ∷ (fs ++ gs)) s p room last ≡ behind y.words (scan_at errata (fs ++ gs) s m room last) =
        rw (none, sub-zero room) at (field-given (fs ++ gs) s p room last f y m d) in
        then-go (scan_at errata fs s m room last) _ x q (sym here ∙ e)
        (λ z n e1 h1.
        let w : FieldsRead = record { words = y.words ++ z.words; table = z.table } in
        there
        ∙ ap (behind y.words) (later m z n e1)
        ∙ behind-join y.words z.words (scan_at errata gs s n room last)
        ∙ (rw (← (given-value w x n q h1), ← (given-next w x n q h1))))

-- A table between fields that have none

table-field : (s : List ℕ) (p room : ℕ) (t : LocatedTable) (end : ℕ) → table_at errata s p room ≡ given t end
    → field_at errata (arg table) s p room ≡ given (record { words = size t ∷ []; records = size t }) end
unfolding field_at arg_at
table-field s p room t end e = rw e

pub scan-around : (fs gs : List Field) (s : List ℕ) (p room : ℕ) (x : FieldsRead) (start : ℕ) (t : LocatedTable) (end : ℕ) (y : FieldsRead) (next : ℕ) → tables fs ≡ 0 → tables gs ≡ 0
    → scan_at errata fs s p 0 None ≡ given x start → table_at errata s start room ≡ given t end → scan_at errata gs s end 0 None ≡ given y next
    → scan_at errata (fs ++ (arg table ∷ gs)) s p room None ≡ given (record { words = x.words ++ (size t ∷ y.words); table = place_after (size t) start None }) next
scan-around fs gs s p room x start t end y next h k before e after =
    scan-join fs (arg table ∷ gs) s p room None (record { words = x.words; table = None }) start h (scan-plain fs s p room None x start h before)
    ∙ ap (behind x.words)
    (field-given gs s start room None (arg table) (record { words = size t ∷ []; records = size t }) end (table-field s start room t end e)
    ∙ ap (behind (size t ∷ [])) (scan-plain gs s end (room - size t) (place_after (size t) start None) y next k after))

-- The properties around the headers, where these are present

split-third : (a b : Bool) (ps zs : List Bool) (f g h : Field) (fs : List Field) → every not zs ≡ true
    → select (a ∷ b ∷ true ∷ ps) (f ∷ g ∷ h ∷ fs) ≡ select (a ∷ b ∷ false ∷ zs) (f ∷ g ∷ h ∷ fs) ++ (h ∷ select ps fs)
unfolding select
split-third true true ps zs f g h fs e = rw (select-none zs fs e) refl
split-third true false ps zs f g h fs e = rw (select-none zs fs e) refl
split-third false true ps zs f g h fs e = rw (select-none zs fs e) refl
split-third false false ps zs f g h fs e = rw (select-none zs fs e) refl

flags-whole : (n : ℕ) → 1024 ≤ n % 2048 → flags_of 13 n ≡ leb 4096 n ∷ leb 2048 (n % 4096) ∷ true ∷ flags_of 10 (n % 1024)
unfolding flags_of
flags-whole n h =
    let third : leb 1024 (n % 4096 % 2048) ≡ true = leb_yes 1024 (n % 4096 % 2048) (omega arith) in
    let rest : n % 4096 % 2048 % 1024 ≡ n % 1024 = omega arith in
    rw (third, rest)

flags-before : (n : ℕ) → flags_of 13 (n / 2048 * 2048) ≡ leb 4096 n ∷ leb 2048 (n % 4096) ∷ false ∷ flags_of 10 0
unfolding flags_of
flags-before n =
    let m = n / 2048 * 2048 in
    let a : leb 4096 m ≡ leb 4096 n =
    decide (leb 4096 n) (λ y. leb_yes 4096 m (omega (arith, yes_leb 4096 n y)) ∙ sym y) (λ y. leb_no 4096 m (omega (arith, no_leb 4096 n y)) ∙ sym y) in
    let b : leb 2048 (m % 4096) ≡ leb 2048 (n % 4096) =
    decide (leb 2048 (n % 4096)) (λ y. leb_yes 2048 (m % 4096) (omega (arith, yes_leb 2048 (n % 4096) y)) ∙ sym y) (λ y. leb_no 2048 (m % 4096) (omega (arith, no_leb 2048 (n % 4096) y)) ∙ sym y) in
    let rest : m % 4096 % 2048 ≡ 0 = omega arith in
    rw (a, b, rest) refl

flags-behind : (n : ℕ) → flags_of 13 (n % 1024) ≡ false ∷ false ∷ false ∷ flags_of 10 (n % 1024)
unfolding flags_of
flags-behind n =
    let a : leb 4096 (n % 1024) ≡ false = leb_no 4096 (n % 1024) (omega arith) in
    let b : leb 2048 (n % 1024 % 4096) ≡ false = leb_no 2048 (n % 1024 % 4096) (omega arith) in
    let c : leb 1024 (n % 1024 % 4096 % 2048) ≡ false = leb_no 1024 (n % 1024 % 4096 % 2048) (omega arith) in
    let rest : n % 1024 % 4096 % 2048 % 1024 ≡ n % 1024 = omega arith in
    rw (a, b, c, rest)

abbrev pub fields_before : ℕ → List Field
fields_before n = select (flags_of 13 (n / 2048 * 2048)) properties

abbrev pub fields_behind : ℕ → List Field
fields_behind n = select (flags_of 13 (n % 1024)) properties

pub split-headers : (n : ℕ) → 1024 ≤ n % 2048 → select (flags_of 13 n) properties ≡ fields_before n ++ (arg table ∷ fields_behind n)
unfolding properties
split-headers n h =
    rw (flags-whole n h, flags-behind n, flags-before n)
    (unfold select in split-third (leb 4096 n) (leb 2048 (n % 4096)) (flags_of 10 (n % 1024)) (flags_of 10 0) _ _ _ _ (unfold flags_of in refl))

before-plain : (n : ℕ) → tables (fields_before n) ≡ 0
before-plain n = rw (flags-before n) (by (leb 4096 n) (leb 2048 (n % 4096)))
  where
    by : (a b : Bool) → tables (select (a ∷ b ∷ false ∷ flags_of 10 0) properties) ≡ 0
    by true true = unfold properties select flags_of in refl
    by true false = unfold properties select flags_of in refl
    by false true = unfold properties select flags_of in refl
    by false false = unfold properties select flags_of in refl

behind-plain : (n : ℕ) → tables (fields_behind n) ≡ 0
unfolding properties
behind-plain n =
    let none : tables (drop 3 properties) ≡ 0 = refl in
    rw (flags-behind n) (unfold select in (omega (arith, select-tables (flags_of 10 (n % 1024)) (drop 3 properties))))

-- Their words: the word of the headers stands behind those of the strings before them

abbrev pub own_word : ℕ → ℕ
own_word n = (n / 4096 + n / 2048 % 2) * 2

before-widths : (n : ℕ) → n < 8192 → widths (fields_before n) ≡ own_word n
before-widths n s = rw (flags-before n) (by (leb 4096 n) (leb 2048 (n % 4096)) refl refl)
  where
    by : (a b : Bool) → leb 4096 n ≡ a → leb 2048 (n % 4096) ≡ b → widths (select (a ∷ b ∷ false ∷ flags_of 10 0) properties) ≡ own_word n
    by true true e f = unfold properties select flags_of in omega (arith, yes_leb 4096 n e, yes_leb 2048 (n % 4096) f)
    by true false e f = unfold properties select flags_of in omega (arith, yes_leb 4096 n e, no_leb 2048 (n % 4096) f)
    by false true e f = unfold properties select flags_of in omega (arith, no_leb 4096 n e, yes_leb 2048 (n % 4096) f)
    by false false e f = unfold properties select flags_of in omega (arith, no_leb 4096 n e, no_leb 2048 (n % 4096) f)

widths-join : (fs gs : List Field) → widths (fs ++ gs) ≡ widths fs + widths gs
widths-join [] gs = omega arith
widths-join (f ∷ fs) gs = omega (arith, widths-join fs gs)

behind-fit : (n : ℕ) → n < 8192 → 1024 ≤ n % 2048 → own_word n + 1 + widths (fields_behind n) ≤ 22
behind-fit n s h =
    let w : widths (fields_before n ++ (arg table ∷ fields_behind n)) ≤ 22 = rw (split-headers n h) at (property-widths (flags_of 13 n)) in
    omega (arith, before-widths n s, widths-join (fields_before n) (arg table ∷ fields_behind n))

pub behind-room : (n : ℕ) → n < 8192 → 1024 ≤ n % 2048 → (before : List ℕ) → length before ≡ 22
    → widths (fields_behind n) ≤ length (take (22 - (own_word n + 1)) (drop (own_word n + 1) before))
behind-room n s h before e =
    let rest = drop (own_word n + 1) before in
    let long : length rest ≡ 22 - (own_word n + 1) = length-drop (own_word n + 1) before ∙ ap (λ (m : ℕ). m - (own_word n + 1)) e in
    rw (length-take-le (22 - (own_word n + 1)) rest (omega arith)) (omega (arith, behind-fit n s h))

-- as the code leaves them: the k words behind the headers' own are a part lent to the reader of fields, and n is stored last
abbrev words_once : ℕ → ℕ → List ℕ → List ℕ → ℕ → List ℕ
words_once own k before behind n = set (take (own + 1) before ++ (behind ++ drop k (drop (own + 1) before))) own n

words-around : (memory before behind xs ys : List ℕ) (own k n : ℕ) → length xs ≡ own → own + 1 + k ≡ length memory → length ys ≤ k
    → before ≡ splice 0 xs memory → behind ≡ splice 0 ys (take k (drop (own + 1) before)) → words_once own k before behind n ≡ splice 0 (xs ++ (n ∷ ys)) memory
words-around memory before behind xs ys own k n e f h m r =
    let l = splice 0 xs memory in
    let same : length l ≡ length memory = splice-length 0 xs [] memory (omega arith) in
    let two = splice (own + 1) ys l in
    let wide : length two ≡ length l = splice-length (own + 1) ys [] l (omega arith) in
    rw (r, m)
    (ap (λ (w : List ℕ). set w own n) (part-stored (own + 1) k ys l (omega arith))
    ∙ splice-sets (n ∷ []) two own (omega arith)
    ∙ splice-before own (n ∷ []) ys l (omega arith)
    ∙ ap (λ (i : ℕ). splice i (n ∷ ys) l) (sym (zero-add (length xs) ∙ e))
    ∙ splice-after 0 xs (n ∷ ys) memory (omega arith))

-- What the code has at the end: the fields around the table stored, and the table read where it ends

record Scanned (fs : List Field) (s : List ℕ) (p : ℕ) (before after : List ℕ) (next : ℕ) : Type 0 where
  read : FieldsRead
  scan : scan_at errata fs s p 0 None ≡ given read next
  words : after ≡ splice 0 read.words before

stored-scan : (fs : List Field) (s : List ℕ) (p : ℕ) (before after : List ℕ) (place : Option TablePlace) (next : Cursor)
    → FieldsStored (scan_at errata fs s p 0 None) 0 before after (Ok (place, next)) → Scanned fs s p before after next.at
stored-scan fs s p before after place next h = go (scan_at errata fs s p 0 None) refl h
  where
    go : (a : Answer FieldsRead) → scan_at errata fs s p 0 None ≡ a → FieldsStored a 0 before after (Ok (place, next)) → Scanned fs s p before after next.at
    go (given x q) e st =
        let a = sym st.0 in
        record { read = x; scan = e ∙ ap (given x) (given-next x.table place q next.at a); words = st.1 }
    go (refused x) e st = let z : ◌≡◌ {A = ℕ} 0 1 = cc in absurd (omega arith)

scan-width : (fs : List Field) (s : List ℕ) (p : ℕ) (x : FieldsRead) (q : ℕ) → scan_at errata fs s p 0 None ≡ given x q → length x.words ≡ widths fs
unfolding scan_at
scan-width fs s p x q e =
    then-go (fields_at errata fs s p 0) _ x q e
    (λ vs m e1 h1.
    rw (← (given-value (record { words = args_words fs (pooled_args fs vs); table = last_table fs vs None }) x m q h1)) (length-words fs (pooled_args fs vs)))

-- what is taken out of a result was in it
pub ok-was : {A E : Type 0} (r : Result A E) {x : A} → Some x ≡ result_ok r → r ≡ Ok x
ok-was (Ok y) e = cc
ok-was (Err w) e = let z : ◌≡◌ {A = ℕ} 0 1 = cc in absurd (omega arith)

module _ (s : List ℕ) (start end used : ℕ) (tape after : List ℕ) where
  record TableTold (k : ℕ) : Type 0 where
    entries : LocatedTable
    reads : table_at errata s start (room_of used tape) ≡ given entries end
    count : size entries ≡ k
    memory : after ≡ splice (used * 6) (concat_map tape_records.words (flatten entries)) tape

  told : (k n : ℕ) → n ≡ end → outcome (given (record { value = tt; count = k }) n) after ≡ read_table_to errata s start end used tape → TableTold k
  unfolding read_table_to read_table
  told k n h e = go (table_at errata s start (room_of used tape)) refl e
    where
      go : (a : Answer LocatedTable) → table_at errata s start (room_of used tape) ≡ a
          → outcome (given (record { value = tt; count = k }) n) after ≡ ending_at end tape (fill_tape used tape (as_tape a)) → TableTold k
      go (given f q) d o =
          let q-is : q ≡ n = cc in
          let own : WithCount Unit = record { value = tt; count = k } in
          let filled : WithCount Unit = record { value = tt; count = length (flatten f) } in
          let answer : given own n ≡ given filled q = cc in
          let size_is : k ≡ length (flatten f) = ap (λ (w : WithCount Unit). w.count) (given-value own filled n q answer) in
          let memory-is : after ≡ cond (eqb q end) (splice (used * 6) (concat_map tape_records.words (flatten f)) tape) tape = cc in
          record {
            entries = f;
            reads = d ∙ ap (given f) (q-is ∙ h);
            count = sym (size_is ∙ length-flatten f);
            memory = rw (eq-eqb q end (q-is ∙ h)) at memory-is;
          }
      go (refused r) d o = let z : ◌≡◌ {A = ℕ} 0 1 = cc in absurd (omega arith)

  refusal-untold : (e : Refusal) → outcome (refused e) after ≡ read_table_to errata s start end used tape → after ≡ tape
  unfolding read_table_to read_table
  refusal-untold e o = go (table_at errata s start (room_of used tape)) o
    where
      go : (a : Answer LocatedTable) → outcome (refused e) after ≡ ending_at end tape (fill_tape used tape (as_tape a)) → after ≡ tape
      go (given f q) h = let z : ◌≡◌ {A = ℕ} 0 1 = cc in absurd (omega arith)
      go (refused r) h = cc

  pub refused-untold : (r : Result (ℕ × Cursor) WireError) → outcome (answer_of_records r) after ≡ read_table_to errata s start end used tape → None ≡ result_ok r → after ≡ tape
  refused-untold (Ok x) o e = let z : ◌≡◌ {A = ℕ} 0 1 = cc in absurd (omega arith)
  refused-untold (Err e) o n = refusal-untold _ o

  pub elsewhere-untold : (x : WithCount Unit) (n : ℕ) → (n ≡ end → ⊥) → outcome (given x n) after ≡ read_table_to errata s start end used tape → after ≡ tape
  unfolding read_table_to read_table
  elsewhere-untold x n other o = go (table_at errata s start (room_of used tape)) o
    where
      go : (a : Answer LocatedTable) → outcome (given x n) after ≡ ending_at end tape (fill_tape used tape (as_tape a)) → after ≡ tape
      go (given f q) h =
          let q-is : q ≡ n = cc in
          let memory-is : after ≡ cond (eqb q end) (splice (used * 6) (concat_map tape_records.words (flatten f)) tape) tape = cc in
          rw (ne_eqb q end (λ w. other (sym q-is ∙ w))) at memory-is
      go (refused r) h = let z : ◌≡◌ {A = ℕ} 0 1 = cc in absurd (omega arith)

  place-count : (k : ℕ) → records_in (place_after k start None) ≡ k
  place-count k = decide (eqb k 0) (λ y. rw y (sym (eqb-true k 0 y))) (λ n. rw n refl)

  -- the whole: what the reader of properties gives
  module _ (flags p : ℕ) (small : flags < 8192) (there : 1024 ≤ flags % 2048) (first others : List Field) (first-is : first ≡ fields_before flags) (others-is : others ≡ fields_behind flags) where
    pub once-read : (before behind words₀ : List ℕ) (i j : Option TablePlace) (next : Cursor) (k n : ℕ)
        → FieldsStored (scan_at errata first s p 0 None) 0 (zeros 22) before (Ok (i, record { at = start }))
        → FieldsStored (scan_at errata others s end 0 None) 0 (take (22 - (own_word flags + 1)) (drop (own_word flags + 1) before)) behind (Ok (j, next))
        → n ≡ end → outcome (given (record { value = tt; count = k }) n) after ≡ read_table_to errata s start end used tape
        → (c size : ℕ) → let w = words_once (own_word flags) (22 - (own_word flags + 1)) before behind k in
        words_outcome (given (record { value = record { class = c; body_size = size; present = flags; words = w }; count = k }) next.at) w after
        ≡ in_words header_words (λ x. x.words) words₀ (read_properties errata c size flags s p used tape)
    once-read before behind words₀ i j next k n d1 d2 h o c size =
        let t = told k n h o in
        let x = stored-scan (fields_before flags) s p (zeros 22) before i (record { at = start }) (rw first-is at d1) in
        let y = stored-scan (fields_behind flags) s end _ behind j next (rw others-is at d2) in
        let place : Option TablePlace = place_after k start None in
        let xs : List ℕ = x.read.words in
        let ys : List ℕ = y.read.words in
        let scan : scan_at errata (select (flags_of 13 flags) properties) s p (room_of used tape) None ≡ given (record { words = xs ++ (k ∷ ys); table = place }) next.at =
        rw (split-headers flags there)
        (scan-around (fields_before flags) (fields_behind flags) s p (room_of used tape) x.read start t.entries end y.read next.at (before-plain flags) (behind-plain flags) x.scan
        t.reads y.scan
        ∙ ap (λ (m : ℕ). given (record { words = xs ++ (m ∷ ys); table = place_after m start None }) next.at) t.count) in
        let own : length xs ≡ own_word flags = scan-width (fields_before flags) s p x.read start x.scan ∙ before-widths flags small in
        let few : length ys ≤ 22 - (own_word flags + 1) = omega (arith, scan-width (fields_behind flags) s end y.read next.at y.scan, behind-fit flags small there) in
        let words = words-around (zeros 22) before behind xs ys (own_word flags) (22 - (own_word flags + 1)) k own (omega (arith, behind-fit flags small there)) few x.words y.words in
        let filled = one_table errata s used tape start end (record { start = start; entries = t.entries }) (unfold arg_at in (rw t.reads)) in
        rw (place-count k) at
        (properties-read errata s used tape c size flags p (room_of used tape) (select (flags_of 13 flags) properties) (words_once (own_word flags) (22 - (own_word flags + 1)) before behind k) refl refl
        place next after words₀ small (rw scan (refl, words)) (t.memory ∙ sym (rw t.count at filled.memory)))
