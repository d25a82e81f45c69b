-- The loop over fields: a field's words stored, and one turn.
use mathlib.Core.Path.{◌≡◌, refl, sym, ap, ◌∙◌}
use mathlib.Core.Bool.{cond}
use mathlib.Core.List.{List, [], ◌∷◌, ◌++◌, append_assoc, append-nil}
use Prim.Native.Nat.{ℕ, ◌+◌, ◌-◌, ◌≤◌}
use native.Mathlib.Omega.{arith}
use native.Mathlib.Nat.{sub-zero, zero-add}
use borrow.Author.Tests.{ne_eqb}
use borrow.Rule.Slice.PartMut.{put_mid}
use lib.Dec.{eqb}
use lib.ListN.{length, take, drop, length-drop, drop_of_length-le}
use lib.Seq.{sets, take_all, drop-drop}
use Rattle.types.specs.Answer.{Answer, Refusal, given, refused, and_then}
use Rattle.std.specs.Prelude.{Option, None, Some, Result, Ok, Err}
use Rattle.types.specs.AnswerOf.{refusal, answer_of}
use Rattle.types.specs.declared.Cursor.{Cursor}
use Rattle.types.specs.declared.WireError.{WireError}
use Rattle.types.specs.Memory.{splice}
use Rattle.types.proofs.Chain.{then-go, given-next, given-value}
use Rattle.types.proofs.Splice.{splice-nil, splice-length, splice-after, splice-sets}
use Rattle.tables.specs.Letters.{errata}
use Rattle.tables.specs.Reading.{table_at}
use Rattle.method.specs.Fields.{Kind, kind, table, Field, fixed, arg, Located, Pooled, Args}
use Rattle.method.specs.Reading.{arg_at, arg_tape, fixed_at, fields_at, pooled_arg, pooled_args, used}
use Rattle.method.specs.Words.{width, widths, arg_words, args_words}
use Rattle.method.proofs.Bounds.{arg-within}
use Rattle.method_reader.specs.declared.fields.TablePlace.{TablePlace}
use Rattle.method_reader.specs.Fields.{FieldRead, FieldsRead, field_at, Stored, WordsStored, FieldStored, table_after, last_table, scan_at, FieldsStored, without_records}
use Rattle.method.proofs.KindLaws.{laws, table_or_not, is_table, tableless}
use Rattle.method.specs.Kinds.Table.{TableIn}
use mathlib.Core.Logic.{⊎_elim}
use mathlib.Core.Path.{subst⁻¹}
use Rattle.method.proofs.Kind.{Tableless}
use Rattle.tables.specs.Tape.{flatten}
use Rattle.tables.proofs.TapeLaws.{length-flatten}

-- what the reader of fields answers
abbrev pub ReadFields : Type 0
ReadFields = Result (Option TablePlace × Cursor) WireError

-- One field stored

own-width : (k : Kind) (v : Pooled k) → length (arg_words k v) ≡ width (arg k)
own-width k v = (laws errata k).length-words v

abbrev read_of : (k : Kind) → Located k → FieldRead
read_of k v = record { words = arg_words k (pooled_arg k v); records = used k (pooled_arg k v) }

module _ {B : Type 0} (told : FieldRead → B) (k : Kind) (s : List ℕ) (p room : ℕ) (before after : List ℕ) where
  pub stored_refused : (r : Result (B × Cursor) WireError) (e : Refusal) → refused e ≡ arg_at errata k s p room → answer_of r ≡ refused e
      → Stored (λ x. x.words) told (field_at errata (arg k) s p room) 0 before after r
  unfolding field_at
  stored_refused r e a h = rw (← a) h

  pub stored-given : (v : Located k) (b : B) (next : Cursor) → given v next.at ≡ arg_at errata k s p room → b ≡ told (read_of k v) → width (arg k) ≤ length before
      → after ≡ sets before 0 (arg_words k (pooled_arg k v)) → Stored (λ x. x.words) told (field_at errata (arg k) s p room) 0 before after (Ok (b, next))
  unfolding field_at
  stored-given v b next a o l m =
      let w = own-width k (pooled_arg k v) in
      rw (← a) (ap (λ (x : B). given x next.at) o, m ∙ splice-sets (arg_words k (pooled_arg k v)) before 0 (omega (arith, w)))

-- a span's two words, put at the start
pub two-put : (ws part : List ℕ) (a b : ℕ) → 2 ≤ length ws → part ≡ a ∷ b ∷ [] → part ++ drop 2 ws ≡ sets ws 0 (a ∷ b ∷ [])
two-put (x ∷ y ∷ ws) part a b l e = rw e
two-put [] part a b l e = absurd (omega arith)
two-put (x ∷ []) part a b l e = absurd (omega arith)

-- and two more behind them
pub four-put : (ws part more : List ℕ) (a b c d : ℕ) → 4 ≤ length ws → part ≡ a ∷ b ∷ [] → more ≡ c ∷ d ∷ [] → put_mid 2 2 (part ++ drop 2 ws) more ≡ sets ws 0 (a ∷ b ∷ c ∷ d ∷ [])
four-put (x ∷ y ∷ z ∷ w ∷ ws) part more a b c d l e f = rw (e, f)
four-put [] part more a b c d l e f = absurd (omega arith)
four-put (x ∷ []) part more a b c d l e f = absurd (omega arith)
four-put (x ∷ y ∷ []) part more a b c d l e f = absurd (omega arith)
four-put (x ∷ y ∷ z ∷ []) part more a b c d l e f = absurd (omega arith)

pub stored-fixed : (xs s : List ℕ) (p room : ℕ) (words : List ℕ) (r : Result (Unit × Cursor) WireError)
    → answer_of r ≡ fixed_at xs s p → WordsStored (field_at errata (fixed xs) s p room) 0 words words r
unfolding field_at
stored-fixed xs s p room words r e = by (fixed_at xs s p) e
  where
    by : (a : Answer Unit) → answer_of r ≡ a
        → WordsStored (and_then a (λ x q. given (record { words = []; records = 0 }) q)) 0 words words r
    by (given x q) h = (h, sym (splice-nil 0 words))
    by (refused q) h = h

-- One turn: a field, then the fields left

-- the last table that has records, behind a field at p with so many
abbrev pub place_after : ℕ → ℕ → Option TablePlace → Option TablePlace
place_after own p last = cond (eqb own 0) last (Some (record { records = own; start = p }))

own-tape : (k : Kind) (v : Located k) → used k (pooled_arg k v) ≡ length (arg_tape k v)
own-tape k v = (laws errata k).used-tape v

pub no-records : (k : Kind) → Tableless (kind k) → (v : Located k) → used k (pooled_arg k v) ≡ 0
no-records k t v = own-tape k v ∙ ap length (t.no-tape v)

own-table : (k : Kind) (s : List ℕ) (p room : ℕ) (v : Located k) (q : ℕ) (last : Option TablePlace) → arg_at errata k s p room ≡ given v q
    → table_after k v last ≡ place_after (length (arg_tape k v)) p last
unfolding arg_at
own-table k s p room v q last e =
    ⊎_elim (λ t. rw (no-records k t v, t.no-tape v))
    (λ h. subst⁻¹ (λ (j : Kind). (x : Located j) → arg_at errata j s p room ≡ given x q → table_after j x last ≡ place_after (length (arg_tape j x)) p last) h at-start v e)
    (table_or_not k)
  where
    at-start : (x : TableIn) → arg_at errata table s p room ≡ given x q → table_after table x last ≡ place_after (length (flatten x.entries)) p last
    at-start x h =
        then-go (table_at errata s p room) _ x q h
        (λ t m e1 h1.
        let w = given-value (record { start = p; entries = t }) x m q h1 in
        rw (← w, length-flatten t))

-- A field that is no table asks for no room and has no records

abbrev pub Plain : Field → Type 0
Plain (fixed xs) = Unit
Plain (arg k) = is_table k ≡ 0

pub recordless : (f : Field) → Plain f → (s : List ℕ) (p room : ℕ) (x : FieldRead) (q : ℕ) → field_at errata f s p room ≡ given x q → x.records ≡ 0
unfolding field_at
recordless (fixed xs) h s p room x q e =
    then-go (fixed_at xs s p) _ x q e (λ u n e1 h1. rw (← (given-value (record { words = []; records = 0 }) x n q h1)))
recordless (arg k) h s p room x q e =
    then-go (arg_at errata k s p room) _ x q e (λ v n e1 h1. rw (← (given-value (read_of k v) x n q h1)) (no-records k (tableless k h) v))

roomless : (f : Field) → Plain f → (s : List ℕ) (p room : ℕ) → field_at errata f s p 0 ≡ field_at errata f s p room
unfolding field_at arg_at
roomless (fixed xs) h s p room = refl
roomless (arg k) h s p room = rw ((tableless k h).no_room errata s p room)

pub plain-stored : (f : Field) → Plain f → (s : List ℕ) (p room : ℕ) (before after : List ℕ) (r : Result (Unit × Cursor) WireError)
    → WordsStored (field_at errata f s p 0) 0 before after r → FieldStored (field_at errata f s p room) 0 before after (without_records r)
plain-stored f plain s p room before after r stored = go (field_at errata f s p room) refl r (rw (roomless f plain s p room) at stored)
  where
    go : (a : Answer FieldRead) → field_at errata f s p room ≡ a → (r : Result (Unit × Cursor) WireError) → WordsStored a 0 before after r → FieldStored a 0 before after (without_records r)
    go (given x q) e (Ok (u, next)) g = (rw (recordless f plain s p room x q e, given-next u tt next.at q g.0) refl, g.1)
    go (given x q) e (Err y) g = let h = g.0 in let z : ◌≡◌ {A = ℕ} 0 1 = cc in absurd (omega arith)
    go (refused x) e (Ok (u, next)) g = let z : ◌≡◌ {A = ℕ} 0 1 = cc in absurd (omega arith)
    go (refused x) e (Err y) g = let same : refusal y ≡ x = cc in ap refused same

-- what was answered, by what was stored
module _ (j : ℕ) (before stored : List ℕ) where
  answer-refused : (a : Answer FieldRead) (e : WireError) → FieldStored a j before stored (Err e) → a ≡ refused (refusal e)
  answer-refused (given x n) e g = let h = g.0 in let z : ◌≡◌ {A = ℕ} 0 1 = cc in absurd (omega arith)
  answer-refused (refused x) e g = let same : x ≡ refusal e = cc in ap refused same

  answer-given : {G : Type 0} (a : Answer FieldRead) (own : ℕ) (next : Cursor) → FieldStored a j before stored (Ok (own, next))
      → ((x : FieldRead) → a ≡ given x next.at → x.records ≡ own → stored ≡ splice j x.words before → G) → G
  answer-given (given x n) own next g go =
      let e : ◌≡◌ {A = Answer ℕ} (given x.records n) (given own next.at) = sym g.0 in
      go x (ap (given x) (given-next x.records own n next.at e)) (given-value x.records own n next.at e) g.1
  answer-given (refused x) own next g go = let z : ◌≡◌ {A = ℕ} 0 1 = cc in absurd (omega arith)

-- words before those of the fields behind
abbrev pub behind : List ℕ → Answer FieldsRead → Answer FieldsRead
behind ws a = and_then a (λ y n. given (record { words = ws ++ y.words; table = y.table }) n)

stored-behind : (ws : List ℕ) (a : Answer FieldsRead) (j : ℕ) (before after : List ℕ) (r : ReadFields) → j + length ws ≤ length before
    → FieldsStored a (j + length ws) (splice j ws before) after r → FieldsStored (behind ws a) j before after r
stored-behind ws (given y n) j before after r l h = (h.0, h.1 ∙ splice-after j ws y.words before l)
stored-behind ws (refused e) j before after r l h = h

then-stop : {A B : Type 0} (a : Answer A) (g : A → B) (e : Refusal) → and_then a (λ x q. given (g x) q) ≡ refused e → a ≡ refused e
then-stop (given x q) g e h = let z : ◌≡◌ {A = ℕ} 0 1 = cc in absurd (omega arith)
then-stop (refused x) g e h = ap refused (let z : x ≡ e = cc in z)

module _ (s : List ℕ) (p room : ℕ) where
  -- its records are within the room, and its words are as many as its kind says
  field_fits : (f : Field) (x : FieldRead) (q : ℕ) → field_at errata f s p room ≡ given x q → (x.records ≤ room) × (length x.words ≡ width f)
  unfolding field_at
  field_fits (fixed xs) x q h =
      then-go (fixed_at xs s p) _ x q h
      (λ u m e1 h1.
      let w = given-value (record { words = []; records = 0 }) x m q h1 in
      rw (← w) (omega arith, refl))
  field_fits (arg k) x q h =
      then-go (arg_at errata k s p room) _ x q h
      (λ v m e1 h1.
      let y : FieldRead = record { words = arg_words k (pooled_arg k v); records = used k (pooled_arg k v) } in
      let w = given-value y x m q h1 in
      let a = arg-within errata k s p room v m e1 in
      rw (← w) (omega (arith, own-tape k v, a.fits), own-width k (pooled_arg k v)))

module _ (fs : List Field) (s : List ℕ) (p room : ℕ) (last : Option TablePlace) where
  pub field-refused : (f : Field) (e : Refusal) → field_at errata f s p room ≡ refused e → scan_at errata (f ∷ fs) s p room last ≡ refused e
  unfolding field_at scan_at fields_at
  field-refused (fixed xs) e h = rw (then-stop (fixed_at xs s p) _ e h)
  field-refused (arg k) e h = rw (then-stop (arg_at errata k s p room) _ e h)

  pub field-given : (f : Field) (x : FieldRead) (q : ℕ) → field_at errata f s p room ≡ given x q
      → scan_at errata (f ∷ fs) s p room last ≡ behind x.words (scan_at errata fs s q (room - x.records) (place_after x.records p last))
  unfolding field_at scan_at fields_at args_words pooled_args last_table
  field-given (fixed xs) x q h =
      then-go (fixed_at xs s p) _ x q h
      (λ u m e1 h1.
      let w = given-value (record { words = []; records = 0 }) x m q h1 in
      let n = given-next (record { words = []; records = 0 }) x m q h1 in
      rw (e1, ← w, ← n, sub-zero room) (none (fields_at errata fs s m room)))
    where
      none : (b : Answer (Args Located fs))
          → and_then b (λ vs q. given (record { words = args_words fs (pooled_args fs vs); table = last_table fs vs last }) q)
          ≡ behind [] (and_then b (λ vs q. given (record { words = args_words fs (pooled_args fs vs); table = last_table fs vs last }) q))
      none (given vs n) = refl
      none (refused e) = refl
  field-given (arg k) x q h =
      then-go (arg_at errata k s p room) _ x q h
      (λ v m e1 h1.
      let y : FieldRead = record { words = arg_words k (pooled_arg k v); records = used k (pooled_arg k v) } in
      let w = given-value y x m q h1 in
      let n = given-next y x m q h1 in
      rw (e1, ← w, ← n, own-tape k v, ← (own-table k s p room v m last e1)) (one v (fields_at errata fs s m (room - length (arg_tape k v)))))
    where
      one : (v : Located k) (b : Answer (Args Located fs))
          → and_then (and_then b (λ vs r. given (v, vs) r))
          (λ (vs : Args Located (arg k ∷ fs)) q. given (record { words = args_words (arg k ∷ fs) (pooled_args (arg k ∷ fs) vs); table = last_table (arg k ∷ fs) vs last }) q)
          ≡ behind (arg_words k (pooled_arg k v)) (and_then b (λ vs q. given (record { words = args_words fs (pooled_args fs vs); table = last_table fs vs (table_after k v last) }) q))
      one v (given vs n) = refl
      one v (refused e) = refl

  turn-given : (f : Field) (x : FieldRead) (q j : ℕ) (before stored : List ℕ) → field_at errata f s p room ≡ given x q → stored ≡ splice j x.words before
      → j + width f ≤ length before → (after : List ℕ) (r : ReadFields)
      → FieldsStored (scan_at errata fs s q (room - x.records) (place_after x.records p last)) (j + width f) stored after r
      → FieldsStored (scan_at errata (f ∷ fs) s p room last) j before after r
  turn-given f x q j before stored e n l after r k =
      let wide = (field_fits s p room f x q e).1 in
      rw (field-given f x q e)
      (stored-behind x.words (scan_at errata fs s q (room - x.records) (place_after x.records p last)) j before after r (omega (arith, wide)) (rw (wide, ← n) k))

-- words stored in a part of the memory are stored in the memory
pub part-stored : (a k : ℕ) (ws l : List ℕ) → a + k ≡ length l → take a l ++ (splice 0 ws (take k (drop a l)) ++ drop k (drop a l)) ≡ splice a ws l
unfolding splice
part-stored a k ws l e =
    let all : take k (drop a l) ≡ drop a l = take_all k (drop a l) (omega (arith, length-drop a l)) in
    let none : drop k (drop a l) ≡ [] = drop_of_length-le (drop a l) {i = k} (omega (arith, length-drop a l)) in
    let rest : ws ++ drop (0 + length ws) (drop a l) ++ [] ≡ ws ++ drop (a + length ws) l =
    append-nil (ws ++ drop (0 + length ws) (drop a l)) ∙ (rw (zero-add (length ws), drop-drop (length ws) a l)) in
    rw (all, none) (ap (λ (r : List ℕ). take a l ++ r) rest ∙ sym (append_assoc (take a l) ws (drop (a + length ws) l)))

-- The fields left

abbrev pub AllStored : List Field → List ℕ → ℕ → ℕ → List ℕ → List ℕ → ReadFields → Type 0
AllStored fields s from room before after r = FieldsStored (scan_at errata fields s from room None) 0 before after r

-- What is left, done, does the whole
pub record Going (fields : List Field) (s : List ℕ) (from room : ℕ) (words₀ words : List ℕ) (last : Option TablePlace) (left : ℕ) (at : Cursor) (j : ℕ) (others : List Field) : Type 0 where
  pub fits : j + widths others ≤ length words
  pub same : length words ≡ length words₀
  pub rest : (after : List ℕ) (r : ReadFields) → FieldsStored (scan_at errata others s at.at left last) j words after r → AllStored fields s from room words₀ after r

pub going : (fields : List Field) (s : List ℕ) (from : Cursor) (room : ℕ) (words : List ℕ) → widths fields ≤ length words
    → Going fields s from.at room words words None room from 0 fields
going fields s from room words w = record { fits = omega arith; same = refl; rest = λ after r g. g }

module _ {fields : List Field} {s : List ℕ} {from room : ℕ} {words₀ words : List ℕ} {last : Option TablePlace} {left : ℕ} {at : Cursor} {j : ℕ} {others : List Field}
    (go : Going fields s from room words₀ words last left at j others) where
  pub at-end : others ≡ [] → AllStored fields s from room words₀ words (Ok (last, at))
  unfolding scan_at fields_at args_words last_table
  at-end e = go.rest words (Ok (last, at)) (rw e (refl, sym (splice-nil j words)))

  module _ (here : Field) (next_ones : List Field) (e : others ≡ here ∷ next_ones) where
    wide : j + (width here + widths next_ones) ≤ length words
    wide = rw e at go.fits

    pub words-here : width here ≤ length (drop j words)
    words-here = omega (arith, wide, length-drop j words)

    -- the words behind word j are lent as a part
    module _ (part : List ℕ) (k : ℕ) (whole : j + k ≡ length words) where
      abbrev stored : List ℕ
      stored = take j words ++ (part ++ drop k (drop j words))

      abbrev lent : List ℕ
      lent = take k (drop j words)

      pub turn-refused : (e : WireError) → FieldStored (field_at errata here s at.at left) 0 lent part (Err e)
          → (after : List ℕ) (r : ReadFields) → answer_of r ≡ refused (refusal e) → AllStored fields s from room words₀ after r
      turn-refused x g after r h =
          let f = answer-refused 0 lent part (field_at errata here s at.at left) x g in
          go.rest after r (rw (e, field-refused next_ones s at.at left last here (refusal x) f) h)

      module _ (own : ℕ) (next : Cursor) (g : FieldStored (field_at errata here s at.at left) 0 lent part (Ok (own, next))) where
        pub own-fits : own ≤ left
        own-fits =
            answer-given 0 lent part (field_at errata here s at.at left) own next g
            (λ x e m n. rw m at (field_fits s at.at left here x next.at e).0)

        turn : (place : Option TablePlace) (left' : ℕ) → place ≡ place_after own at.at last → left' ≡ left - own
            → Going fields s from room words₀ stored place left' next (j + width here) next_ones
        turn place left' table-is room' =
            answer-given 0 lent part (field_at errata here s at.at left) own next g
            (λ x d m n.
            let all : stored ≡ splice j x.words words = (rw n) ∙ part-stored j k x.words words whole in
            let same : length stored ≡ length words = ap length all ∙ splice-length j x.words [] words (omega (arith, wide, (field_fits s at.at left here x next.at d).1)) in
            record {
              fits = omega (arith, wide);
              same = same ∙ go.same;
              rest =
                  λ after r h.
                  go.rest after r
                  (rw e (turn-given next_ones s at.at left last here x next.at j words stored d all (omega (arith, wide)) after r (rw (m, ← table-is, ← room') h)));
            })

        -- a field without records, and a table that has some
        pub turn-plain : own ≡ 0 → Going fields s from room words₀ stored last left next (j + width here) next_ones
        turn-plain z = turn last left (rw z) (omega arith)

        pub turn-table : (own ≡ 0 → ⊥) → Going fields s from room words₀ stored (Some (record { records = own; start = at.at })) (left - own) next (j + width here) next_ones
        turn-table z = turn (Some (record { records = own; start = at.at })) (left - own) (rw (ne_eqb own 0 z)) refl
