-- What the second pass leaves on the tape: records one behind another, the name and the entries of a container, and a value of each kind.
use mathlib.Core.Path.{◌≡◌, refl, sym, ap, ◌∙◌}
use mathlib.Core.Bool.{Bool, true, false}
use mathlib.Core.List.{List, [], ◌∷◌, ◌++◌}
use Prim.Native.Nat.{ℕ, suc, ◌+◌, ◌-◌, ◌*◌, ◌≤◌, ◌<◌}
use native.Mathlib.Nat.{add-zero}
use native.Mathlib.Omega.{arith}
use lib.ListN.{length, get_or, length-append}
use lib.Dec.{ltb}
use Rattle.types.specs.Answer.{Answer, given, refused, not_utf8, too_deep, tape_full, and_then}
use Rattle.types.specs.Memory.{splice}
use Rattle.types.specs.Octets.{number_at, uint_at}
use Rattle.types.specs.Strings.{octets_of, span_at, long_str_at, short_str_at}
use Rattle.types.specs.Records.{concat_map}
use Rattle.types.specs.declared.Span.{Span}
use Rattle.types.proofs.Splice.{splice-nil, splice-length, splice-after, splice-before}
use Rattle.types.proofs.Tests.{leb_yes, yes_leb}
use Rattle.types.proofs.Chain.{then-go, need-given, given-value, given-next}
use Rattle.types.proofs.NumberLaws.{uint_at-read}
use Rattle.types.proofs.RoundTrip.{span-move, long-start}
use Rattle.utf8.specs.Utf8.{utf8}
use Rattle.tables.specs.Letters.{Kind, leaf, container, unknown, Letters, kind_of}
use Rattle.tables.specs.Forest.{none, item, size, words, Words, LocatedTable}
use Rattle.tables.specs.Reading.{Reader, Value, leaf_at, name_at, entries_at, container_at, payload_at, value_at}
use Rattle.tables.specs.Tape.{Record, tape_records, flatten}
use Rattle.tables.specs.Writing.{has_level}
use Rattle.tables.specs.AnswerOf.{answer_of_kind, kind_or_unknown, payload_words}
use Rattle.tables.specs.declared.PayloadWords.{PayloadWords}
use Rattle.types.specs.declared.WireError.{WireError}
use Rattle.types.specs.AnswerOf.{answer_of, answer_with}
use Rattle.std.specs.Prelude.{Option, Some, None, IsSome, Result, Ok, Err, IsOk}
use Rattle.tables.specs.declared.Kind as code
use Rattle.tables.specs.declared.Kind.TheVariants as variant
use Rattle.tables.proofs.ReadingLaws.{Moving, entries-end, entries-step, container-move, below_at, below-is, value-is, value-move}
use Rattle.tables.proofs.Room.{container-room, value_room}
use Rattle.tables.proofs.TapeLaws.{length-flatten, length-concat_map, concat_map-append}
use Rattle.types.specs.declared.Cursor.{Cursor}
use Rattle.table_reader.specs.Filling.{Filled, Given, Fits, Holds, Stored, records_of, payload_of}

-- Records on the tape

abbrev pub words_of : List Record → List ℕ
words_of rs = concat_map tape_records.words rs

words-length : (rs : List Record) → length (words_of rs) ≡ length rs * 6
words-length rs = length-concat_map tape_records (λ r. refl) rs

pub holds-nil : (k p : ℕ) (tape : List ℕ) → Holds [] k p tape tape (k, record { at = p })
holds-nil k p tape = record { memory = sym (splice-nil (k * 6) tape); place = refl; count = sym (add-zero k) }

module _ {rs : List Record} {k m : ℕ} {before mid : List ℕ} {r : Filled} (h : Holds rs k m before mid r) where
  pub holds-length : (k + length rs) * 6 ≤ length before → length mid ≡ length before
  holds-length f =
      ap length h.memory ∙ splice-length (k * 6) (words_of rs) [] before (omega (arith, words-length rs))

  -- more records, behind those that stand
  pub holds_after : (k + length rs) * 6 ≤ length before → {qs : List Record} {n : ℕ} {after : List ℕ} {q : Filled}
      → Holds qs r.0 n mid after q → Holds (rs ++ qs) k n before after q
  holds_after f {qs} {n} {after} {q} g =
      record {
        memory =
            g.memory
            ∙ ap (λ i. splice i (words_of qs) mid) (omega (arith, h.count, words-length rs))
            ∙ ap (splice (k * 6 + length (words_of rs)) (words_of qs)) h.memory
            ∙ splice-after (k * 6) (words_of rs) (words_of qs) before (omega (arith, words-length rs))
            ∙ ap (λ ws. splice (k * 6) ws before) (sym (concat_map-append tape_records.words rs qs));
        place = g.place;
        count = omega (arith, g.count, h.count, length-append rs qs);
      }

-- a record before those that stand
pub holds-before : {rs : List Record} {k n : ℕ} {before mid : List ℕ} {r : Filled} (own : Record) (after : List ℕ) → Holds rs (k + 1) n before mid r → (k + 1) * 6 ≤ length before
    → after ≡ splice (k * 6) (tape_records.words own) mid → Holds (own ∷ rs) k n before after r
holds-before {rs} {k} {n} {before} {mid} {r} own after h f e =
    record {
      memory =
          e
          ∙ ap (splice (k * 6) (tape_records.words own)) (h.memory ∙ ap (λ i. splice i (words_of rs) before) (omega arith))
          ∙ splice-before (k * 6) (tape_records.words own) (words_of rs) before (omega arith);
      place = h.place;
      count = omega (arith, h.count);
    }

-- An accepted answer

pub record Shown {A : Type 0} (a : Answer A) : Type 0 where
  pub value : A
  pub next : ℕ
  pub is : a ≡ given value next

pub shown : {A : Type 0} (a : Answer A) → Given a → Shown a
shown (given x n) g = record { value = x; next = n; is = refl }
shown (refused r) g = absurd g

pub fits-given : {A : Type 0} (rs : A → List Record) (a : Answer A) (k : ℕ) (tape : List ℕ) → Fits rs a k tape → Given a
fits-given rs (given x n) k tape h = tt
fits-given rs (refused r) k tape h = absurd h

-- an octet
pub record Octet (s : List ℕ) (p c q : ℕ) : Type 0 where
  pub within : p + 1 ≤ length s
  pub is : c ≡ get_or s p 0
  pub past : q ≡ p + 1

pub octet : (s : List ℕ) (p c q : ℕ) → uint_at 1 s p ≡ given c q → Octet s p c q
unfolding number_at
octet s p c q e =
    let r = uint_at-read 1 s p (sym e) in
    record { within = r.within; is = r.number ∙ (rw add-zero (omega arith)); past = r.past }

-- the name of a table's entry: its length, and as many octets
pub record Named (s : List ℕ) (p : ℕ) : Type 0 where
  pub within : p + 1 + get_or s p 0 ≤ length s
  pub is : name_at true s p ≡ given (record { start = p + 1; len = get_or s p 0 }) (p + 1 + get_or s p 0)

pub name_there : (s : List ℕ) (p : ℕ) → Given (name_at true s p) → Named s p
unfolding name_at short_str_at
name_there s p g =
    let a = shown (name_at true s p) g in
    then-go (uint_at 1 s p) _ a.value a.next a.is
    (λ n q e1 h1.
    then-go (span_at n s q) _ a.value a.next h1
    (λ v r e2 h2.
    let o = octet s p n q e1 in
    let b = span-move n s q v r e2 in
    let u = (need-given (utf8 (octets_of s v)) not_utf8 (given v r) a.value a.next h2).1 in
    record {
      within = omega (arith, o.is, o.past, b.0, b.1);
      is = a.is ∙ sym u ∙ (rw (b.2, b.0, o.past, o.is));
    }))

-- Entries

-- a name with its value, and what follows
pub record Entry (value : Reader Value) (named : Bool) (s : List ℕ) (p end room : ℕ) (name : Span) (q : ℕ) : Type 0 where
  pub own : Shown (value s q room)
  pub rest : Shown (entries_at value named s own.next end (room - suc (size own.value.beneath)))
  pub is : entries_at value named s p end room ≡ given (item name own.value.letter own.value.payload own.value.beneath rest.value) rest.next

module _ (value : Reader Value) (named : Bool) (s : List ℕ) (moving : Moving value) (p end room : ℕ) (inside : p ≤ length s) (more : p < end) (g : Given (entries_at value named s p end room)) where
  pub entry-name : Given (name_at named s p)
  entry-name =
      let a = shown (entries_at value named s p end room) g in
      then-go (name_at named s p) _ a.value a.next (sym (entries-step value named s moving p end room inside more) ∙ a.is) (λ name q e h. rw e tt)

  pub entry : (name : Span) (q : ℕ) → name_at named s p ≡ given name q → Entry value named s p end room name q
  entry name q e =
      let a = shown (entries_at value named s p end room) g in
      let h : and_then (name_at named s p) _ ≡ given a.value a.next = sym (entries-step value named s moving p end room inside more) ∙ a.is in
      then-go (value s q room) _ a.value a.next (rw e at h)
      (λ v r e1 h1.
      then-go (entries_at value named s r end (room - suc (size v.beneath))) _ a.value a.next h1
      (λ after n e2 h2.
      record {
        own = record { value = v; next = r; is = e1 };
        rest = record { value = after; next = n; is = e2 };
        is = a.is ∙ sym h2;
      }))

-- a container is the entries in its body
module _ (value : Reader Value) (named : Bool) (s : List ℕ) (p room : ℕ) (body : Span) (end : ℕ) (e : long_str_at s p ≡ given body end) where
  container-entries : container_at value named s p room ≡ entries_at value named s body.start (body.start + body.len) room
  unfolding container_at
  container-entries = rw (e, (long-start s p body end e).1)

  pub entries_fit : (k : ℕ) (tape : List ℕ) → Fits flatten (container_at value named s p room) k tape → Fits flatten (entries_at value named s body.start (body.start + body.len) room) k tape
  entries_fit k tape f = rw container-entries at f

  pub entries-stored : (k : ℕ) (tape after : List ℕ) (r : Filled) → Stored flatten (entries_at value named s body.start (body.start + body.len) room) k tape after r
      → Stored flatten (container_at value named s p room) k tape after r
  entries-stored k tape after r h = rw container-entries h

pub body-inside : (s : List ℕ) (p : ℕ) (body : Span) (end : ℕ) → long_str_at s p ≡ given body end → body.start + body.len ≤ length s
body-inside s p body end e = let l = long-start s p body end e in omega (arith, l.1, l.2)

pub has_body : (value : Reader Value) (named : Bool) (s : List ℕ) (p room k : ℕ) (tape : List ℕ) (q : Result (Span × Cursor) WireError) → answer_of q ≡ long_str_at s p
    → Fits flatten (container_at value named s p room) k tape → IsOk q
unfolding container_at
has_body value named s p room k tape (Ok x) e f = refl
has_body value named s p room k tape (Err r) e f = absurd (rw (sym e) at f)

-- Every record has an octet, so there is room for what is accepted with any room
module _ (letters : Letters) (d : ℕ) (s : List ℕ) where
  pub value-whole : (p room : ℕ) (v : Value) (n : ℕ) → value_at letters d s p room ≡ given v n → value_at letters d s p (length s) ≡ given v n
  value-whole p room v n e =
      let m = value-move letters d s p room v n e in
      value_room letters d s p room v n e (length s) ∙ (rw (leb_yes (suc (size v.beneath)) (length s) (omega (arith, m.far, m.inside))))

  pub container-whole : (named : Bool) (p room : ℕ) (t : LocatedTable) (n : ℕ) → container_at (value_at letters d) named s p room ≡ given t n
      → container_at (value_at letters d) named s p (length s) ≡ given t n
  container-whole named p room t n e =
      let m = container-move (value_at letters d) (value-move letters d) named s p room t n e in
      container-room (value_at letters d) (value_room letters d) named s p room t n e (length s) ∙ (rw (leb_yes (size t) (length s) (omega (arith, m.far, m.inside))))

-- The loop over the entries, at position p and record k: what is left, when it is done, does the whole
pub record Going (letters : Letters) (d : ℕ) (named : Bool) (s : List ℕ) (start end : ℕ) (tape₀ : List ℕ) (k₀ : ℕ) (tape : List ℕ) (p k : ℕ) : Type 0 where
  pub room : ℕ
  pub inside : p ≤ length s
  pub fits : Fits flatten (entries_at (value_at letters d) named s p end room) k tape
  pub rest : (after : List ℕ) (r : Filled) → Stored flatten (entries_at (value_at letters d) named s p end room) k tape after r
      → Stored flatten (entries_at (value_at letters d) named s start end (length s)) k₀ tape₀ after r
  pub same : length tape ≡ length tape₀

pub going : (letters : Letters) (d : ℕ) (named : Bool) (s : List ℕ) (start end : ℕ) (tape : List ℕ) (k : ℕ) → start ≤ length s
    → Fits flatten (entries_at (value_at letters d) named s start end (length s)) k tape → Going letters d named s start end tape k tape start k
going letters d named s start end tape k h f = record { room = length s; inside = h; fits = f; rest = λ after r done. done; same = refl }

module _
    {letters : Letters} {d : ℕ} {named : Bool} {s : List ℕ} {start end : ℕ} {tape₀ : List ℕ} {k₀ : ℕ} {tape : List ℕ} {p k : ℕ}
    (go : Going letters d named s start end tape₀ k₀ tape p k) where
  pub at-end : end ≤ p → Stored flatten (entries_at (value_at letters d) named s start end (length s)) k₀ tape₀ tape (k, record { at = p })
  unfolding flatten
  at-end h = go.rest tape (k, record { at = p }) (rw (entries-end (value_at letters d) named s (value-move letters d) p end go.room h) (holds-nil k p tape))

  module _ (more : p < end) where
    accepted : Given (entries_at (value_at letters d) named s p end go.room)
    accepted = fits-given flatten (entries_at (value_at letters d) named s p end go.room) k tape go.fits

    pub step-name : Given (name_at named s p)
    step-name = entry-name (value_at letters d) named s (value-move letters d) p end go.room go.inside more accepted

    module _ (name : Span) (q : ℕ) (so : name_at named s p ≡ given name q) where
      here : Entry (value_at letters d) named s p end go.room name q
      here = entry (value_at letters d) named s (value-move letters d) p end go.room go.inside more accepted name q so

      own : List Record
      own = records_of name here.own.value

      all_fit : (k + length (own ++ flatten here.rest.value)) * 6 ≤ length tape
      unfolding flatten own
      all_fit = rw here.is at go.fits

      own-fit : (k + length own) * 6 ≤ length tape
      own-fit = omega (arith, all_fit, length-append own (flatten here.rest.value))

      own_is : value_at letters d s q (length s) ≡ given here.own.value here.own.next
      own_is = value-whole letters d s q go.room here.own.value here.own.next here.own.is

      pub step_value : Fits (records_of name) (value_at letters d s q (length s)) k tape
      unfolding own
      step_value = rw own_is own-fit

      module _ (tape' : List ℕ) (r : Filled) (done : Stored (records_of name) (value_at letters d s q (length s)) k tape tape' r) where
        held : Holds own k here.own.next tape tape' r
        unfolding own
        held = rw own_is at done

        pub step_less : (k < r.0) × (r.0 ≤ length tape)
        unfolding own
        step_less = (omega (arith, held.count), omega (arith, held.count, own-fit))

        rest-is : entries_at (value_at letters d) named s r.1.at end (go.room - suc (size here.own.value.beneath)) ≡ given here.rest.value here.rest.next
        rest-is = rw held.place here.rest.is

        pub step-again : Going letters d named s start end tape₀ k₀ tape' r.1.at r.0
        unfolding flatten own
        step-again =
            record {
              room = go.room - suc (size here.own.value.beneath);
              inside = omega (arith, held.place, (value-move letters d s q go.room here.own.value here.own.next here.own.is).inside);
              fits = rw rest-is (omega (arith, all_fit, length-append own (flatten here.rest.value), held.count, holds-length held own-fit));
              rest = λ after f h. go.rest after f (rw here.is (holds_after held own-fit (rw rest-is at h)));
              same = holds-length held own-fit ∙ go.same;
            }

-- where the code has found no container, there is none
pub no-container : (k : code.Kind) → ((named : Bool) → k ≡ variant.Container named → ⊥) → (b : Bool) → answer_of_kind k ≡ container b → ⊥
no-container k o b e = let f : true ≡ false = sym (level k o) ∙ ap (λ x. has_level x 0) e in let z : ◌≡◌ {A = ℕ} 0 1 = cc in omega arith
  where
    level : (k : code.Kind) → ((named : Bool) → k ≡ variant.Container named → ⊥) → has_level (answer_of_kind k) 0 ≡ true
    level (variant.Number width) o = refl
    level variant.Void o = refl
    level variant.Boolean o = refl
    level variant.Decimal o = refl
    level variant.LongStr o = refl
    level (variant.Container named) o = absurd (o named refl)

-- A value that fits, at its letter

pub record Ready (letters : Letters) (d : ℕ) (s : List ℕ) (at : ℕ) (name : Span) (k : ℕ) (tape : List ℕ) : Type 0 where
  pub fits : Fits (records_of name) (value_at letters d s at (length s)) k tape

pub ready : (letters : Letters) (d : ℕ) (s : List ℕ) (at : ℕ) (name : Span) (k : ℕ) (tape : List ℕ) → Fits (records_of name) (value_at letters d s at (length s)) k tape
    → Ready letters d s at name k tape
ready letters d s at name k tape h = record { fits = h }

-- with a container's letter
record Body (letters : Letters) (d : ℕ) (s : List ℕ) (at : ℕ) (named : Bool) : Type 0 where
  deep : 0 < d
  entries : Shown (container_at (value_at letters (d - 1)) named s (at + 1) (length s))
  is : value_at letters d s at (length s) ≡ given (record { letter = get_or s at 0; payload = words 0 0; beneath = entries.value }) entries.next

-- with a leaf's
record LeafThere (k : Kind) (c : ℕ) (s : List ℕ) (p : ℕ) (v : Value) (n : ℕ) : Type 0 where
  payload : Shown (payload_of k s p)
  is : given v n ≡ given (record { letter = c; payload = payload.value; beneath = none }) payload.next

leaf-there : (d : ℕ) (below : Bool → Reader LocatedTable) (c : ℕ) (k : Kind) (s : List ℕ) (p room : ℕ) (v : Value) (n : ℕ) → ((b : Bool) → k ≡ container b → ⊥)
    → payload_at d below c k s p room ≡ given v n → LeafThere k c s p v n
unfolding payload_at
leaf-there d below c unknown s p room v n h e = let z : ◌≡◌ {A = ℕ} 0 1 = cc in absurd (omega arith)
leaf-there d below c (container b) s p room v n h e = absurd (h b refl)
leaf-there d below c (leaf l) s p room v n h e =
    let o = need-given (ltb 0 room) _ _ v n e in
    then-go (leaf_at l s p) _ v n o.1 (λ x q e1 h1. record { payload = record { value = x; next = q; is = e1 }; is = sym h1 })

module _ {letters : Letters} {d : ℕ} {s : List ℕ} {at : ℕ} {name : Span} {k : ℕ} {tape : List ℕ} (here : Ready letters d s at name k tape) where
  there : Shown (value_at letters d s at (length s))
  there = shown (value_at letters d s at (length s)) (fits-given (records_of name) (value_at letters d s at (length s)) k tape here.fits)

  at-letter : (at + 1 ≤ length s) × (payload_at d (below_at letters d) (get_or s at 0) (kind_of letters (get_or s at 0)) s (at + 1) (length s) ≡ given there.value there.next)
  at-letter =
      then-go (uint_at 1 s at) _ there.value there.next (sym (value-is letters d s at (length s)) ∙ there.is)
      (λ c q e h. let o = octet s at c q e in (o.within, rw (o.is, o.past) at h))

  pub letter-in : at + 1 ≤ length s
  letter-in = at-letter.0

  -- a container: its entries are filled from the next record on, and then its own record
  module _ (named : Bool) (kind : kind_of letters (get_or s at 0) ≡ container named) where
    at_body : Body letters d s at named
    unfolding payload_at
    at_body =
        let e = rw kind at at-letter.1 in
        let o = need-given (ltb 0 d) too_deep _ there.value there.next e in
        let o2 = need-given (ltb 0 (length s)) tape_full _ there.value there.next o.1 in
        then-go (below_at letters d named s (at + 1) (length s - 1)) _ there.value there.next o2.1
        (λ u q e1 h1.
        let deep : 0 < d = yes_leb 1 d o.0 in
        record {
          deep = deep;
          entries =
              record {
                value = u;
                next = q;
                is = container-whole letters (d - 1) s named (at + 1) (length s - 1) u q (sym (below-is letters d named s (at + 1) (length s - 1) deep) ∙ e1);
              };
          is = there.is ∙ sym h1;
        })

    pub body-depth : 1 ≤ d
    body-depth = at_body.deep

    beneath : LocatedTable
    beneath = at_body.entries.value

    body-fit : (k + suc (length (flatten beneath))) * 6 ≤ length tape
    unfolding beneath
    body-fit = rw at_body.is at here.fits

    pub body-room : (k + 1) * 6 ≤ length tape
    body-room = omega (arith, body-fit)

    pub body-fits : Fits flatten (container_at (value_at letters (d - 1)) named s (at + 1) (length s)) (k + 1) tape
    unfolding beneath
    body-fits = rw at_body.entries.is (omega (arith, body-fit))

    module _ (mid : List ℕ) (r : Filled) (done : Stored flatten (container_at (value_at letters (d - 1)) named s (at + 1) (length s)) (k + 1) tape mid r) where
      filled : Holds (flatten beneath) (k + 1) at_body.entries.next tape mid r
      unfolding beneath
      filled = rw at_body.entries.is at done

      pub body-stored : (x : Words) (after : List ℕ) → x ≡ words 0 0
          → after ≡ splice (k * 6) (tape_records.words (record { letter = get_or s at 0; name = name; payload = x; beneath = r.0 - (k + 1) })) mid
          → Stored (records_of name) (value_at letters d s at (length s)) k tape after r
      unfolding beneath
      body-stored x after z e =
          let count : r.0 - (k + 1) ≡ size beneath = omega (arith, filled.count, length-flatten beneath) in
          rw at_body.is (holds-before _ after filled body-room (rw (z, count) at e))

  -- a leaf: its own record alone
  module _ (kind : (b : Bool) → kind_of letters (get_or s at 0) ≡ container b → ⊥) where
    at_leaf : LeafThere (kind_of letters (get_or s at 0)) (get_or s at 0) s (at + 1) there.value there.next
    at_leaf = leaf-there d (below_at letters d) (get_or s at 0) (kind_of letters (get_or s at 0)) s (at + 1) (length s) there.value there.next kind at-letter.1

    leaf-is : value_at letters d s at (length s) ≡ given (record { letter = get_or s at 0; payload = at_leaf.payload.value; beneath = none }) at_leaf.payload.next
    leaf-is = there.is ∙ at_leaf.is

    pub leaf-stored : (x : Words) (next : Cursor) (after : List ℕ) → given x next.at ≡ payload_of (kind_of letters (get_or s at 0)) s (at + 1)
        → after ≡ splice (k * 6) (tape_records.words (record { letter = get_or s at 0; name = name; payload = x; beneath = 0 })) tape
        → Stored (records_of name) (value_at letters d s at (length s)) k tape after (k + 1, next)
    unfolding flatten size
    leaf-stored x next after h e =
        let same = h ∙ at_leaf.payload.is in
        let payload : x ≡ at_leaf.payload.value = given-value _ _ _ _ same in
        rw leaf-is
        (record {
          memory = e ∙ ap (λ y. splice (k * 6) (tape_records.words (record { letter = get_or s at 0; name = name; payload = y; beneath = 0 })) tape) payload;
          place = given-next _ _ _ _ same;
          count = refl;
        })

    pub has_payload : (q : Result (PayloadWords × Cursor) WireError) → answer_with payload_words q ≡ payload_of (kind_of letters (get_or s at 0)) s (at + 1) → IsOk q
    has_payload (Ok x) h = refl
    has_payload (Err r) h = let same = h ∙ at_leaf.payload.is in let z : ◌≡◌ {A = ℕ} 0 1 = cc in absurd (omega arith)

  -- each letter that was judged is known
  pub has_kind : (q : Option code.Kind) → kind_or_unknown q ≡ kind_of letters (get_or s at 0) → IsSome q
  unfolding payload_at
  has_kind (Some k) h = refl
  has_kind None h = let e = rw (← h) at at-letter.1 in let z : ◌≡◌ {A = ℕ} 0 1 = cc in absurd (omega arith)
