-- Values, tables and the loop over entries, as the first pass sees them: from the equations and bounds of `tables`.
use Prim.Native.Nat.{ℕ, zero, suc, ◌+◌, ◌-◌, ◌≤◌, ◌<◌}
use mathlib.Core.Path.{◌≡◌, refl, ap, sym, ◌∙◌}
use mathlib.Core.Bool.{Bool, true, false}
use mathlib.Core.List.{List}
use lib.ListN.{length}
use lib.Dec.{ltb, leb}
use native.Mathlib.Omega.{arith}
use native.Mathlib.Nat.{sub-zero, zero-add, add-zero}
use Rattle.types.specs.Answer.{Refusal, Answer, given, refused, truncated, unsupported_field_type, too_deep, tape_full, and_then, need}
use Rattle.types.specs.Octets.{uint_at}
use Rattle.types.specs.Strings.{span_at, long_str_at}
use Rattle.types.specs.declared.Span.{Span}
use Rattle.types.proofs.Tests.{leb_yes, leb_no, yes_leb, no_leb, decide}
use Rattle.types.proofs.NumberLaws.{uint_at-given}
use Rattle.types.proofs.StringLaws.{span_at-read}
use Rattle.types.proofs.RoundTrip.{long-start, span-here, span-past, number_past}
use Rattle.tables.specs.Letters as kind
use Rattle.tables.specs.Letters.{Leaf, number, boolean, decimal, Kind, leaf, container, unknown, Letters, kind_of}
use Rattle.tables.specs.Forest.{none, item, size, Words, words, LocatedTable}
use Rattle.tables.specs.Reading.{Value, leaf_at, name_at, entries_at, container_at, payload_at, value_at, lone_value_at}
use Rattle.tables.proofs.ReadingLaws.{name-move, below_at, below-is, value_after, value-refused, value-move, container-move, entries-end, entries-step, lone-entries, lone-cut}
use Rattle.types.specs.Octets.{number_width}
use Rattle.tables.specs.AnswerOf.{answer_of_kind}
use Rattle.tables.specs.declared.Kind as code
use Rattle.tables.specs.declared.Kind.TheVariants as variant
use Rattle.table_reader.specs.Filling.{payload_of}
use Rattle.table_reader.specs.Counting.{counting, one_record, more, size_of, with_count}

-- Counting

pub counting-given : {A : Type 0} (f : A → ℕ) (a : Answer A) (k n : ℕ) → counting f a ≡ given k n → (x : A) × (a ≡ given x n) × (f x ≡ k)
unfolding counting
counting-given f (given x m) k n e =
    let same : m ≡ n = cc in
    let count : f x ≡ k = cc in
    (x, ap (given x) same, count)
counting-given f (refused r) k n e = let z : ◌≡◌ {A = ℕ} 0 1 = cc in absurd (omega arith)

pub counting-refused : {A : Type 0} (f : A → ℕ) (a : Answer A) (r : Refusal) → counting f a ≡ refused r → a ≡ refused r
unfolding counting
counting-refused f (given x m) r e = let z : ◌≡◌ {A = ℕ} 0 1 = cc in absurd (omega arith)
counting-refused f (refused q) r e = let same : q ≡ r = cc in ap refused same

-- where all count the same, what is read does not matter
pub counting-same : {A B : Type 0} (m : ℕ) (f : A → B) (a : Answer A) → counting (λ _. m) (and_then a (λ x n. given (f x) n)) ≡ counting (λ _. m) a
unfolding counting
counting-same m f (given x n) = refl
counting-same m f (refused r) = refl

more-zero : (a : Answer ℕ) → more 0 a ≡ a
unfolding more
more-zero (given m n) = ap (λ k. given k n) (add-zero m)
more-zero (refused r) = refl

more-more : (j k : ℕ) (a : Answer ℕ) → more j (more k a) ≡ more (j + k) a
unfolding more
more-more j k (given m n) = let e : m + k + j ≡ m + (j + k) = omega arith in ap (λ i. given i n) e
more-more j k (refused r) = refl

-- Room

pub room-none : {A : Type 0} (room : ℕ) (a : Answer A) → room ≡ 0 → need (ltb 0 room) tape_full a ≡ refused tape_full
room-none room a h = rw (leb_no 1 room (omega arith))

pub room_some : {A : Type 0} (room : ℕ) (a : Answer A) → (room ≡ 0 → ⊥) → need (ltb 0 room) tape_full a ≡ a
room_some room a h = decide (ltb 0 room) (λ y. rw y) (λ n. absurd (h (omega (arith, no_leb 1 room n))))

-- A leaf of a fixed size

number-span : (m k : ℕ) (s : List ℕ) (p : ℕ) → counting (λ _. m) (uint_at k s p) ≡ counting (λ _. m) (span_at k s p)
unfolding counting
number-span m k s p =
    decide (leb (p + k) (length s))
    (λ y. let h = yes_leb (p + k) (length s) y in rw (uint_at-given k s p h, span-here k s p h))
    (λ n. let h = no_leb (p + k) (length s) n in rw (number_past k s p h, span-past k s p h))

decimal-span : (m : ℕ) (s : List ℕ) (p : ℕ)
    → counting (λ _. m) (and_then (uint_at 1 s p) (λ a q. and_then (uint_at 4 s q) (λ b r. given (words a b) r))) ≡ counting (λ _. m) (span_at 5 s p)
unfolding counting
decimal-span m s p =
    decide (leb (p + 5) (length s))
    (λ y.
    let h = yes_leb (p + 5) (length s) y in
    rw (uint_at-given 1 s p (omega arith), uint_at-given 4 s (p + 1) (omega arith), span-here 5 s p h) (ap (given m) (omega arith)))
    (λ n.
    let h = no_leb (p + 5) (length s) n in
    decide (leb (p + 1) (length s))
    (λ y. rw (uint_at-given 1 s p (yes_leb (p + 1) (length s) y), number_past 4 s (p + 1) (omega arith), span-past 5 s p h))
    (λ x. rw (number_past 1 s p (no_leb (p + 1) (length s) x), span-past 5 s p h)))

-- the octets of a leaf's payload, where their number is fixed
abbrev pub Fixed : Leaf → ℕ → Type 0
Fixed (number k) n = k ≡ n
Fixed boolean n = 1 ≡ n
Fixed decimal n = 5 ≡ n
Fixed kind.long_str n = ⊥
Fixed kind.short_str n = ⊥

pub leaf-fixed : (l : Leaf) (n : ℕ) (s : List ℕ) (p : ℕ) → Fixed l n → counting (λ _. 1) (leaf_at l s p) ≡ counting (λ _. 1) (span_at n s p)
unfolding leaf_at
leaf-fixed (number k) n s p e = rw (← e) (counting-same 1 (λ i. words i 0) (uint_at k s p) ∙ number-span 1 k s p)
leaf-fixed boolean n s p e = rw (← e) (counting-same 1 _ (uint_at 1 s p) ∙ number-span 1 1 s p)
leaf-fixed decimal n s p e = rw (← e) (decimal-span 1 s p)
leaf-fixed kind.long_str n s p e = absurd e
leaf-fixed kind.short_str n s p e = absurd e

pub leaf-long : (s : List ℕ) (p : ℕ) → counting (λ _. 1) (leaf_at kind.long_str s p) ≡ counting (λ _. 1) (long_str_at s p)
unfolding leaf_at
leaf-long s p = counting-same 1 _ (long_str_at s p)

-- the answer for a value of one record, and for one with records beneath it
leaf-counted : (c : ℕ) (b : Bool) (a : Answer Words)
    → counting size_of (need b tape_full (and_then a (λ x q. given (record { letter = c; payload = x; beneath = none }) q))) ≡ need b tape_full (counting (λ _. 1) a)
unfolding counting size
leaf-counted c true (given x n) = refl
leaf-counted c true (refused r) = refl
leaf-counted c false a = refl

container-counted : (c : ℕ) (b : Bool) (a : Answer LocatedTable)
    → counting size_of (need b tape_full (and_then a (λ u q. given (record { letter = c; payload = words 0 0; beneath = u }) q))) ≡ need b tape_full (more 1 (counting size a))
unfolding counting more
container-counted c true (given u n) = ap (λ i. given i n) (omega arith)
container-counted c true (refused r) = refl
container-counted c false a = refl

module _ (letters : Letters) where
  -- A value, case by case

  module _ (d : ℕ) (s : List ℕ) (p room : ℕ) where
    abbrev counted : Answer ℕ
    counted = counting size_of (value_at letters d s p room)

    pub value-cut : {r : Refusal} → refused r ≡ uint_at 1 s p → counted ≡ refused r
    unfolding counting
    value-cut {r} e = rw (value-refused letters d s p room r (sym e))

    -- where there is a letter c, and q is the position after it
    module _ (c q : ℕ) (read : given c q ≡ uint_at 1 s p) where
      value_in : (k : Kind) → k ≡ kind_of letters c → counted ≡ counting size_of (payload_at d (below_at letters d) c k s q room)
      value_in k e = ap (counting size_of) (value_after letters d s p room c q (sym read)) ∙ (rw e)

      pub value-unknown : unknown ≡ kind_of letters c → counted ≡ refused (unsupported_field_type c)
      unfolding payload_at counting
      value-unknown e = value_in unknown e

      value-leaf : (l : Leaf) → leaf l ≡ kind_of letters c → counted ≡ one_record room (leaf_at l s q)
      unfolding payload_at
      value-leaf l e = value_in (leaf l) e ∙ leaf-counted c (ltb 0 room) (leaf_at l s q)

      -- a leaf, as the code has its kind
      pub value-payload : (k : code.Kind) → ((named : Bool) → k ≡ variant.Container named → ⊥) → answer_of_kind k ≡ kind_of letters c
          → counted ≡ one_record room (payload_of (answer_of_kind k) s q)
      value-payload (variant.Number width) h e = value-leaf (number (number_width width)) e
      value-payload variant.Void h e = value-leaf (number 0) e
      value-payload variant.Boolean h e = value-leaf boolean e
      value-payload variant.Decimal h e = value-leaf decimal e
      value-payload variant.LongStr h e = value-leaf kind.long_str e
      value-payload (variant.Container named) h e = absurd (h named refl)

      module _ (b : Bool) (e : container b ≡ kind_of letters c) where
        pub value-deep : d ≡ 0 → counted ≡ refused too_deep
        unfolding payload_at counting
        value-deep z = value_in (container b) e ∙ (rw (leb_no 1 d (omega arith)))

        module _ (deep : d ≡ 0 → ⊥) where
          value-container : counted ≡ need (ltb 0 room) tape_full (more 1 (counting size (container_at (value_at letters (d - 1)) b s q (room - 1))))
          unfolding payload_at
          value-container =
              let pos : zero < d = decide (ltb 0 d) (λ y. yes_leb 1 d y) (λ n. absurd (deep (omega (arith, no_leb 1 d n)))) in
              value_in (container b) e ∙ (rw (leb_yes 1 d pos) (container-counted c (ltb 0 room) (below_at letters d b s q (room - 1))))
              ∙ ap (λ (a : Answer LocatedTable). need (ltb 0 room) tape_full (more 1 (counting size a))) (below-is letters d b s q (room - 1) pos)

          pub value-full : room ≡ 0 → counted ≡ refused tape_full
          value-full z = value-container ∙ room-none room _ z

          pub value-length-cut : {r : Refusal} → (room ≡ 0 → ⊥) → refused r ≡ long_str_at s q → counted ≡ refused r
          unfolding container_at counting more
          value-length-cut free h = value-container ∙ room_some room _ free ∙ (rw (← h))

          pub value-entries : {v : Span} {end : ℕ} → (room ≡ 0 → ⊥) → given v end ≡ long_str_at s q
              → counted ≡ more 1 (counting size (entries_at (value_at letters (d - 1)) b s v.start (v.start + v.len) (room - 1)))
          unfolding container_at
          value-entries {v} {end} free h = value-container ∙ room_some room _ free ∙ (rw (← h, (long-start s q v end (sym h)).1))

  -- A lone value

  module _ (s : List ℕ) (p room : ℕ) where
    pub lone-counted : (v : Span) {q : ℕ} → given v q ≡ span_at 1 s p
        → counting size (entries_at (value_at letters 15) false s v.start (v.start + v.len) room) ≡ counting size (lone_value_at letters s p room)
    lone-counted v e = let r = span_at-read 1 s p e in rw (r.start, r.len) (ap (counting size) (lone-entries letters s p room (omega (arith, r.within))))

    pub lone-refused : {r : Refusal} → refused r ≡ span_at 1 s p → refused r ≡ with_count (counting size (lone_value_at letters s p room))
    unfolding counting
    lone-refused {r} e =
        decide (leb (p + 1) (length s))
        (λ y. let g = e ∙ span-here 1 s p (yes_leb (p + 1) (length s) y) in let z : ◌≡◌ {A = ℕ} 0 1 = cc in absurd (omega arith))
        (λ n.
        let h = no_leb (p + 1) (length s) n in
        let g = e ∙ span-past 1 s p h in
        let same : r ≡ truncated = cc in
        rw (lone-cut letters s p room (omega (arith, h)), same))

  -- A table or an array

  module _ (d : ℕ) (named : Bool) (s : List ℕ) (p room : ℕ) where
    pub container-cut : {r : Refusal} → refused r ≡ long_str_at s p → counting size (container_at (value_at letters d) named s p room) ≡ refused r
    unfolding container_at counting
    container-cut e = rw (← e)

    module _ (v : Span) (end : ℕ) (e : given v end ≡ long_str_at s p) where
      pub container-in : counting size (container_at (value_at letters d) named s p room)
          ≡ counting size (entries_at (value_at letters d) named s v.start (v.start + v.len) room)
      unfolding container_at
      container-in = rw (← e, (long-start s p v end (sym e)).1)

      -- no more records than there is room for
      pub container-room : (k n : ℕ) → given k n ≡ counting size (entries_at (value_at letters d) named s v.start (v.start + v.len) room) → k ≤ room
      container-room k n h =
          let a = counting-given size (container_at (value_at letters d) named s p room) k n (container-in ∙ sym h) in
          let m = container-move (value_at letters d) (value-move letters d) named s p room a.0 n a.1 in
          omega (arith, m.fits, a.2)

  -- What the loop over entries keeps: the answer from its start on is the answer from here on, with the records counted so far

  size-item : (name : Span) (v : Value) (a : Answer LocatedTable)
      → counting size (and_then a (λ after e. given (item name v.letter v.payload v.beneath after) e)) ≡ more (size_of v) (counting size a)
  unfolding counting more size
  size-item name v (given after n) = ap (λ i. given i n) (omega arith)
  size-item name v (refused r) = refl

  module _ (d : ℕ) (named : Bool) (s : List ℕ) (room start end : ℕ) where
    abbrev whole : Answer ℕ
    whole = counting size (entries_at (value_at letters d) named s start end room)

    abbrev left : ℕ → ℕ → Answer ℕ
    left pos count = counting size (entries_at (value_at letters d) named s pos end (room - count))

    pub record Kept (pos count : ℕ) : Type 0 where
      pub inside : pos ≤ length s
      pub fits : count ≤ room
      pub rest : whole ≡ more count (left pos count)

    pub kept-start : start ≤ length s → Kept start 0
    kept-start h =
        record {
          inside = h;
          fits = omega arith;
          rest = sym (more-zero (left start 0) ∙ ap (λ i. counting size (entries_at (value_at letters d) named s start end i)) (sub-zero room));
        }

    module _ (pos count : ℕ) (k : Kept pos count) where
      pub kept-end : end ≤ pos → given count pos ≡ whole
      unfolding counting more size
      kept-end h =
          sym (k.rest ∙ ap (λ a. more count (counting size a)) (entries-end (value_at letters d) named s (value-move letters d) pos end (room - count) h)
          ∙ ap (λ i. given i pos) (zero-add count))

      module _ (h : pos < end) where
        step : whole
            ≡ more count (counting size
            (and_then (name_at named s pos)
            (λ name q.
            and_then (value_at letters d s q (room - count))
            (λ v r.
            and_then (entries_at (value_at letters d) named s r end (room - count - suc (size v.beneath)))
            (λ after t. given (item name v.letter v.payload v.beneath after) t)))))
        step = k.rest ∙ ap (λ a. more count (counting size a)) (entries-step (value_at letters d) named s (value-move letters d) pos end (room - count) k.inside h)

        step-read : (name : Span) (q : ℕ) (v : Value) (n : ℕ) → name_at named s pos ≡ given name q → value_at letters d s q (room - count) ≡ given v n
            → whole ≡ more count (more (size_of v) (counting size (entries_at (value_at letters d) named s n end (room - count - size_of v))))
        step-read name q v n a b =
            step ∙ (rw (a, b)) ∙ ap (more count) (size-item name v (entries_at (value_at letters d) named s n end (room - count - size_of v)))

        pub kept-name : {r : Refusal} → refused r ≡ name_at named s pos → refused r ≡ whole
        unfolding counting more
        kept-name e = sym (step ∙ (rw (← e)))

        module _ (name : Span) (q : ℕ) (e : given name q ≡ name_at named s pos) where
          pub kept-value : {r : Refusal} → refused r ≡ counting size_of (value_at letters d s q (room - count)) → refused r ≡ whole
          unfolding counting more
          kept-value {r} g =
              sym (step ∙ (rw (← e, counting-refused size_of (value_at letters d s q (room - count)) r (sym g))))

          module _ (m n : ℕ) (g : given m n ≡ counting size_of (value_at letters d s q (room - count))) where
            pub step-bounds : (pos < n) × (n ≤ length s) × (count + m ≤ room)
            step-bounds =
                let b = counting-given size_of (value_at letters d s q (room - count)) m n (sym g) in
                let x = name-move named s pos name q k.inside (sym e) in
                let y = value-move letters d s q (room - count) b.0 n b.1 in
                (omega (arith, x.0, y.far), y.inside, omega (arith, y.fits, b.2, k.fits))

            pub kept_step : Kept n (count + m)
            kept_step =
                let b = counting-given size_of (value_at letters d s q (room - count)) m n (sym g) in
                let bounds = step-bounds in
                let less : room - count - size_of b.0 ≡ room - (count + m) = omega (arith, b.2) in
                record {
                  inside = bounds.1;
                  fits = bounds.2;
                  rest =
                      step-read name q b.0 n (sym e) b.1
                      ∙ ap (λ i. more count (more (size_of b.0) (counting size (entries_at (value_at letters d) named s n end i)))) less
                      ∙ ap (λ i. more count (more i (left n (count + m)))) b.2
                      ∙ more-more count m (left n (count + m));
                }
