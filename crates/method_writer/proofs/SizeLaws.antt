-- The first pass: the size of each kind of field, the answer of some fields from the answers of the first and of the rest, and that no sum of them wraps.
use mathlib.Core.Path.{◌≡◌, refl, sym, ap, ◌∙◌}
use mathlib.Core.Logic.{◌⊎◌, inl, inr}
use mathlib.Core.Bool.{Bool, true, false}
use Rattle.std.specs.Prelude.{Option, None, Some, Result}
use Rattle.std.specs.Option.{ok_or}
use mathlib.Core.List.{List, [], ◌∷◌, ◌++◌}
use Prim.Native.Nat.{ℕ, ◌+◌, ◌-◌, ◌*◌, ◌≤◌, ◌<◌}
use native.Mathlib.Omega.{arith}
use lib.ListN.{length, take, drop, length-append, length-drop}
use lib.Seq.{take-length}
use lib.Dec.{leb}
use Rattle.utf8.specs.Utf8.{utf8}
use Rattle.types.specs.Answer.{Refusal, truncated, not_utf8, too_long}
use Rattle.types.specs.Strings.{octets_of, octets_in, short_str, long_str, judge_short_str, judge_length}
use Rattle.types.specs.Judgement.{test, or_else}
use Rattle.types.specs.AnswerOf.{or_refusal}
use Rattle.types.specs.declared.WireError.{WireError}
use Rattle.types.specs.declared.WireError.TheVariants.{TooLong}
use Rattle.types.specs.declared.Span.{Span}
use Rattle.types.proofs.Tests.{leb_yes, leb_no, yes_leb, no_leb, decide}
use Rattle.types.proofs.Chain.{test-none, or_else-none}
use Rattle.tables.specs.Letters.{Letters, errata}
use Rattle.tables.specs.Writing.{in_pool, body, judge_table, tape_meaning}
use Rattle.table_writer.specs.Sizes as table
use Rattle.table_writer.specs.Sizes.{capped, tape_size}
use Rattle.table_writer.proofs.SizeLaws.{span-length, sized-given, sized-refused, octets-there, octets-missing}
use Rattle.method.specs.Fields as field
use Rattle.method.specs.Fields.{Kind, number, bits, login, Field, fixed, arg, Meaning, Pooled, Args}
use Rattle.method.specs.Writing.{arg_octets, field_octets, judge_arg_length, judge_lengths}
use Rattle.method.specs.Pooled.{pooled_meanings, judge_arg, judge_args, refusal_of}
use Rattle.method.specs.Words.{width, widths, arg_from, args_from}
use Rattle.method.specs.Layout.{field_of}
use Rattle.method.specs.Kinds.Login.{login_text, judge_text}
use Rattle.method.specs.Kinds.ShortStr.{judge_span, span_from}
use Rattle.method_writer.specs.Sizes.{Size, octets, long, refused, both, count, sized, arg_meaning, args_meaning, field_size, fields_size, octets_of_all}
use Rattle.method_writer.specs.AnswerOf.{size_of}
use Rattle.method.specs.declared.layout.Field.{Field as CodeField}
use Rattle.method.proofs.FieldsLeft.{Few, few-octets}
use Rattle.method.proofs.KindLaws.{laws}

-- Answers

pub sized-octets : (a l : Option Refusal) (n m : ℕ) → octets m ≡ sized a l n → (a ≡ None) × (l ≡ None) × (m ≡ n)
sized-octets None None n m e = (refl, refl, cc)
sized-octets None (Some r) n m e = let z : ◌≡◌ {A = ℕ} 0 1 = cc in absurd (omega arith)
sized-octets (Some r) l n m e = let z : ◌≡◌ {A = ℕ} 0 1 = cc in absurd (omega arith)

sized-both : (a b p q : Option Refusal) (m n k : ℕ) → k ≡ m + n → sized (or_else a b) (or_else p q) k ≡ both (sized a p m) (sized b q n)
sized-both (Some r) b p q m n k e = refl
sized-both None (Some r) None q m n k e = refl
sized-both None (Some r) (Some l) q m n k e = refl
sized-both None None (Some l) None m n k e = refl
sized-both None None (Some l) (Some s) m n k e = refl
sized-both None None None (Some s) m n k e = refl
sized-both None None None None m n k e = ap octets e

both_assoc : (a b c : Size) → both (both a b) c ≡ both a (both b c)
both_assoc (refused r) b c = refl
both_assoc long (refused r) c = refl
both_assoc long long (refused r) = refl
both_assoc long long long = refl
both_assoc long long (octets n) = refl
both_assoc long (octets m) (refused r) = refl
both_assoc long (octets m) long = refl
both_assoc long (octets m) (octets n) = refl
both_assoc (octets k) (refused r) c = refl
both_assoc (octets k) long (refused r) = refl
both_assoc (octets k) long long = refl
both_assoc (octets k) long (octets n) = refl
both_assoc (octets k) (octets m) (refused r) = refl
both_assoc (octets k) (octets m) long = refl
both_assoc (octets k) (octets m) (octets n) = ap octets (omega arith)

none-both : (b : Size) → both (octets 0) b ≡ b
none-both (octets m) = ap octets (omega arith)
none-both long = refl
none-both (refused r) = refl

both-none : (a : Size) → both a (octets 0) ≡ a
both-none (octets m) = ap octets (omega arith)
both-none long = refl
both-none (refused r) = refl

-- the code's sizes refuse nothing
then-refused : (s : Option ℕ) (r : Refusal) (b : Size) → both (size_of s) (both (refused r) b) ≡ refused r
then-refused (Some n) r b = refl
then-refused None r b = refl

count-both : (a b : Size) → count (both a b) ≤ count a + count b
count-both (octets m) (octets n) = omega arith
count-both (octets m) long = omega arith
count-both (octets m) (refused r) = omega arith
count-both long (octets n) = omega arith
count-both long long = omega arith
count-both long (refused r) = omega arith
count-both (refused r) b = omega arith

-- the answer of some fields
module _ (pool tape : List ℕ) where
  pub fields-size : (f : Field) (fs : List Field) (ws : List ℕ)
      → fields_size errata pool tape (f ∷ fs) ws ≡ both (field_size errata pool tape f ws) (fields_size errata pool tape fs (drop (width f) ws))
  unfolding field_size fields_size judge_args judge_lengths field_octets pooled_meanings args_from
  fields-size (fixed xs) fs ws =
      let vs = args_meaning errata pool tape fs ws in
      sized-both None (judge_args errata pool tape fs (args_from fs ws)) None (judge_lengths errata fs vs) (length xs) (length (field_octets errata fs vs)) (length (xs ++ field_octets errata fs vs))
      (length-append xs (field_octets errata fs vs))
  fields-size (arg k) fs ws =
      let more = drop (width (arg k)) ws in
      let v = arg_meaning errata pool tape k ws in
      let vs = args_meaning errata pool tape fs more in
      let xs = arg_octets errata k v in
      let ys = field_octets errata fs vs in
      sized-both (judge_arg errata pool tape k (arg_from k ws)) (judge_args errata pool tape fs (args_from fs more)) (judge_arg_length errata k v) (judge_lengths errata fs vs) (length xs) (length ys) (length (xs ++ ys))
      (length-append xs ys)

  pub no-fields-size : (ws : List ℕ) → fields_size errata pool tape [] ws ≡ octets 0
  unfolding fields_size judge_args judge_lengths field_octets
  no-fields-size ws = refl

-- The words behind the first k, as a slice has them
pub words-behind : (k : ℕ) (ws : List ℕ) → take (length ws - k) (drop k ws) ≡ drop k ws
words-behind k ws = ap (λ (n : ℕ). take n (drop k ws)) (sym (length-drop k ws)) ∙ take-length (drop k ws)

-- Texts of a pool

module _ (pool : List ℕ) (v : Span) where
  -- a span outside the pool
  pub outside : None ≡ octets_in pool v → (more : Option Refusal) (n : ℕ) → inr truncated ≡ table.sized (judge_span pool v more) n
  outside e more n = rw (octets-missing pool v e)

  module _ {xs : List ℕ} (e : Some xs ≡ octets_in pool v) where
    found : (in_pool pool v.start v.len ≡ true) × (xs ≡ octets_of pool v)
    found = octets-there pool xs v e

    pub short-judged : (n : ℕ) {a : Option Refusal} → a ≡ judge_short_str xs → table.sized a n ≡ table.sized (judge_span pool v (judge_short_str (octets_of pool v))) n
    short-judged n e = rw (e, found.0, ← found.1)

    pub short-enough : None ≡ judge_short_str xs → v.len ≤ 255
    short-enough e =
        let inside : v.start + v.len ≤ length pool = yes_leb (v.start + v.len) (length pool) found.0 in
        omega (arith, yes_leb (length xs) 255 (test-none (leb (length xs) 255) _ _ (sym e)).0, ap length found.1, span-length pool v inside)

    pub text-scanned : (b : Bool) → utf8 xs ≡ b → table.sized (test b not_utf8 None) v.len ≡ table.sized (judge_text pool v None) v.len
    text-scanned b u = sym (rw (found.0, ← found.1, u))

-- A short string

sized-agree : (a : Option Refusal) (m n : ℕ) → (a ≡ None → m ≡ n) → sized a None m ≡ sized a None n
sized-agree None m n h = ap octets (h refl)
sized-agree (Some r) m n h = refl

pub in-pool : (pool : List ℕ) (v : Span) (more : Option Refusal) → test (in_pool pool v.start v.len) truncated more ≡ None → length (octets_of pool v) ≡ v.len
in-pool pool v more e = span-length pool v (yes_leb (v.start + v.len) (length pool) (test-none (in_pool pool v.start v.len) truncated more e).0)

module _ (pool tape ws : List ℕ) where
  abbrev short_judged : Span → Option Refusal
  short_judged v = judge_span pool v (judge_short_str (octets_of pool v))

  short-is : sized (short_judged (span_from ws)) None (1 + (span_from ws).len) ≡ field_size errata pool tape (arg field.short_str) ws
  unfolding field_size
  short-is =
      sized-agree (short_judged (span_from ws)) (1 + (span_from ws).len) (length (short_str (octets_of pool (span_from ws))))
      (λ h. omega (arith, in-pool pool (span_from ws) (judge_short_str (octets_of pool (span_from ws))) h))

  module _ {v : Span} (at : v ≡ span_from ws) where
    short_here : sized (short_judged v) None (1 + v.len) ≡ field_size errata pool tape (arg field.short_str) ws
    short_here = rw at short-is

    pub short-size : (n : ℕ) → inl n ≡ table.sized (short_judged v) (1 + v.len) → octets n ≡ field_size errata pool tape (arg field.short_str) ws
    short-size n e = let p = sized-given (short_judged v) (1 + v.len) n (sym e) in (rw p.0 (ap octets (sym p.1))) ∙ short_here

    pub short-refused : (r : Refusal) → inr r ≡ table.sized (short_judged v) (1 + v.len) → refused r ≡ field_size errata pool tape (arg field.short_str) ws
    short-refused r e = rw (sized-refused (short_judged v) (1 + v.len) r e) refl ∙ short_here

-- A login: the user, then the password, then their lengths

text-then : (pool : List ℕ) (v : Span) (more : Option Refusal) → judge_text pool v more ≡ or_else (judge_text pool v None) more
text-then pool v more = go (in_pool pool v.start v.len) (utf8 (octets_of pool v))
  where
    go : (a b : Bool) → test a truncated (test b not_utf8 more) ≡ or_else (test a truncated (test b not_utf8 None)) more
    go false b = refl
    go true false = refl
    go true true = refl

refused-first : (a b l : Option Refusal) (k n : ℕ) (r : Refusal) → inr r ≡ table.sized a k → (refused r ≡ sized a l n) × (refused r ≡ sized (or_else a b) l n)
refused-first (Some q) b l k n r e = let s : r ≡ q = cc in (ap refused s, ap refused s)
refused-first None b l k n r e = let z : ◌≡◌ {A = ℕ} 0 1 = cc in absurd (omega arith)

module _ (pool ws : List ℕ) {user password : Span} (first : user ≡ span_from ws) (second : password ≡ span_from (drop 2 ws)) where
  abbrev judged : Span → Option Refusal
  judged v = judge_text pool v None

  abbrev text : List ℕ
  text = login_text (record { user = octets_of pool user; password = octets_of pool password })

  abbrev login_sized : Option Refusal → Size
  login_sized a = sized a (judge_length (length text)) (length (long_str text))

  login-size : login_sized (or_else (judged user) (judged password)) ≡ field_size errata pool [] (arg login) ws
  unfolding field_size
  login-size = ap login_sized (sym (text-then pool user (judged password))) ∙ (rw (first, second))

  pub user-refused : (r : Refusal) → inr r ≡ table.sized (judged user) user.len → refused r ≡ field_size errata pool [] (arg login) ws
  user-refused r e =
      (refused-first (judged user) (judged password) (judge_length (length text)) user.len (length (long_str text)) r e).1 ∙ login-size

  module _ (m : ℕ) (e : inl m ≡ table.sized (judged user) user.len) where
    user-passes : (judged user ≡ None) × (user.len ≡ m)
    user-passes = sized-given (judged user) user.len m (sym e)

    pub password-refused : (r : Refusal) → inr r ≡ table.sized (judged password) password.len → refused r ≡ field_size errata pool [] (arg login) ws
    password-refused r f =
        (refused-first (judged password) None (judge_length (length text)) password.len (length (long_str text)) r f).0
        ∙ ap (λ (a : Option Refusal). login_sized (or_else a (judged password))) (sym user-passes.0)
        ∙ login-size

    pub login-given : (n : ℕ) → inl n ≡ table.sized (judged password) password.len
        → sized None (judge_length (m + n + 2)) (4 + (m + n + 2)) ≡ field_size errata pool [] (arg login) ws
    login-given n f =
        let a = user-passes in
        let b = sized-given (judged password) password.len n (sym f) in
        let u = in-pool pool user (test (utf8 (octets_of pool user)) not_utf8 None) a.0 in
        let w = in-pool pool password (test (utf8 (octets_of pool password)) not_utf8 None) b.0 in
        let l : length text ≡ m + n + 2 = omega (arith, length-append (octets_of pool user) (0 ∷ octets_of pool password), u, w, a.1, b.1) in
        let all : length (long_str text) ≡ 4 + (m + n + 2) = omega (arith, l) in
        sym
        (ap (λ (x : Option Refusal). login_sized (or_else x (judged password))) a.0 ∙ ap login_sized b.0 ∙ ap (λ (k : ℕ). sized None (judge_length k) (length (long_str text))) l
        ∙ ap (sized None (judge_length (m + n + 2))) all)
        ∙ login-size

-- A table

module _ (pool tape ws : List ℕ) where
  abbrev entries : List ℕ
  entries = body errata true (tape_meaning errata pool tape)

  pub table-refused : (r : Refusal) → inr r ≡ table.sized (judge_table errata pool tape) (tape_size errata true pool tape) → refused r ≡ field_size errata pool tape (arg field.table) ws
  unfolding field_size
  table-refused r e = go (judge_table errata pool tape) e
    where
      go : (a : Option Refusal) → inr r ≡ table.sized a (tape_size errata true pool tape) → refused r ≡ sized a (judge_length (length entries)) (length (long_str entries))
      go None h = let z : ◌≡◌ {A = ℕ} 0 1 = cc in absurd (omega arith)
      go (Some q) h = let z : r ≡ q = cc in ap refused z

  module _ (n : ℕ) (e : inl n ≡ table.sized (judge_table errata pool tape) (tape_size errata true pool tape)) where
    passes : judge_table errata pool tape ≡ None
    passes = (sized-given (judge_table errata pool tape) (tape_size errata true pool tape) n (sym e)).0

    exact : capped (length entries) ≡ n
    exact = (sized-given (judge_table errata pool tape) (tape_size errata true pool tape) n (sym e)).1

    table-long : 4294967295 < n → long ≡ field_size errata pool tape (arg field.table) ws
    unfolding field_size capped
    table-long h = sym (rw (passes, leb_no (length entries) 4294967295 (omega (arith, exact))))

    table-short : n ≤ 4294967295 → octets (4 + n) ≡ field_size errata pool tape (arg field.table) ws
    unfolding field_size capped
    table-short h =
        let l : length entries ≡ n = omega (arith, exact) in
        sym (rw (passes, leb_yes (length entries) 4294967295 (omega arith)) (ap octets (omega arith)))

    pub table-given : sized None (judge_length n) (4 + n) ≡ field_size errata pool tape (arg field.table) ws
    table-given =
        decide (leb n 4294967295)
        (λ y. ap (λ (b : Bool). sized None (test b too_long None) (4 + n)) y ∙ table-short (yes_leb n 4294967295 y))
        (λ f. ap (λ (b : Bool). sized None (test b too_long None) (4 + n)) f ∙ table-long (no_leb n 4294967295 f))

-- No sum wraps

module _ (pool tape ws : List ℕ) where
  few-small : (f : Field) (m : ℕ) → Few errata f → octets m ≡ field_size errata pool tape f ws → m ≤ 4294967299
  unfolding field_size
  few-small (fixed xs) m h e = let s : m ≡ length xs = cc in omega arith
  few-small (arg k) m h e =
      let x = arg_meaning errata pool tape k ws in
      let a = sized-octets (judge_arg errata pool tape k (arg_from k ws)) (judge_arg_length errata k x) (length (arg_octets errata k x)) m e in
      omega (arith, a.2, (laws errata k).few h pool tape (arg_from k ws) a.0 a.1)

  pub size_small : (c : CodeField) (m : ℕ) → octets m ≡ field_size errata pool tape (field_of c) ws → m ≤ 4294967299
  size_small c m e = few-small (field_of c) m (few-octets errata c) e

  pub count-small : (c : CodeField) (s : Size) → s ≡ field_size errata pool tape (field_of c) ws → count s ≤ 4294967299
  count-small c (octets m) e = size_small c m e
  count-small c long e = omega arith
  count-small c (refused r) e = omega arith

-- The loop over fields: what it has so far and what is left is the answer
pub record Going (pool tape : List ℕ) (fs : List Field) (ws : List ℕ) (size : Option ℕ) (left : List Field) (rest : List ℕ) : Type 0 where
  pub there : widths left ≤ length rest
  pub small : count (size_of size) + length left * 4294967299 ≤ 13 * 4294967299
  pub answer : both (size_of size) (fields_size errata pool tape left rest) ≡ fields_size errata pool tape fs ws

module _ {pool tape : List ℕ} {fs : List Field} {ws : List ℕ} where
  pub going_start : {left : List Field} → left ≡ fs → length fs ≤ 13 → widths fs ≤ length ws → Going pool tape fs ws (Some 0) left ws
  going_start e h w = rw e (record { there = w; small = omega arith; answer = none-both (fields_size errata pool tape fs ws) })

  module _ {size : Option ℕ} {left : List Field} {rest : List ℕ} (go : Going pool tape fs ws size left rest) where
    pub going_end : left ≡ [] → size_of size ≡ fields_size errata pool tape fs ws
    going_end e =
        sym (both-none (size_of size))
        ∙ ap (both (size_of size)) (sym (no-fields-size pool tape rest) ∙ ap (λ (fs : List Field). fields_size errata pool tape fs rest) (sym e))
        ∙ go.answer

    module _ (c : CodeField) {others : List Field} (turn : left ≡ field_of c ∷ others) where
      abbrev here : Size
      here = field_size errata pool tape (field_of c) rest

      abbrev behind : Size
      behind = fields_size errata pool tape others (drop (width (field_of c)) rest)

      opened : both (size_of size) (both here behind) ≡ fields_size errata pool tape fs ws
      opened =
          ap (both (size_of size)) (sym (fields-size pool tape (field_of c) others rest) ∙ ap (λ (fs : List Field). fields_size errata pool tape fs rest) (sym turn))
          ∙ go.answer

      pub going-there : width (field_of c) + widths others ≤ length rest
      going-there = rw turn at go.there

      pub going-refused : (r : Refusal) → refused r ≡ here → refused r ≡ fields_size errata pool tape fs ws
      going-refused r e = sym (then-refused size r behind) ∙ ap (λ (s : Size). both (size_of size) (both s behind)) e ∙ opened

      -- the sum is far from wrapping
      pub going-small : {more : Size} → more ≡ here → (count (size_of size) + count more + length others * 4294967299 ≤ 13 * 4294967299)
      going-small {more} e = omega (arith, rw turn at go.small, count-small pool tape rest c more e)

      pub going-next : {more : Size} {sum : Option ℕ} {k : ℕ} → more ≡ here → size_of sum ≡ both (size_of size) more → k ≡ width (field_of c)
          → Going pool tape fs ws sum others (take (length rest - k) (drop k rest))
      going-next {more} {sum} {k} e s w =
          rw (w, words-behind (width (field_of c)) rest)
          (record {
            there = omega (arith, going-there, length-drop (width (field_of c)) rest);
            small = omega (arith, going-small e, count-both (size_of size) more, ap count s);
            answer = ap (λ (a : Size). both a behind) (s ∙ ap (both (size_of size)) e) ∙ both_assoc (size_of size) here behind ∙ opened;
          })

-- From the size of all fields to their refusal, or how many octets they have

-- a length that is too great is refused by one number
lengths-long : (letters : Letters) (fs : List Field) (vs : Args Meaning fs) (r : Refusal) → judge_lengths letters fs vs ≡ Some r → r ≡ too_long
unfolding judge_lengths
lengths-long letters [] vs r e = let z : ◌≡◌ {A = ℕ} 0 1 = cc in absurd (omega arith)
lengths-long letters (fixed xs ∷ fs) vs r e = lengths-long letters fs vs r e
lengths-long letters (arg k ∷ fs) vs r e = first (judge_arg_length letters k vs.0) refl e (λ h. lengths-long letters fs vs.1 r h)
  where
    first : (o : Option Refusal) → judge_arg_length letters k vs.0 ≡ o → or_else o (judge_lengths letters fs vs.1) ≡ Some r
        → (judge_lengths letters fs vs.1 ≡ Some r → r ≡ too_long) → r ≡ too_long
    first None a h later = later h
    first (Some q) a h later = let same : q ≡ r = cc in sym same ∙ (laws letters k).long vs.0 q a

module _ (letters : Letters) (pool tape : List ℕ) (fs : List Field) (ws : List ℕ) where
  abbrev args_judged : Option Refusal
  args_judged = judge_args letters pool tape fs (args_from fs ws)

  abbrev lengths_judged : Option Refusal
  lengths_judged = judge_lengths letters fs (args_meaning letters pool tape fs ws)

  abbrev octets_count : ℕ
  octets_count = length (octets_of_all letters pool tape fs ws)

  abbrev pub all_sized : ℕ ⊎ Refusal
  all_sized = table.sized (refusal_of letters pool tape fs (args_from fs ws)) octets_count

  pub all-refused : (r : Refusal) → refused r ≡ fields_size letters pool tape fs ws → inr r ≡ all_sized
  unfolding fields_size octets_of_all
  all-refused r e = go args_judged lengths_judged e
    where
      go : (a l : Option Refusal) → refused r ≡ sized a l octets_count → inr r ≡ table.sized (or_else a l) octets_count
      go (Some q) l h = let same : r ≡ q = cc in ap inr same
      go None (Some q) h = let z : ◌≡◌ {A = ℕ} 0 1 = cc in absurd (omega arith)
      go None None h = let z : ◌≡◌ {A = ℕ} 0 1 = cc in absurd (omega arith)

  all-long : long ≡ fields_size letters pool tape fs ws → inr too_long ≡ all_sized
  unfolding fields_size octets_of_all
  all-long e = go args_judged lengths_judged refl e
    where
      go : (a l : Option Refusal) → lengths_judged ≡ l → long ≡ sized a l octets_count → inr too_long ≡ table.sized (or_else a l) octets_count
      go (Some q) l s h = let z : ◌≡◌ {A = ℕ} 0 1 = cc in absurd (omega arith)
      go None (Some q) s h = ap inr (sym (lengths-long letters fs (args_meaning letters pool tape fs ws) q s))
      go None None s h = let z : ◌≡◌ {A = ℕ} 0 1 = cc in absurd (omega arith)

  all-octets : (n : ℕ) → octets n ≡ fields_size letters pool tape fs ws → inl n ≡ all_sized
  unfolding fields_size octets_of_all
  all-octets n e = let p = sized-octets args_judged lengths_judged octets_count n e in rw (p.0, p.1) (ap inl p.2)

  pub all_answered : (size : Option ℕ) {r : Result ℕ WireError} → r ≡ ok_or size TooLong → size_of size ≡ fields_size letters pool tape fs ws → or_refusal (λ n. n) r ≡ all_sized
  all_answered None e s = rw e (all-long s)
  all_answered (Some n) e s = rw e (all-octets n s)

  -- and back
  pub octets-all : (n : ℕ) → inl n ≡ all_sized → octets n ≡ fields_size letters pool tape fs ws
  unfolding fields_size octets_of_all
  octets-all n e =
      let p = sized-given (refusal_of letters pool tape fs (args_from fs ws)) octets_count n (sym e) in
      let q = or_else-none args_judged lengths_judged p.0 in
      rw (q.0, q.1) (ap octets (sym p.1))
