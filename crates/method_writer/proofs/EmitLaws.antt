-- What the second pass leaves in its output: a field by its kind, and then fields, one behind another.
use mathlib.Core.Path.{◌≡◌, refl, sym, ap, ◌∙◌}
use mathlib.Core.List.{List, [], ◌∷◌, ◌++◌}
use Rattle.std.specs.Prelude.{Option, None, Some, Result, Ok}
use Rattle.std.specs.Result.{IsOk}
use Prim.Native.Nat.{ℕ, ◌+◌, ◌-◌, ◌*◌, ◌/◌, ◌%◌, ◌≤◌}
use native.Mathlib.Omega.{arith}
use lib.ListN.{length, take, drop, get_or, length-append, length-drop}
use lib.Dec.{leb, eqb}
use borrow.Author.Tests.{eqb-true, eqb-false}
use Rattle.bits.specs.Flags.{bit}
use Rattle.utf8.specs.Utf8.{utf8}
use Rattle.types.specs.Answer.{Refusal}
use Rattle.types.specs.declared.WireError.{WireError}
use Rattle.types.specs.Octets as number
use Rattle.types.specs.Strings as text
use Rattle.types.specs.declared.Span.{Span}
use Rattle.types.specs.Memory.{splice, outcome}
use Rattle.types.proofs.Tests.{yes_leb, decide}
use Rattle.types.proofs.Chain.{test-none}
use Rattle.types.proofs.Splice.{splice-nil, splice-after}
use Rattle.types.proofs.NumberLaws.{length-octets}
use Rattle.writers.specs.AnswerOf.{answer_of_written}
use Rattle.writers.specs.Writers.{write_at, write_uint, write_octets}
use Rattle.tables.specs.Letters.{Letters, errata}
use Rattle.tables.specs.Writing.{judge_table, write_table}
use Rattle.method.specs.Fields.{number, short_str, login, table, Field, fixed, arg}
use Rattle.method.specs.Writing.{arg_octets, field_octets, judge_arg_length}
use Rattle.method.specs.Pooled.{pooled_meanings, judge_arg}
use Rattle.method.specs.Words.{width, widths, arg_from, args_from}
use Rattle.method.specs.Layout.{field_of, places}
use Rattle.method.specs.declared.layout.Bits.{Bits}
use Rattle.method.specs.declared.layout.Bits.TheVariants.{Lowest, Second, Both}
use Rattle.method.specs.declared.layout.Field.{Field as CodeField}
use Rattle.method.specs.Kinds.Bits.{octet_of, flags_from}
use Rattle.method.specs.Kinds.ShortStr.{span_from}
use Rattle.table_writer.specs.Emitting.{Emitted}
use Rattle.table_writer.proofs.EmitLaws.{is_written, emitted, emitted-length, emitted-after, length-span}
use Rattle.method_writer.specs.Sizes.{Size, octets, long, refused, both, sized, arg_meaning, field_size, fields_size, octets_of, octets_of_all}
use Rattle.method_writer.specs.Emitting.{Ready}
use Rattle.method_writer.proofs.SizeLaws.{fields-size, words-behind}

-- A number that is written where it has space

module _ (k n : ℕ) (w : Result ℕ WireError) (at : ℕ) (out : List ℕ) {after : List ℕ} (h : at + k ≤ length out) (e : outcome (answer_of_written w) after ≡ write_uint k n at out) where
  pub number-ok : IsOk w
  unfolding write_uint
  number-ok = is_written w (number.octets k n) at out (omega (arith, length-octets k n)) e

  pub number-written : {r : ℕ} → w ≡ Ok r → Emitted (number.octets k n) at out after r
  unfolding write_uint
  number-written q = emitted w (omega (arith, length-octets k n)) e q

-- Flags

bit-odd : (n : ℕ) → bit (eqb (n % 2) 1) ≡ n % 2
bit-odd n =
    decide (eqb (n % 2) 1) (λ y. ap bit y ∙ sym (eqb-true (n % 2) 1 y))
    (λ f. let e : 0 ≡ n % 2 = omega (arith, eqb-false (n % 2) 1 f) in ap bit f ∙ e)

-- the octet of flags in their places
abbrev pub flags_octet : Bits → ℕ → ℕ
flags_octet b n = octet_of (places b) (flags_from (places b) n)

pub flags-lowest : (n : ℕ) → flags_octet Lowest n ≡ n % 2
unfolding octet_of
flags-lowest n = omega (arith, bit-odd n)

pub flags-second : (n : ℕ) → flags_octet Second n ≡ n % 2 * 2
unfolding octet_of
flags-second n = omega (arith, bit-odd n)

pub flags-both : (n : ℕ) → flags_octet Both n ≡ n % 4
unfolding octet_of
flags-both n = omega (arith, bit-odd n, bit-odd (n / 2))

-- Arguments that were judged and have space

ready-sized : (a b : Option Refusal) (n at : ℕ) (out : List ℕ) → Ready (sized a b n) at out → (a ≡ None) × (b ≡ None) × (at + n ≤ length out)
ready-sized None None n at out h = (refl, refl, h)
ready-sized None (Some r) n at out h = absurd h
ready-sized (Some r) b n at out h = absurd h

-- Strings, by their words

-- the octets of a span, as a slice has them
module _ (pool : List ℕ) (v : Span) (inside : v.start + v.len ≤ length pool) (w : Result ℕ WireError) (at : ℕ) (out : List ℕ) {after : List ℕ} (h : at + v.len ≤ length out)
    (e : outcome (answer_of_written w) after ≡ write_octets (take (v.start + v.len - v.start) (drop v.start pool)) at out) where
  text-space : at + length (text.octets_of pool v) ≤ length out
  text-space = omega (arith, length-span pool v.start v.len inside)

  text-put : outcome (answer_of_written w) after ≡ write_octets (text.octets_of pool v) at out
  text-put = let k : v.start + v.len - v.start ≡ v.len = omega arith in rw k at e

  pub text-ok : IsOk w
  unfolding write_octets
  text-ok = is_written w _ at out text-space text-put

  pub text-written : {r : ℕ} → w ≡ Ok r → Emitted (text.octets_of pool v) at out after r
  unfolding write_octets
  text-written q = emitted w text-space text-put q

module _ (letters : Letters) (pool tape ws : List ℕ) (at : ℕ) (out : List ℕ) where
  -- a short string
  pub record ShortFits (v : Span) : Type 0 where
    pub inside : v.start + v.len ≤ length pool
    pub short : v.len ≤ 255
    pub space : at + 1 + v.len ≤ length out
    pub whole : octets_of letters pool tape (arg short_str) ws ≡ number.octets 1 v.len ++ text.octets_of pool v

  short-ready-fits : Ready (field_size letters pool tape (arg short_str) ws) at out → ShortFits (span_from ws)
  unfolding field_size octets_of
  short-ready-fits h =
      let start = get_or ws 0 0 in
      let len = get_or ws 1 0 in
      let xs = take len (drop start pool) in
      let r = ready-sized _ _ _ at out h in
      let t = test-none (leb (start + len) (length pool)) _ _ r.0 in
      let inside : start + len ≤ length pool = yes_leb (start + len) (length pool) t.0 in
      let l : length xs ≡ len = length-span pool start len inside in
      record {
        inside = inside;
        short = omega (arith, l, yes_leb (length xs) 255 (test-none (leb (length xs) 255) _ _ t.1).0);
        space = omega (arith, r.2, l);
        whole = rw l;
      }

  pub short-fits : {v : Span} → v ≡ span_from ws → Ready (field_size letters pool tape (arg short_str) ws) at out → ShortFits v
  short-fits {v} e h = rw e (short-ready-fits h)

  -- a login string
  pub record LoginFits (user password : Span) : Type 0 where
    pub user_inside : user.start + user.len ≤ length pool
    pub password_inside : password.start + password.len ≤ length pool
    pub short : user.len + password.len + 2 ≤ 4294967295
    pub space : at + 4 + (user.len + password.len + 2) ≤ length out
    pub whole : octets_of letters pool tape (arg login) ws
        ≡ number.octets 4 (user.len + password.len + 2) ++ ((number.octets 1 0 ++ text.octets_of pool user) ++ (number.octets 1 0 ++ text.octets_of pool password))

  login-ready-fits : Ready (field_size letters pool tape (arg login) ws) at out → LoginFits (span_from ws) (span_from (drop 2 ws))
  unfolding field_size octets_of
  login-ready-fits h =
      let w = get_or ws 0 0 in
      let x = get_or ws 1 0 in
      let y = get_or (drop 2 ws) 0 0 in
      let z = get_or (drop 2 ws) 1 0 in
      let us = take x (drop w pool) in
      let ps = take z (drop y pool) in
      let r = ready-sized _ _ _ at out h in
      let a = test-none (leb (w + x) (length pool)) _ _ r.0 in
      let user_inside : w + x ≤ length pool = yes_leb (w + x) (length pool) a.0 in
      let b = test-none (leb (y + z) (length pool)) _ _ (test-none (utf8 us) _ _ a.1).1 in
      let password_inside : y + z ≤ length pool = yes_leb (y + z) (length pool) b.0 in
      let k : length us ≡ x = length-span pool w x user_inside in
      let l : length ps ≡ z = length-span pool y z password_inside in
      let m : length (0 ∷ (us ++ (0 ∷ ps))) ≡ x + z + 2 = omega (arith, length-append us (0 ∷ ps), k, l) in
      record {
        user_inside = user_inside;
        password_inside = password_inside;
        short = omega (arith, m, yes_leb (length (0 ∷ (us ++ (0 ∷ ps)))) 4294967295 (test-none (leb (length (0 ∷ (us ++ (0 ∷ ps)))) 4294967295) _ _ r.1).0);
        space = omega (arith, r.2, m, length-append (number.octets 4 (length (0 ∷ (us ++ (0 ∷ ps))))) (0 ∷ (us ++ (0 ∷ ps))));
        whole = rw m;
      }

  pub login-fits : {user password : Span} → user ≡ span_from ws → password ≡ span_from (drop 2 ws) → Ready (field_size letters pool tape (arg login) ws) at out → LoginFits user password
  login-fits {user} {password} e f h = rw (e, f) (login-ready-fits h)

module _ {letters : Letters} {pool tape ws : List ℕ} {at : ℕ} {out : List ℕ} {user password : Span} (f : LoginFits letters pool tape ws at out user password) {mid : List ℕ} {behind : ℕ}
    (p : Emitted (number.octets 4 (user.len + password.len + 2)) at out mid behind) where
  pub user-space : behind + 1 + user.len ≤ length mid
  user-space = omega (arith, f.space, p.next, emitted-length (omega (arith, f.space)) p)

  module _ {low : List ℕ} {next : ℕ} (q : Emitted (number.octets 1 0 ++ text.octets_of pool user) behind mid low next) where
    both-spaces : (behind + length (number.octets 1 0 ++ text.octets_of pool user) ≤ length mid) × (next + 1 + password.len ≤ length low)
    both-spaces =
        let l = length-span pool user.start user.len f.user_inside in
        let h : behind + length (number.octets 1 0 ++ text.octets_of pool user) ≤ length mid = omega (arith, user-space, l) in
        (h, omega (arith, l, f.space, q.next, emitted-length h q, p.next, emitted-length (omega (arith, f.space)) p))

    pub password-space : next + 1 + password.len ≤ length low
    password-space = both-spaces.1

    pub login-emitted : {after : List ℕ} {r : ℕ} → Emitted (number.octets 1 0 ++ text.octets_of pool password) next low after r
        → Emitted (octets_of letters pool tape (arg login) ws) at out after r
    login-emitted d = rw f.whole (emitted-after (omega (arith, f.space)) p (emitted-after both-spaces.0 q d))

-- One field

-- what is ready has a size, that of its octets
ready-size : (letters : Letters) (pool tape : List ℕ) (f : Field) (ws : List ℕ) (at : ℕ) (out : List ℕ) → Ready (field_size letters pool tape f ws) at out
    → field_size letters pool tape f ws ≡ octets (length (octets_of letters pool tape f ws))
unfolding field_size octets_of
ready-size letters pool tape (fixed xs) ws at out h = refl
ready-size letters pool tape (arg k) ws at out h =
    let v = arg_meaning letters pool tape k ws in
    let r = ready-sized (judge_arg letters pool tape k (arg_from k ws)) (judge_arg_length letters k v) (length (arg_octets letters k v)) at out h in
    rw (r.0, r.1)

module _ (letters : Letters) (pool tape ws : List ℕ) (at : ℕ) (out : List ℕ) where
  abbrev pub FieldReady : Field → Type 0
  FieldReady f = Ready (field_size letters pool tape f ws) at out

  abbrev pub field_octets_here : Field → List ℕ
  field_octets_here f = octets_of letters pool tape f ws

  pub field-space : (f : Field) → FieldReady f → at + length (field_octets_here f) ≤ length out
  field-space f h = rw (ready-size letters pool tape f ws at out h) at h

  pub number_is : (k : ℕ) → field_octets_here (arg (number k)) ≡ number.octets k (get_or ws 0 0)
  unfolding octets_of
  number_is k = refl

  pub number-space : (k : ℕ) → FieldReady (arg (number k)) → at + k ≤ length out
  number-space k h = omega (arith, rw (number_is k) at (field-space (arg (number k)) h), length-octets k (get_or ws 0 0))

  module _ (w : Result ℕ WireError) {after : List ℕ} where
    table-put : FieldReady (arg table) → outcome (answer_of_written w) after ≡ write_table letters pool tape at out → outcome (answer_of_written w) after ≡ write_at None (field_octets_here (arg table)) at out
    unfolding field_size octets_of write_table
    table-put h o = let y = ready-sized (judge_table letters pool tape) _ _ at out h in rw (y.0, y.1) at o

    pub table-ok : FieldReady (arg table) → outcome (answer_of_written w) after ≡ write_table letters pool tape at out → IsOk w
    table-ok h o = is_written w _ at out (field-space (arg table) h) (table-put h o)

    pub table-written : {r : ℕ} → FieldReady (arg table) → outcome (answer_of_written w) after ≡ write_table letters pool tape at out → w ≡ Ok r → Emitted (field_octets_here (arg table)) at out after r
    table-written h o q = emitted w (field-space (arg table) h) (table-put h o) q

    fixed-put : (xs : List ℕ) → outcome (answer_of_written w) after ≡ write_octets xs at out → outcome (answer_of_written w) after ≡ write_at None (field_octets_here (fixed xs)) at out
    unfolding octets_of write_octets
    fixed-put xs o = o

    pub fixed-ok : (xs : List ℕ) → FieldReady (fixed xs) → outcome (answer_of_written w) after ≡ write_octets xs at out → IsOk w
    fixed-ok xs h o = is_written w _ at out (field-space (fixed xs) h) (fixed-put xs o)

    pub fixed-written : {r : ℕ} (xs : List ℕ) → FieldReady (fixed xs) → outcome (answer_of_written w) after ≡ write_octets xs at out → w ≡ Ok r → Emitted (field_octets_here (fixed xs)) at out after r
    fixed-written xs h o q = emitted w (field-space (fixed xs) h) (fixed-put xs o) q

-- Fields, one behind another

first-ready : (a b : Size) (at : ℕ) (out : List ℕ) → Ready (both a b) at out → Ready a at out
first-ready (octets m) (octets n) at out h = omega arith
first-ready (octets m) long at out h = absurd h
first-ready (octets m) (refused r) at out h = absurd h
first-ready long (octets n) at out h = absurd h
first-ready long long at out h = absurd h
first-ready long (refused r) at out h = absurd h
first-ready (refused r) b at out h = absurd h

rest-ready : (m : ℕ) (b : Size) (at next : ℕ) (out mid : List ℕ) → Ready (both (octets m) b) at out → next ≡ at + m → length mid ≡ length out → Ready b next mid
rest-ready m (octets n) at next out mid h e l = omega arith
rest-ready m long at next out mid h e l = absurd h
rest-ready m (refused r) at next out mid h e l = absurd h

module _ (letters : Letters) (pool tape : List ℕ) where
  no-octets : (ws : List ℕ) → octets_of_all letters pool tape [] ws ≡ []
  unfolding octets_of_all field_octets
  no-octets ws = refl

  fields-octets : (f : Field) (fs : List Field) (ws : List ℕ)
      → octets_of_all letters pool tape (f ∷ fs) ws ≡ octets_of letters pool tape f ws ++ octets_of_all letters pool tape fs (drop (width f) ws)
  unfolding octets_of_all octets_of field_octets pooled_meanings args_from
  fields-octets (fixed xs) fs ws = refl
  fields-octets (arg k) fs ws = refl

-- The loop over fields: those left, written at `at`, write the whole

pub record Going (pool tape : List ℕ) (fs : List Field) (ws : List ℕ) (from : ℕ) (before : List ℕ) (left : List Field) (rest : List ℕ) (at : ℕ) (out : List ℕ) : Type 0 where
  pub there : widths left ≤ length rest
  pub ready : Ready (fields_size errata pool tape left rest) at out
  pub same : splice at (octets_of_all errata pool tape left rest) out ≡ splice from (octets_of_all errata pool tape fs ws) before

pub at-start : {pool tape : List ℕ} {fs : List Field} {ws : List ℕ} {from : ℕ} {out : List ℕ} {left : List Field} → left ≡ fs → widths fs ≤ length ws → Ready (fields_size errata pool tape fs ws) from out
    → Going pool tape fs ws from out left ws from out
at-start e w r = rw e (record { there = w; ready = r; same = refl })

module _ {pool tape : List ℕ} {fs : List Field} {ws : List ℕ} {from : ℕ} {before : List ℕ} {left : List Field} {rest : List ℕ} {at : ℕ} {out : List ℕ}
    (go : Going pool tape fs ws from before left rest at out) where
  pub at-end : left ≡ [] → out ≡ splice from (octets_of_all errata pool tape fs ws) before
  at-end e =
      let none : [] ≡ octets_of_all errata pool tape left rest = sym (ap (λ (fs : List Field). octets_of_all errata pool tape fs rest) e ∙ no-octets errata pool tape rest) in
      sym (splice-nil at out) ∙ ap (λ (xs : List ℕ). splice at xs out) none ∙ go.same

  module _ (c : CodeField) {others : List Field} (turn : left ≡ field_of c ∷ others) where
    abbrev field : Field
    field = field_of c

    turn-sizes : Ready (both (field_size errata pool tape field rest) (fields_size errata pool tape others (drop (width field) rest))) at out
    turn-sizes = rw (turn, fields-size pool tape field others rest) at go.ready

    turn-words : width field + widths others ≤ length rest
    turn-words = rw turn at go.there

    pub turn-ready : (width field ≤ length rest) × Ready (field_size errata pool tape field rest) at out
    turn-ready = (omega (arith, turn-words), first-ready _ _ at out turn-sizes)

    turn-space : at + length (octets_of errata pool tape field rest) ≤ length out
    turn-space = field-space errata pool tape rest at out field turn-ready.1

    pub turn-next : {mid : List ℕ} {next k : ℕ} → Emitted (octets_of errata pool tape field rest) at out mid next → k ≡ width field
        → Going pool tape fs ws from before others (take (length rest - k) (drop k rest)) next mid
    turn-next {mid} {next} {k} d w =
        let xs = octets_of errata pool tape field rest in
        let ys = octets_of_all errata pool tape others (drop (width field) rest) in
        let all : octets_of_all errata pool tape left rest ≡ xs ++ ys =
        ap (λ (fs : List Field). octets_of_all errata pool tape fs rest) turn ∙ fields-octets errata pool tape field others rest in
        let size = ready-size errata pool tape field rest at out turn-ready.1 in
        rw (w, words-behind (width field) rest)
        (record {
          there = omega (arith, turn-words, length-drop (width field) rest);
          ready = rest-ready (length xs) _ at next out mid (rw size at turn-sizes) d.next (emitted-length turn-space d);
          same =
              ap (λ (k : ℕ). splice k ys mid) d.next
              ∙ ap (splice (at + length xs) ys) d.memory
              ∙ splice-after at xs ys out turn-space
              ∙ ap (λ (zs : List ℕ). splice at zs out) (sym all)
              ∙ go.same;
        })
