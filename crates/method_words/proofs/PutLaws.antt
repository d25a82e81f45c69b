-- The properties of a content header as words: each is put behind the one before, and all of them are what the header is. And back.
use mathlib.Core.Path.{◌≡◌, refl, sym, ap, ◌∙◌}
use mathlib.Core.Bool.{Bool}
use Rattle.std.specs.Prelude.{Option, None, Some}
use mathlib.Core.List.{List, [], ◌∷◌, ◌++◌}
use Prim.Native.Nat.{ℕ, suc, ◌+◌, ◌*◌, ◌^◌, ◌≤◌, ◌<◌}
use native.Mathlib.Nat.{add-zero, zero-add, two-pow-succ}
use Rattle.std.proofs.Math.Nat.{add-mul, mul_assoc}
use native.Mathlib.Numerals.{add-one}
use native.Mathlib.Omega.{arith}
use lib.ListN.{length, set, drop}
use Rattle.bits.specs.Flags.{bit}
use Rattle.types.specs.Memory.{splice}
use Rattle.types.specs.declared.Span.{Span}
use Rattle.types.proofs.Splice.{splice-nil, splice-length, splice-after, splice-sets}
use Rattle.method.specs.Fields.{Kind, number, short_str, table, Field, fixed, arg, Pooled, Args}
use Rattle.method.specs.Properties.{properties, select, flags_number, flags_of, header}
use Rattle.method.specs.Words.{width, widths, arg_words, args_words, args_from, header_from}
use Rattle.method.specs.Layout.{zeros}
use Rattle.method.specs.AnswerOf.{Optional, is_there, present, with_first, chosen, properties_of, header_of}
use Rattle.method.specs.declared.ContentHeader.{ContentHeader}
use Rattle.method.proofs.WordLaws.{args-words}
use Rattle.method.proofs.MethodLaws.{flags-lt, flags-of}
use Rattle.method_words.specs.Words.{padded, header_words}
use Rattle.method_words.specs.Properties.{optional_words, words_or, Put}
use Rattle.method_words.specs.declared.HeaderWords.{HeaderWords}
use Rattle.method_words.specs.declared.properties.PropertyWriter.{PropertyWriter}
use Rattle.method.proofs.KindLaws.{laws}
use Rattle.tables.specs.Letters.{errata}

-- One property

pub put-absent : (k : Kind) (o : Optional k) (done : PropertyWriter) (ws : List ℕ) → o ≡ None → Put (optional_words k o) done (record { at = done.at; flags = done.flags * 2 }) ws ws
put-absent k o done ws e = rw e (record { flags = omega arith; next = sym (add-zero done.at); memory = sym (splice-nil done.at ws) })

pub put-present : (k : Kind) (o : Optional k) (v : Pooled k) {done after : PropertyWriter} {old new : List ℕ} → o ≡ Some v → Put (Some (arg_words k v)) done after old new
    → Put (optional_words k o) done after old new
put-present k o v e p = rw e p

pub put-number : (n : ℕ) (done : PropertyWriter) (ws : List ℕ) → done.at + 1 ≤ length ws
    → Put (Some (n ∷ [])) done (record { at = done.at + 1; flags = done.flags * 2 + 1 }) ws (set ws done.at n)
put-number n done ws h = record { flags = refl; next = refl; memory = splice-sets (n ∷ []) ws done.at h }

pub put-span : (v : Span) (done : PropertyWriter) (ws : List ℕ) → done.at + 2 ≤ length ws
    → Put (Some (arg_words short_str v)) done (record { at = done.at + 2; flags = done.flags * 2 + 1 }) ws (set (set ws done.at v.start) (done.at + 1) v.len)
put-span v done ws h =
    record {
      flags = refl;
      next = refl;
      memory = ap (λ (i : ℕ). set (set ws done.at v.start) i v.len) (add-one done.at) ∙ splice-sets (v.start ∷ v.len ∷ []) ws done.at h;
    }

-- the words of a number do not depend on its width, and those of a table are a number

pub put-octet : {before after : PropertyWriter} {old new : List ℕ} (v w : Option ℕ) → w ≡ v → Put (optional_words (number 8) w) before after old new → Put (optional_words (number 1) v) before after old new
put-octet None w e p = rw e at p
put-octet (Some n) w e p = rw e at p

pub put-table : {before after : PropertyWriter} {old new : List ℕ} (v w : Option ℕ) → w ≡ v → Put (optional_words (number 8) w) before after old new → Put (optional_words table v) before after old new
put-table None w e p = rw e at p
put-table (Some n) w e p = rw e at p

words-width : (k : Kind) (o : Optional k) → length (words_or (optional_words k o)) ≤ width (arg k)
words-width k None = omega arith
words-width k (Some v) = omega (arith, (laws errata k).length-words v)

words-there : (k : Kind) (o : Optional k) → is_there (optional_words k o) ≡ is_there o
words-there k None = refl
words-there k (Some v) = refl

-- the words of one that is there stand before those of the others that are
chosen-words : (k : Kind) (fs : List Field) (vs : Args Optional (arg k ∷ fs)) → words_or (optional_words k vs.0) ++ args_words (select (present fs vs.1) fs) (chosen fs vs.1)
    ≡ args_words (select (present (arg k ∷ fs) vs) (arg k ∷ fs)) (chosen (arg k ∷ fs) vs)
unfolding select chosen args_words
chosen-words k fs vs = first vs.0
  where
    first : (o : Optional k) → words_or (optional_words k o) ++ args_words (select (present fs vs.1) fs) (chosen fs vs.1)
        ≡ args_words (select (is_there o ∷ present fs vs.1) (arg k ∷ fs)) (with_first k fs (present fs vs.1) o (chosen fs vs.1))
    first None = refl
    first (Some v) = refl

-- All of some properties, one behind the other

pub data PutEach : (fs : List Field) → Args Optional fs → (before after : PropertyWriter) → (old new : List ℕ) → Type 0 where
  all : {vs : Args Optional []} {done : PropertyWriter} {ws : List ℕ} → PutEach [] vs done done ws ws
  next : {k : Kind} {fs : List Field} {vs : Args Optional (arg k ∷ fs)} {before between after : PropertyWriter} {old ws new : List ℕ} → Put (optional_words k vs.0) before between old ws
      → PutEach fs vs.1 between after ws new → PutEach (arg k ∷ fs) vs before after old new

present-length : (fs : List Field) (vs : Args Optional fs) → length (present fs vs) ≡ length fs
present-length [] vs = refl
present-length (fixed xs ∷ fs) vs = ap suc (present-length fs vs)
present-length (arg k ∷ fs) vs = ap suc (present-length fs vs.1)

flags-moved : (done flag w rest : ℕ) → (done * 2 + flag) * 2 ^ w + rest ≡ done * 2 ^ suc w + (flag * 2 ^ w + rest)
flags-moved done flag w rest =
    let twice : done * (2 * 2 ^ w) ≡ done * 2 ^ suc w = ap (λ (n : ℕ). done * n) (omega (arith, two-pow-succ w)) in
    omega (arith, add-mul (done * 2) flag (2 ^ w), mul_assoc done 2 (2 ^ w), twice)

record AllPut (fs : List Field) (vs : Args Optional fs) (before after : PropertyWriter) (old new : List ℕ) : Type 0 where
  flags : after.flags ≡ before.flags * 2 ^ length fs + flags_number (present fs vs)
  memory : new ≡ splice before.at (args_words (select (present fs vs) fs) (chosen fs vs)) old

all-put : (fs : List Field) (vs : Args Optional fs) (before after : PropertyWriter) (old new : List ℕ) → before.at + widths fs ≤ length old → PutEach fs vs before after old new
    → AllPut fs vs before after old new
unfolding select chosen args_words
all-put [] vs before after old new h all = record { flags = omega arith; memory = sym (splice-nil before.at old) }
all-put (fixed xs ∷ fs) vs before after old new h x = elim x [ ]
all-put (arg k ∷ fs) vs before after old new h (next {between = between} {ws = ws} p more) =
    let w = optional_words k vs.0 in
    let wide = words-width k vs.0 in
    let within : before.at + length (words_or w) ≤ length old = omega (arith, wide, h) in
    let kept = ap length p.memory ∙ splice-length before.at (words_or w) [] old within in
    let r = all-put fs vs.1 between after ws new (omega (arith, p.next, wide, h, kept)) more in
    record {
      flags =
          let there : between.flags ≡ before.flags * 2 + bit (is_there vs.0) = rw (words-there k vs.0) at p.flags in
          rw (present-length fs vs.1)
          (r.flags
          ∙ ap (λ (n : ℕ). n * 2 ^ length fs + flags_number (present fs vs.1)) there
          ∙ flags-moved before.flags (bit (is_there vs.0)) (length fs) (flags_number (present fs vs.1)));
      memory =
          r.memory
          ∙ rw (p.next, p.memory) (splice-after before.at (words_or w) (args_words (select (present fs vs.1) fs) (chosen fs vs.1)) old within)
          ∙ ap (λ (ws : List ℕ). splice before.at ws old) (chosen-words k fs vs);
    }

-- All thirteen

at-start : (xs l : List ℕ) → splice 0 xs l ≡ xs ++ drop (length xs) l
unfolding splice
at-start xs l = ap (λ (n : ℕ). xs ++ drop n l) (zero-add (length xs))

pub words-put : (h : ContentHeader) (after : PropertyWriter) (ws : List ℕ) → PutEach properties (properties_of h.properties) (record { at = 0; flags = 0 }) after (zeros 22) ws
    → record { class = h.class; body_size = h.body_size; present = after.flags; words = ws } ≡ header_words (header_of h)
unfolding header_of
words-put h after ws x =
    let vs = properties_of h.properties in
    let r = all-put properties vs (record { at = 0; flags = 0 }) after (zeros 22) ws (unfold properties in omega arith) x in
    let flags : after.flags ≡ flags_number (present properties vs) = omega (arith, r.flags) in
    rw (flags, r.memory ∙ at-start (args_words (select (present properties vs) properties) (chosen properties vs)) (zeros 22))

-- The words of a header, back

words_back : (c n : ℕ) (ps : List Bool) (vs : Args Pooled (select ps properties)) → length ps ≡ 13
    → let r = header_words (header c n ps vs) in
    (r.present < 8192) × (header c n ps vs ≡ header_from r.class r.body_size r.present r.words)
words_back c n ps vs e =
    let ws = padded 22 (args_words (select ps properties) vs) in
    let same : ps ≡ flags_of 13 (flags_number ps) = sym (ap (λ (w : ℕ). flags_of w (flags_number ps)) (sym e) ∙ flags-of ps) in
    let small : flags_number ps < 2 ^ 13 = rw e at (flags-lt ps) in (
      small,
      ap (header c n ps) (sym (args-words (select ps properties) vs (drop (length (args_words (select ps properties) vs)) (zeros 22))))
          ∙ ap (λ (x : List Bool). header c n x (args_from (select x properties) ws)) same,
    )

pub header-back : (h : ContentHeader) (r : HeaderWords) → r ≡ header_words (header_of h)
    → (r.present < 8192) × (header_of h ≡ header_from r.class r.body_size r.present r.words)
unfolding header_of
header-back h r e =
    let vs = properties_of h.properties in
    rw e (words_back h.class h.body_size (present properties vs) (chosen properties vs) (present-length properties vs ∙ (unfold properties in refl)))
