-- What the second pass leaves in its output, piece by piece.
use mathlib.Core.Path.{◌≡◌, refl, sym, ap, ◌∙◌}
use mathlib.Core.Bool.{Bool, true, false, not}
use mathlib.Core.List.{List, [], ◌∷◌, ◌++◌}
use Rattle.std.specs.Prelude.{Option, Some, None, IsSome, Result, Ok, Err, IsOk}
use Rattle.std.specs.Option.{option_map}
use Prim.Native.Nat.{ℕ, ◌+◌, ◌≤◌}
use native.Mathlib.Nat.{add-zero}
use native.Mathlib.Omega.{arith}
use lib.ListN.{length, take, drop, length-append}
use lib.Dec.{leb}
use types.Run.{OneOf, miss}
use denote.Enum.Declared.{tag_of}
use Rattle.types.specs.Answer.{bad_tape, short_str_too_long}
use Rattle.types.specs.Octets.{octets}
use Rattle.types.specs.Strings.{octets_of, octets_in, long_str, judge_short_str}
use Rattle.types.specs.Judgement.{test}
use Rattle.types.specs.Memory.{splice, outcome}
use Rattle.types.specs.declared.Span.{Span}
use Rattle.types.specs.declared.WireError.{WireError}
use Rattle.types.proofs.Chain.{test-none}
use Rattle.types.proofs.Tests.{yes_leb, no_leb}
use Rattle.types.proofs.Splice.{splice-nil, splice-length, splice-after, splice-before}
use Rattle.types.proofs.NumberLaws.{length-octets}
use Rattle.writers.specs.AnswerOf.{answer_of_written}
use Rattle.writers.specs.Writers.{write_at}
use Rattle.writers.proofs.WriterLaws.{write-given}
use Rattle.tables.specs.declared.Kind.{Kind}
use Rattle.tables.specs.declared.Kind.TheVariants as code
use Rattle.tables.specs.Forest.{Words, payload_meaning}
use Rattle.tables.specs.Writing.{payload_octets, name_octets, in_pool, judge_name}
use Rattle.tables.specs.AnswerOf.{answer_of_kind}
use Rattle.tables.specs.contracts.Kind.{the_type}
use Rattle.table_writer.proofs.SizeLaws.{span-length, octets-missing}
use Rattle.table_writer.specs.Emitting.{Emitted, leaf_payload}

-- a writer that has space refuses nothing, and leaves the octets
pub is_written : (w : Result ℕ WireError) (xs : List ℕ) (at : ℕ) (out : List ℕ) {after : List ℕ} → at + length xs ≤ length out → outcome (answer_of_written w) after ≡ write_at None xs at out → IsOk w
is_written (Ok m) xs at out h e = refl
is_written (Err x) xs at out h e = let o = e ∙ write-given xs at out h in let z : ◌≡◌ {A = ℕ} 0 1 = cc in absurd (omega arith)

pub emitted : (w : Result ℕ WireError) {xs : List ℕ} {at : ℕ} {out after : List ℕ} {r : ℕ} → at + length xs ≤ length out → outcome (answer_of_written w) after ≡ write_at None xs at out → w ≡ Ok r
    → Emitted xs at out after r
emitted w {xs} {at} {out} h e n =
    let o = rw n at e ∙ write-given xs at out h in
    record { next = cc; memory = cc }

-- nothing
pub none_emitted : (at : ℕ) (out : List ℕ) → Emitted [] at out out at
none_emitted at out = record { next = sym (add-zero at); memory = sym (splice-nil at out) }

module _ {xs : List ℕ} {at m : ℕ} {a b : List ℕ} (h : at + length xs ≤ length a) (p : Emitted xs at a b m) where
  -- the memory is as long as it was
  pub emitted-length : length b ≡ length a
  emitted-length = ap length p.memory ∙ splice-length at xs [] a h

  -- one piece behind another
  pub emitted-after : {ys : List ℕ} {c : List ℕ} {r : ℕ} → Emitted ys m b c r → Emitted (xs ++ ys) at a c r
  emitted-after {ys} {c} {r} q =
      record {
        next = omega (arith, p.next, q.next, length-append xs ys);
        memory =
            q.memory
            ∙ ap (λ (i : ℕ). splice i ys b) p.next
            ∙ ap (splice (at + length xs) ys) p.memory
            ∙ splice-after at xs ys a h;
      }

-- a part of the pool
module _ (pool : List ℕ) (start len : ℕ) (inside : start + len ≤ length pool) where
  pub length-span : length (take len (drop start pool)) ≡ len
  length-span = span-length pool (record { start = start; len = len }) inside

pub is_found : (pool : List ℕ) (v : Span) → v.start + v.len ≤ length pool → {A : Type 0} (f : A → List ℕ) (q : Option A) → option_map f q ≡ octets_in pool v → IsSome q
is_found pool v inside f (Some x) e = refl
is_found pool v inside f None e = absurd (omega (arith, no_leb (v.start + v.len) (length pool) (octets-missing pool v e), inside))

-- a name that passed
pub record NameFits (pool : List ℕ) (name : Span) : Type 0 where
  pub inside : name.start + name.len ≤ length pool
  pub short : name.len ≤ 255
  pub long : length (octets_of pool name) ≡ name.len

pub name-fits : (named : Bool) (pool : List ℕ) (i : ℕ) (name : Span) → not named ≡ false → judge_name named pool i name ≡ None → NameFits pool name
name-fits true pool i name y e =
    let xs = octets_of pool name in
    let a = test-none (in_pool pool name.start name.len) (bad_tape i) (judge_short_str xs) e in
    let inside : name.start + name.len ≤ length pool = yes_leb (name.start + name.len) (length pool) a.0 in
    let b = test-none (leb (length xs) 255) short_str_too_long _ a.1 in
    let long : length xs ≡ name.len = length-span pool name.start name.len inside in
    record { inside = inside; short = omega (arith, yes_leb (length xs) 255 b.0); long = long }
name-fits false pool i name y e = let z : ◌≡◌ {A = ℕ} 0 1 = cc in absurd (omega arith)

pub no_name : (named : Bool) (xs : List ℕ) (at : ℕ) (out : List ℕ) → not named ≡ true → Emitted (name_octets named xs) at out out at
no_name true xs at out n = let z : ◌≡◌ {A = ℕ} 0 1 = cc in absurd (omega arith)
no_name false xs at out n = none_emitted at out

-- its length, and then its octets
module _ (pool : List ℕ) (name : Span) (fits : NameFits pool name) where
  pub name-length : (named : Bool) → not named ≡ false → length (name_octets named (octets_of pool name)) ≡ 1 + name.len
  name-length true y = omega (arith, fits.long)
  name-length false y = let z : ◌≡◌ {A = ℕ} 0 1 = cc in absurd (omega arith)

  pub name-emitted : (named : Bool) → not named ≡ false → {at : ℕ} {out b c : List ℕ} {m r : ℕ} → at + 1 ≤ length out → Emitted (octets 1 name.len) at out b m
      → Emitted (octets_of pool name) m b c r → Emitted (name_octets named (octets_of pool name)) at out c r
  name-emitted true y h p q = rw fits.long (emitted-after (omega arith) p q)
  name-emitted false y h p q = let z : ◌≡◌ {A = ℕ} 0 1 = cc in absurd (omega arith)

-- a long string that passed: its length, and then its octets
pub record LongFits (pool : List ℕ) (start len at : ℕ) (out : List ℕ) : Type 0 where
  pub inside : start + len ≤ length pool
  pub short : len ≤ 4294967295
  pub space : at + 4 + len ≤ length out

pub long-fits : (pool : List ℕ) (start len at : ℕ) (out : List ℕ) (i : ℕ) → test (in_pool pool start len) (bad_tape i) None ≡ None → length (long_str (take len (drop start pool))) ≤ 4294967295 + 4
    → at + length (long_str (take len (drop start pool))) ≤ length out → LongFits pool start len at out
long-fits pool start len at out i e l s =
    let inside : start + len ≤ length pool = yes_leb (start + len) (length pool) (test-none (in_pool pool start len) (bad_tape i) None e).0 in
    let n = length-span pool start len inside in
    record { inside = inside; short = omega arith; space = omega arith }

pub long-emitted : {pool : List ℕ} {start len at m r : ℕ} {out b c : List ℕ} → LongFits pool start len at out → Emitted (octets 4 len) at out b m
    → Emitted (take len (drop start pool)) m b c r → Emitted (long_str (take len (drop start pool))) at out c r
long-emitted {pool} {start} {len} f p q = rw (length-span pool start len f.inside) (emitted-after (omega (arith, f.space)) p q)

-- octets that stand already, and then their length before them
pub long-before : (n : ℕ) {ys : List ℕ} {at m r : ℕ} {a b c : List ℕ} → n ≡ length ys → at + 4 + length ys ≤ length a → Emitted ys (at + 4) a b r → Emitted (octets 4 n) at b c m
    → Emitted (long_str ys) at a c r
long-before n {ys} {at} {m} {r} {a} {b} {c} e h p q =
    let l = length-octets 4 (length ys) in
    let same : at + 4 ≡ at + length (octets 4 (length ys)) = omega arith in
    record {
      next = omega (arith, p.next, length-append (octets 4 (length ys)) ys);
      memory =
          q.memory
          ∙ ap (λ (m : ℕ). splice at (octets 4 m) b) e
          ∙ ap (splice at (octets 4 (length ys))) (p.memory ∙ ap (λ (i : ℕ). splice i ys a) same)
          ∙ splice-before at (octets 4 (length ys)) ys a (omega arith);
    }

-- kinds with no octets of their own
pub no_payload : (k : Kind) (pool : List ℕ) (x : Words) → OneOf (1 ∷ 5 ∷ []) (tag_of the_type k) → leaf_payload (answer_of_kind k) pool x ≡ []
no_payload (code.Number width) pool x o = absurd (miss (1 ∷ 5 ∷ []) 0 tt o)
no_payload code.Void pool x o = refl
no_payload code.Boolean pool x o = absurd (miss (1 ∷ 5 ∷ []) 2 tt o)
no_payload code.Decimal pool x o = absurd (miss (1 ∷ 5 ∷ []) 3 tt o)
no_payload code.LongStr pool x o = absurd (miss (1 ∷ 5 ∷ []) 4 tt o)
no_payload (code.Container named) pool x o = refl

-- kinds whose octets are all their own
pub leaf-payload : (k : Kind) (pool : List ℕ) (x : Words) (xs : List ℕ) → ((named : Bool) → k ≡ code.Container named → ⊥)
    → payload_octets (answer_of_kind k) (payload_meaning (answer_of_kind k) pool x) xs ≡ leaf_payload (answer_of_kind k) pool x
leaf-payload (code.Number width) pool x xs o = refl
leaf-payload code.Void pool x xs o = refl
leaf-payload code.Boolean pool x xs o = refl
leaf-payload code.Decimal pool x xs o = refl
leaf-payload code.LongStr pool x xs o = refl
leaf-payload (code.Container named) pool x xs o = absurd (o named refl)
