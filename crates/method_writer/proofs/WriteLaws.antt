-- From what the first pass answers of some fields, with any octets before them: their size, and after both passes the answer and the output at exit.
use mathlib.Core.Path.{◌≡◌, refl, sym, ap, ◌∙◌}
use mathlib.Core.Bool.{Bool, true, false}
use mathlib.Core.Logic.{◌⊎◌, inl, inr}
use Rattle.std.specs.Prelude.{Option, None, Some, Result, Ok, IsSome}
use Rattle.std.specs.Result.{IsOk}
use Rattle.std.proofs.Common.{Bor}
use mathlib.Core.List.{List, [], ◌∷◌, ◌++◌, map, append_assoc}
use Prim.Native.Nat.{ℕ, ◌+◌, ◌*◌, ◌≤◌, ◌<◌}
use native.Mathlib.Omega.{arith}
use lib.ListN.{length, drop, length-append, length-map}
use Rattle.types.specs.Answer as answer
use Rattle.types.specs.Answer.{Refusal, given, no_space}
use Rattle.types.specs.declared.WireError.{WireError}
use Rattle.types.specs.Octets as number
use Rattle.types.specs.Memory.{splice, Outcome, outcome}
use Rattle.types.proofs.Splice.{splice-after}
use Rattle.writers.specs.AnswerOf.{answer_of_written}
use Rattle.writers.specs.Writers.{write_at, write_uint}
use Rattle.writers.proofs.WriterLaws.{write-full, write-given}
use Rattle.tables.specs.Letters.{Letters, errata}
use Rattle.method_words.specs.declared.Call.{Call}
use Rattle.method_words.specs.declared.HeaderWords.{HeaderWords}
use Rattle.method_words.proofs.PutLaws.{header-back}
use Rattle.method.specs.declared.ContentHeader.{ContentHeader}
use Rattle.method.specs.AnswerOf.{header_of}
use Rattle.method_words.specs.Words.{header_words}
use Rattle.method_writer.specs.Calls.{write_call}
use Rattle.table_writer.specs.Sizes as payload
use Rattle.table_writer.specs.Emitting.{Emitted}
use Rattle.table_writer.proofs.SizeLaws.{sized-given, sized-refused}
use Rattle.table_writer.proofs.EmitLaws.{emitted-length, emitted-after}
use Rattle.method.specs.Fields.{Field, Pooled}
use Rattle.method.specs.Commands.{commands, fields_in, known, fields_of, Command}
use Rattle.method.specs.Properties.{properties, select, flags_number, flags_of}
use Rattle.method.specs.Writing.{command_octets, header_octets, field_octets}
use Rattle.method.specs.Pooled.{refusal_of, command_refusal, header_refusal, pooled_command_meaning, pooled_header_meaning, write_command, write_header}
use Rattle.method.specs.Words.{width, widths, args_from, command_from}
use Rattle.method.specs.Layout.{field_of, layout_fields}
use Rattle.method.specs.declared.layout.Field.{Field as CodeField}
use Rattle.method.specs.Present.{present_fields}
use Rattle.method.specs.declared.present.PresentFields.{PresentFields}
use Rattle.method.proofs.LayoutLaws.{command-widths, layout-known, layout-length, all-present, property-widths}
use Rattle.method.proofs.MethodLaws.{flags-number, flags-length}
use Rattle.method_writer.specs.Sizes.{Size, octets, long, refused, both, args_meaning, field_size, fields_size, octets_of_all}
use Rattle.method_writer.specs.Emitting.{Ready}
use Rattle.method_writer.proofs.EmitLaws.{number-ok, number-written}
use Rattle.method_writer.proofs.SizeLaws.{fields-size, no-fields-size, size_small, all_sized, octets-all}

-- A number behind what is written
module _ (k n : ℕ) (w : Result ℕ WireError) {xs : List ℕ} {at : ℕ} (m : ℕ) {out : List ℕ} (b : List ℕ) {c : List ℕ} (h : at + (length xs + k) ≤ length out) (p : Emitted xs at out b m)
    (e : outcome (answer_of_written w) c ≡ write_uint k n m b) where
  pub ok-after : IsOk w
  ok-after = number-ok k n w m b (omega (arith, p.next, emitted-length (omega arith) p)) e

  pub number-after : {r : ℕ} → w ≡ Ok r → Emitted (xs ++ number.octets k n) at out c r
  number-after q = emitted-after (omega arith) p (number-written k n w m b (omega (arith, p.next, emitted-length (omega arith) p)) e q)

-- Some fields behind the octets of a head

module _ (letters : Letters) (pool tape : List ℕ) (fs : List Field) (ws : List ℕ) where
  abbrev pub fields_here : List ℕ
  fields_here = octets_of_all letters pool tape fs ws

  abbrev refusal_here : Option Refusal
  refusal_here = refusal_of letters pool tape fs (args_from fs ws)

  -- the size, with nothing written

  abbrev pub size_behind : List ℕ → ℕ ⊎ Refusal
  size_behind head = payload.sized refusal_here (length (head ++ fields_here))

  module _ (head : List ℕ) (at : ℕ) (out : List ℕ) where
    pub size-refused : (r : Refusal) → inr r ≡ all_sized letters pool tape fs ws → inr r ≡ size_behind head
    size-refused r e = rw (sized-refused refusal_here (length fields_here) r e) refl

    abbrev pub behind : Outcome Unit
    behind = write_at refusal_here (head ++ fields_here) at out

    pub behind-refused : (r : Refusal) → inr r ≡ all_sized letters pool tape fs ws → outcome (answer.refused r) out ≡ behind
    unfolding write_at
    behind-refused r e = rw (sized-refused refusal_here (length fields_here) r e) refl

    module _ (n : ℕ) (e : inl n ≡ all_sized letters pool tape fs ws) where
      accepts : (refusal_here ≡ None) × (length fields_here ≡ n)
      accepts = sized-given refusal_here (length fields_here) n (sym e)

      whole_length : length (head ++ fields_here) ≡ length head + n
      whole_length = length-append head fields_here ∙ ap (λ (k : ℕ). length head + k) accepts.1

      pub size-octets : inl (length head + n) ≡ size_behind head
      size-octets = rw (accepts.0, whole_length) refl

      accepted : behind ≡ write_at None (head ++ fields_here) at out
      accepted = rw accepts.0 refl

      pub behind-full : length out < at + (length head + n) → outcome (answer.refused no_space) out ≡ behind
      behind-full h = sym (accepted ∙ write-full (head ++ fields_here) at out (omega (arith, whole_length)))

      pub behind-ready : (start : ℕ) (mid : List ℕ) → start + n ≤ length mid → Ready (fields_size letters pool tape fs ws) start mid
      behind-ready start mid h = rw (← octets-all letters pool tape fs ws n e) h

      pub behind-written : {start : ℕ} {mid after : List ℕ} → at + (length head + n) ≤ length out → Emitted head at out mid start → after ≡ splice start fields_here mid
          → outcome (given tt (start + n)) after ≡ behind
      behind-written {start} {mid} {after} h p m =
          let next : start + n ≡ at + length (head ++ fields_here) = omega (arith, p.next, whole_length) in
          let memory : after ≡ splice at (head ++ fields_here) out =
          m ∙ ap (λ (i : ℕ). splice i fields_here mid) p.next ∙ ap (splice (at + length head) fields_here) p.memory ∙ splice-after at head fields_here out (omega arith) in
          ap (λ (k : ℕ). outcome (given tt k) after) next
          ∙ ap (outcome (given tt (at + length (head ++ fields_here)))) memory
          ∙ sym (accepted ∙ write-given (head ++ fields_here) at out (omega (arith, whole_length)))

-- No sum wraps

octets-same : {m n : ℕ} → octets m ≡ octets n → m ≡ n
octets-same e = cc

both-octets : (a b : Size) (n : ℕ) → octets n ≡ both a b → (x : ℕ) × ((y : ℕ) × ((octets x ≡ a) × ((octets y ≡ b) × (n ≡ x + y))))
both-octets (refused r) b n e = let z : ◌≡◌ {A = ℕ} 0 1 = cc in absurd (omega arith)
both-octets long (refused r) n e = let z : ◌≡◌ {A = ℕ} 0 1 = cc in absurd (omega arith)
both-octets long long n e = let z : ◌≡◌ {A = ℕ} 0 1 = cc in absurd (omega arith)
both-octets long (octets y) n e = let z : ◌≡◌ {A = ℕ} 0 1 = cc in absurd (omega arith)
both-octets (octets x) (refused r) n e = let z : ◌≡◌ {A = ℕ} 0 1 = cc in absurd (omega arith)
both-octets (octets x) long n e = let z : ◌≡◌ {A = ℕ} 0 1 = cc in absurd (omega arith)
both-octets (octets x) (octets y) n e = let s : n ≡ x + y = cc in (x, (y, (refl, (refl, s))))

few-selected : (ps : List Bool) (fs : List Field) → length (select ps fs) ≤ length ps
unfolding select
few-selected [] fs = omega arith
few-selected (p ∷ ps) [] = omega arith
few-selected (true ∷ ps) (f ∷ fs) = omega (arith, few-selected ps fs)
few-selected (false ∷ ps) (f ∷ fs) = omega (arith, few-selected ps fs)

sizes-small : (pool tape : List ℕ) (ps : List Bool) (layout : List CodeField) (ws : List ℕ) (n : ℕ) → octets n ≡ fields_size errata pool tape (select ps (map field_of layout)) ws
    → n ≤ length ps * 4294967299
unfolding select
sizes-small pool tape [] layout ws n e = let z : n ≡ 0 = octets-same (e ∙ no-fields-size pool tape ws) in omega arith
sizes-small pool tape (p ∷ ps) [] ws n e = let z : n ≡ 0 = octets-same (e ∙ no-fields-size pool tape ws) in omega arith
sizes-small pool tape (false ∷ ps) (c ∷ layout) ws n e = omega (arith, sizes-small pool tape ps layout ws n e)
sizes-small pool tape (true ∷ ps) (c ∷ layout) ws n e =
    let s = both-octets (field_size errata pool tape (field_of c) ws) (fields_size errata pool tape (select ps (map field_of layout)) (drop (width (field_of c)) ws)) n
    (e ∙ fields-size pool tape (field_of c) (select ps (map field_of layout)) ws) in
    omega (
      arith,
      s.1.1.1.1,
      size_small pool tape ws c s.0 s.1.1.0,
      sizes-small pool tape ps layout (drop (width (field_of c)) ws) s.1.0 s.1.1.1.0,
    )

-- at most thirteen fields are present
pub few-present : (p : PresentFields) → length (present_fields p) ≤ 13
few-present p = omega (arith, few-selected (flags_of 13 p.flags) (map field_of p.layout.now), flags-length 13 p.flags)

pub fields-small : (pool tape : List ℕ) (p : PresentFields) (ws : List ℕ) (n : ℕ) → inl n ≡ all_sized errata pool tape (present_fields p) ws → n ≤ 13 * 4294967299
fields-small pool tape p ws n e =
    omega (arith, sizes-small pool tape (flags_of 13 p.flags) p.layout.now ws n (octets-all errata pool tape (present_fields p) ws n e), flags-length 13 p.flags)

-- A command whose fields are all present in its layout

-- a command that is known has a layout
pub layout_there : (o : Option (Bor (List CodeField))) (c m : ℕ) → layout_fields o ≡ fields_in commands c m → known c m ≡ true → IsSome o
unfolding known
layout_there (Some l) c m e k = refl
layout_there None c m e k = rw (← e) at k

-- all fields of its layout are its fields
pub command-fields : (layout : List CodeField) (c m : ℕ) {fs : List Field} → Some (map field_of layout) ≡ fields_in commands c m → fs ≡ select (flags_of 13 8191) (map field_of layout) → fs ≡ fields_of c m
command-fields layout c m laid e = e ∙ all-present layout c m (layout-known layout c m laid).1

pub command-asked : (call : Call) {fs : List Field} → fs ≡ fields_of call.class call.method → length call.words ≡ 8 → widths fs ≤ length call.words
command-asked call {fs} e ws = let room : widths fs ≤ 8 = rw e (command-widths call.class call.method) in omega arith

-- with what a row is besides: no longer than thirteen flags
pub command-row-asked : (call : Call) (layout : List CodeField) → map field_of layout ≡ fields_of call.class call.method → length call.words ≡ 8
    → (8191 < 8192) × (length layout ≤ 13) × (widths (select (flags_of 13 8191) (map field_of layout)) ≤ length call.words)
command-row-asked call layout e ws =
    let few : length layout ≤ 8 = layout-length layout call.class call.method e in
    (omega arith, omega arith, command-asked call (all-present layout call.class call.method e) ws)

abbrev pub command_head : Call → List ℕ
command_head call = number.octets 2 call.class ++ number.octets 2 call.method

module _ (pool tape : List ℕ) (x : Command Pooled) (call : Call) (fs : List Field) (is : x ≡ command_from call.class call.method call.words) (e : fs ≡ fields_of call.class call.method) where
  -- its refusal and its octets, in any use of both
  command-sent : {A : Type 0} (f : Option Refusal → List ℕ → A)
      → f (refusal_of errata pool tape fs (args_from fs call.words)) (command_head call ++ fields_here errata pool tape fs call.words)
      ≡ f (command_refusal errata pool tape x) (command_octets errata (pooled_command_meaning errata pool tape x))
  unfolding command_octets octets_of_all
  command-sent f =
      let fs = fields_of call.class call.method in
      rw (is, e)
      (ap (f (refusal_of errata pool tape fs (args_from fs call.words)))
      (append_assoc (number.octets 2 call.class) (number.octets 2 call.method) (field_octets errata fs (args_meaning errata pool tape fs call.words))))

  pub command-size : size_behind errata pool tape fs call.words (command_head call)
      ≡ payload.sized (command_refusal errata pool tape x) (length (command_octets errata (pooled_command_meaning errata pool tape x)))
  command-size = command-sent (λ r xs. payload.sized r (length xs))

  pub command-behind : (at : ℕ) (out : List ℕ) → behind errata pool tape fs call.words (command_head call) at out ≡ write_command errata pool tape x at out
  unfolding write_command
  command-behind at out = command-sent (λ r xs. write_at r xs at out)

-- A command in words

module _ (letters : Letters) (pool tape : List ℕ) where
  pub call_known : (x : Call) → known x.class x.method ≡ true → (at : ℕ) (out : List ℕ)
      → write_command letters pool tape (command_from x.class x.method x.words) at out ≡ write_call letters pool tape x at out
  unfolding write_call
  call_known x k at out = rw k

  pub call-unknown : (x : Call) → known x.class x.method ≡ false → (at : ℕ) (out : List ℕ)
      → outcome (answer.refused (answer.unknown_method x.class x.method)) out ≡ write_call letters pool tape x at out
  unfolding write_call
  call-unknown x k at out = rw k

  pub call-written : (y : Command Pooled) (x : Call) → (y ≡ command_from x.class x.method x.words) × (known x.class x.method ≡ true) → (at : ℕ) (out : List ℕ)
      → write_call letters pool tape x at out ≡ write_command letters pool tape y at out
  call-written y x is at out = sym (call_known x is.1 at out) ∙ ap (λ z. write_command letters pool tape z at out) (sym is.0)

-- A content header with the properties that are present, by its words

abbrev pub header_fields : HeaderWords → List Field
header_fields h = select (flags_of 13 h.present) properties

pub header-asked : (h : HeaderWords) {fs : List Field} → fs ≡ header_fields h → length h.words ≡ 22 → widths fs ≤ length h.words
header-asked h {fs} e w = let room : widths fs ≤ 22 = rw e (property-widths (flags_of 13 h.present)) in omega arith

pub header-row-asked : (x : ContentHeader) (h : HeaderWords) (layout : List CodeField) → h ≡ header_words (header_of x) → map field_of layout ≡ properties
    → length h.words ≡ 22 → (h.present < 8192) × (length layout ≤ 13) × (widths (select (flags_of 13 h.present) (map field_of layout)) ≤ length h.words)
header-row-asked x h layout is e w =
    let thirteen : length properties ≡ 13 = unfold properties in refl in
    ((header-back x h is).0, omega (arith, ap length e, length-map layout field_of, thirteen), header-asked h (ap (select (flags_of 13 h.present)) e) w)

abbrev pub header_head : HeaderWords → List ℕ
header_head h = ((number.octets 2 h.class ++ number.octets 2 0) ++ number.octets 8 h.body_size) ++ number.octets 2 (h.present * 8)

module _ (pool tape : List ℕ) (x : ContentHeader) (h : HeaderWords) (fs : List Field) (is : h ≡ header_words (header_of x)) (e : fs ≡ header_fields h) where
  -- its refusal and its octets, in any use of both
  header-sent : {A : Type 0} (f : Option Refusal → List ℕ → A)
      → f (refusal_of errata pool tape fs (args_from fs h.words)) (header_head h ++ fields_here errata pool tape fs h.words)
      ≡ f (header_refusal errata pool tape (header_of x)) (header_octets errata (pooled_header_meaning errata pool tape (header_of x)))
  unfolding header_octets octets_of_all
  header-sent f =
      let back = header-back x h is in
      let fs = header_fields h in
      let rest = field_octets errata fs (args_meaning errata pool tape fs h.words) in
      let flags : h.present * 8 ≡ 8 * flags_number (flags_of 13 h.present) = omega (arith, flags-number 13 h.present back.0) in
      let class = number.octets 2 h.class in
      let size = number.octets 8 h.body_size in
      let last = number.octets 2 (8 * flags_number (flags_of 13 h.present)) in
      rw (back.1, e, flags)
      (ap (f (refusal_of errata pool tape fs (args_from fs h.words)))
      (append_assoc ((class ++ number.octets 2 0) ++ size) last rest
      ∙ append_assoc (class ++ number.octets 2 0) size (last ++ rest)
      ∙ append_assoc class (number.octets 2 0) (size ++ (last ++ rest))))

  pub header-size : size_behind errata pool tape fs h.words (header_head h)
      ≡ payload.sized (header_refusal errata pool tape (header_of x)) (length (header_octets errata (pooled_header_meaning errata pool tape (header_of x))))
  header-size = header-sent (λ r xs. payload.sized r (length xs))

  pub header-behind : (at : ℕ) (out : List ℕ) → behind errata pool tape fs h.words (header_head h) at out ≡ write_header errata pool tape (header_of x) at out
  unfolding write_header
  header-behind at out = header-sent (λ r xs. write_at r xs at out)
