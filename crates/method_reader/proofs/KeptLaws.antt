-- What was read is made again of its words: its numbers fit their width, so that the cut changes nothing.
use mathlib.Core.Path.{◌≡◌, refl, sym, ap, ◌∙◌}
use Rattle.std.specs.Prelude.{Option, None, Some, Ok, IsSome}
use Rattle.method_reader.specs.declared.CallRead.{CallRead}
use Rattle.method_reader.specs.declared.HeaderRead.{HeaderRead}
use mathlib.Core.List.{List}
use Prim.Native.Nat.{ℕ, ◌^◌, ◌/◌, ◌%◌, ◌<◌}
use native.Mathlib.Nat.{mod-eq_of_lt}
use native.Mathlib.Omega.{arith}
use lib.ListN.{length, drop}
use lib.Dec.{leb}
use Rattle.types.specs.Answer.{Answer, given, refused, not_written, unknown_method, and_then}
use Rattle.types.specs.Memory.{outcome}
use Rattle.types.specs.Octets.{uint_at}
use Rattle.types.specs.declared.Cursor.{Cursor}
use Rattle.types.proofs.Chain.{then-go, need-given, given-value, given-next}
use Rattle.types.proofs.NumberLaws.{Octets, uint_at-lt}
use Rattle.tables.specs.Letters.{Letters}
use Rattle.tables.specs.Tape.{WithTape, WithCount, room_of, fill_tape}
use Rattle.method.specs.Fields.{Located, Pooled}
use Rattle.method.specs.Commands.{known, fields_of, Command, call}
use Rattle.method.specs.Properties.{properties, select, flags_of, Header, header}
use Rattle.method.specs.Reading.{command_at, arguments_at, header_at, fields_at, read_command, read_header, pooled_args, command_with_tape, header_with_tape}
use Rattle.method.specs.Layout.{zeros}
use Rattle.method.specs.Words.{args_words}
use Rattle.method.specs.AnswerOf.{command_of}
use Rattle.method.proofs.MethodLaws.{flags-number}
use Rattle.method.specs.declared.Command.{Command as CodeCommand}
use Rattle.method_words.specs.Words.{call_of, header_words, command_with, header_with}
use Rattle.method_words.specs.InWords.{words_outcome, in_words}
use Rattle.method_words.specs.AnswerOf.{command_of_known}
use Rattle.method_words.specs.declared.Call.{Call}
use Rattle.method_words.specs.declared.HeaderWords.{HeaderWords}
use Rattle.method_words.proofs.InWordsLaws.{ReadToo, read-too}
use Rattle.method_reader.specs.AnswerOf.{answer_of_call, answer_of_header_words}
use Rattle.method_reader.proofs.ReaderLaws.{args_read}

-- what is answered was read
pub filled-value : {A G : Type 0} (used : ℕ) (tape : List ℕ) (a : Answer (WithTape A)) (x : A) (k n : ℕ) (memory : List ℕ)
    → fill_tape used tape a ≡ outcome (given (record { value = x; count = k }) n) memory → ((y : WithTape A) → a ≡ given y n → y.value ≡ x → G) → G
filled-value used tape (given y m) x k n memory e h =
    let w : ◌≡◌ {A = Answer (WithCount _)} (given (record { value = y.value; count = length y.tape }) m) (given (record { value = x; count = k }) n) = cc in
    h y (ap (given y) (given-next _ _ m n w)) (ap (λ (v : WithCount _). v.value) (given-value _ _ m n w))
filled-value used tape (refused r) x k n memory e h = let z : ◌≡◌ {A = ℕ} 0 1 = cc in absurd (omega arith)

-- what was read, made again of its words

module _ (letters : Letters) (s : List ℕ) (at room : ℕ) (o : Octets s) where
  pub command-kept : (z : Command Located) (q : ℕ) → command_at letters s at room ≡ given z q
      → let x = call_of (command_with_tape z).value in
      command_with x.class x.method x.words ≡ Some (command_with_tape z).value
  unfolding command_at command_with
  command-kept z q e =
      then-go (uint_at 2 s at) _ z q e
      (λ c p e1 h1.
      then-go (uint_at 2 s p) _ z q h1
      (λ m r e2 h2.
      let there = need-given (known c m) (unknown_method c m) (arguments_at letters c m s r room) z q h2 in
      let fs = fields_of c m in
      then-go (fields_at letters fs s r room) _ z q there.1
      (λ vs t e3 h3.
      let located : call c m vs ≡ z = given-value _ _ t q (need-given (leb (length s) t) (not_written t) (given (call c m vs) t) z q h3).1 in
      let ws = args_words fs (pooled_args fs vs) in
      rw (← located, there.0) (ap (λ v. Some (call c m v)) (args_read letters fs s r room vs t (drop (length ws) (zeros 8)) o e3)))))

  pub header-kept : (z : Header Located) (q : ℕ) → header_at letters s at room ≡ given z q
      → let x = header_words (header_with_tape z).value in
      (x.class < 65536) × (header_with x.class x.body_size (x.present % 8192) x.words ≡ (header_with_tape z).value)
  unfolding header_at
  header-kept z q e =
      then-go (uint_at 2 s at) _ z q e
      (λ c p e1 h1.
      then-go (uint_at 2 s p) _ z q h1
      (λ weight r e2 h2.
      then-go (uint_at 8 s r) _ z q h2
      (λ size t e3 h3.
      then-go (uint_at 2 s t) _ z q h3
      (λ flags u e4 h4.
      let small : flags / 8 < 2 ^ 13 = omega (arith, uint_at-lt 2 s t o (sym e4)) in
      let ps = flags_of 13 (flags / 8) in
      let fs = select ps properties in
      then-go (fields_at letters fs s u room) _ z q h4
      (λ vs v e5 h5.
      let located : header c size ps vs ≡ z = given-value _ _ v q h5 in
      let ws = args_words fs (pooled_args fs vs) in
      rw (← located) (
        omega (arith, uint_at-lt 2 s at o (sym e1)),
        rw (flags-number 13 (flags / 8) small, mod-eq_of_lt {m = 8192} small)
            (ap (header c size ps) (args_read letters fs s u room vs v (drop (length ws) (zeros 22)) o e5)),
      ))))))

module _ (letters : Letters) (s : List ℕ) (at used : ℕ) (tape : List ℕ) (o : Octets s) where
  read-command-kept : (x : Command Pooled) (k n : ℕ) (memory : List ℕ) → read_command letters s at used tape ≡ outcome (given (record { value = x; count = k }) n) memory
      → command_with (call_of x).class (call_of x).method (call_of x).words ≡ Some x
  unfolding read_command
  read-command-kept x k n memory e =
      filled-value used tape (and_then (command_at letters s at (room_of used tape)) (λ v q. given (command_with_tape v) q)) x k n memory e
      (λ y e1 h1.
      then-go (command_at letters s at (room_of used tape)) _ y n e1
      (λ z q e2 h2.
      let same : (command_with_tape z).value ≡ x = ap (λ (v : WithTape (Command Pooled)). v.value) (given-value _ _ q n h2) ∙ h1 in
      rw (← same) (command-kept letters s at (room_of used tape) o z q e2)))

  read-header-kept : (x : Header Pooled) (k n : ℕ) (memory : List ℕ) → read_header letters s at used tape ≡ outcome (given (record { value = x; count = k }) n) memory
      → header_with (header_words x).class (header_words x).body_size ((header_words x).present % 8192) (header_words x).words ≡ x
  unfolding read_header
  read-header-kept x k n memory e =
      filled-value used tape (and_then (header_at letters s at (room_of used tape)) (λ v q. given (header_with_tape v) q)) x k n memory e
      (λ y e1 h1.
      then-go (header_at letters s at (room_of used tape)) _ y n e1
      (λ z q e2 h2.
      let same : (header_with_tape z).value ≡ x = ap (λ (v : WithTape (Header Pooled)). v.value) (given-value _ _ q n h2) ∙ h1 in
      rw (← same) (header-kept letters s at (room_of used tape) o z q e2).1))

  -- the readers, from what their readers in words answer

  module _ (x : CallRead) (next : Cursor) (w t before : List ℕ)
      (h : words_outcome (answer_of_call (Ok (x, next)) w) w t ≡ in_words call_of (λ x. x.words) before (read_command letters s at used tape)) where
    read-call : ReadToo call_of (read_command letters s at used tape) (record { class = x.class; method = x.method; words = w }) x.records next.at t
    read-call = read-too call_of (λ x. x.words) before (read_command letters s at used tape) (record { class = x.class; method = x.method; words = w }) x.records next.at w t h

    is_known : command_with x.class x.method w ≡ Some read-call.value
    is_known =
        ap (λ (y : Call). command_with y.class y.method y.words) read-call.made
        ∙ read-command-kept read-call.value x.records next.at t read-call.read

    pub call_known : (y : CodeCommand) → Some (command_of y) ≡ command_with x.class x.method w
        → outcome (given (record { value = command_of y; count = x.records }) next.at) t ≡ read_command letters s at used tape
    call_known y e =
        let there = e ∙ is_known in
        let value : command_of y ≡ read-call.value = cc in
        rw value (sym read-call.read)

    pub call_there : (o : Option CodeCommand) → command_of_known o ≡ command_with x.class x.method w → IsSome o
    call_there (Some y) e = refl
    call_there None e = let there = e ∙ is_known in let z : ◌≡◌ {A = ℕ} 0 1 = cc in absurd (omega arith)

  pub header_made : (x : HeaderRead) (next : Cursor) (w t before : List ℕ) (y : Header Pooled)
      → words_outcome (answer_of_header_words (Ok (x, next)) w) w t ≡ in_words header_words (λ x. x.words) before (read_header letters s at used tape)
      → y ≡ header_with x.class x.body_size (x.present % 8192) w
      → outcome (given (record { value = y; count = x.records }) next.at) t ≡ read_header letters s at used tape
  header_made h next w t before y e made =
      let x = read-too header_words (λ x. x.words) before (read_header letters s at used tape) (record { class = h.class; body_size = h.body_size; present = h.present; words = w }) h.records next.at w t e in
      let value : y ≡ x.value
      = made ∙ ap (λ (v : HeaderWords). header_with v.class v.body_size (v.present % 8192) v.words) x.made ∙ read-header-kept x.value h.records next.at t x.read in
      rw value (sym x.read)
