-- From what the readers in words leave to what the reading step leaves, in words and as a payload, and to what the walk counts.
use mathlib.Core.Path.{◌≡◌, refl, sym, ap, ◌∙◌}
use mathlib.Core.Logic.{◌⊎◌, inl}
use Rattle.std.specs.Prelude.{Some, Result, Ok, Err}
use Rattle.std.specs.Result.{IsOk}
use mathlib.Core.List.{List, [], ◌∷◌, ◌++◌}
use Prim.Native.Nat.{ℕ, zero, suc, ◌+◌, ◌-◌, ◌%◌, ◌<◌}
use native.Mathlib.Nat.{mod-eq_of_lt}
use native.Mathlib.Omega.{arith}
use lib.Dec.{lit<, leb, eqb}
use lib.ListN.{length, take, drop, length-append, length-drop}
use lib.Seq.{take-append_seam}
use Rattle.types.specs.Answer.{Refusal, Answer, given, refused, not_written}
use Rattle.types.specs.AnswerOf.{or_refusal}
use Rattle.types.specs.declared.WireError.{WireError}
use Rattle.types.specs.Memory.{Outcome, outcome}
use Rattle.types.specs.declared.Span.{Span}
use Rattle.types.proofs.Chain.{then-go, need-given, given-value}
use Rattle.types.proofs.NumberLaws.{Octets}
use Rattle.types.proofs.Tests.{decide}
use Rattle.tables.specs.Letters.{Letters}
use Rattle.tables.specs.Tape.{WithTape, WithCount, room_of, records_only}
use Rattle.method.specs.Fields.{Located, Pooled}
use Rattle.method.specs.Commands.{fields_of, Command, call}
use Rattle.method.specs.Properties.{Header}
use Rattle.method.specs.Reading.{command_at, header_at, command_with_tape, header_with_tape}
use Rattle.method.specs.Layout.{zeros}
use Rattle.method.specs.Words.{args_words}
use Rattle.method.proofs.LayoutLaws.{command-widths}
use Rattle.method.proofs.WordLaws.{length-words}
use Rattle.method_words.specs.Words.{call_of, header_words, command_with, header_with}
use Rattle.method_words.specs.InWords.{WordsOutcome, words_outcome, in_words}
use Rattle.method_words.proofs.InWordsLaws.{refused-too, ReadToo, read-too}
use Rattle.method_reader.proofs.KeptLaws.{filled-value, command-kept, header-kept}
use Rattle.payload_words.specs.Words.{call_words, content_header_words, payload_words, command_or, payload_from}
use Rattle.frame.specs.Frame.{decode_at}
use Rattle.frame.specs.AnswerOf.{payload_of}
use Rattle.frame.specs.declared.Payload.{Payload as CodePayload}
use Rattle.frame.specs.Step.{Payload, command, header, body, heartbeat, FrameOf, payload_with_tape, payload_at, frame_with_payload_at, step_at, read_frame}
use Rattle.frame_reader.specs.Words.{FrameWords, frame_words, with_channel}
use Rattle.frame_reader.proofs.StepLaws.{framed, records-framed}

-- A payload's words, from those that its reader was lent

module _ {A B : Type 0} (f : A → B) (words put : B → List ℕ) (lent before w t : List ℕ) (o : Outcome (WithCount A)) where
  pub put_refused : (r : Refusal) → words_outcome (refused r) w t ≡ in_words f words lent o → words_outcome (refused r) before t ≡ in_words (λ x. put (f x)) (λ p. p) before o
  put_refused r e = ap (in_words (λ x. put (f x)) (λ p. p) before) (refused-too f words lent o r w t e)

  pub put-read : (b : B) (k n : ℕ) (p : List ℕ) → words_outcome (given (record { value = b; count = k }) n) w t ≡ in_words f words lent o → p ≡ put b
      → words_outcome (given (record { value = p; count = k }) n) p t ≡ in_words (λ x. put (f x)) (λ p. p) before o
  put-read b k n p e h =
      let x = read-too f words lent o b k n w t e in
      rw x.read (ap (λ (p : List ℕ). words_outcome (given (record { value = p; count = k }) n) p t) (h ∙ ap put x.made))

-- The frame, from its payload

pub of-frame : {B : Type 0} {x y : Answer (WithCount B)} {w t : List ℕ} {z : WordsOutcome B} → x ≡ y → words_outcome y w t ≡ z → words_outcome x w t ≡ z
of-frame {w = w} {t = t} e h = ap (λ x. words_outcome x w t) e ∙ h

pub put-framed : (f : FrameOf Pooled Span) (next : ℕ) (before p t : List ℕ) (whole : Outcome (WithCount (FrameOf Pooled Span))) → p ≡ payload_words f.payload
    → outcome (given (record { value = f; count = 0 }) next) t ≡ whole
    → words_outcome (given (record { value = record { channel = f.channel; payload = p }; count = 0 }) next) p t ≡ in_words frame_words (λ x. x.payload) before whole
put-framed f next before p t whole e h =
    ap (λ (p : List ℕ). words_outcome (given (record { value = record { channel = f.channel; payload = p }; count = 0 }) next) p t) e
    ∙ ap (in_words frame_words (λ x. x.payload) before) h

abbrev channelled : ℕ → ℕ → WordsOutcome (List ℕ) → WordsOutcome FrameWords
channelled channel next (words_outcome a w t) = words_outcome (with_channel channel next a) w t

pub framed-words : {A : Type 0} (put : A → List ℕ) (f : A → FrameOf Pooled Span) (channel next : ℕ) (before : List ℕ) (o : Outcome (WithCount A)) {whole : Outcome (WithCount (FrameOf Pooled Span))} {a : Answer (WithCount (List ℕ))} {w t : List ℕ}
    → whole ≡ framed f next o → ((x : A) → frame_words (f x) ≡ record { channel = channel; payload = put x }) → words_outcome a w t ≡ in_words put (λ p. p) before o
    → words_outcome (with_channel channel next a) w t ≡ in_words frame_words (λ x. x.payload) before whole
framed-words put f channel next before o h same e = ap (channelled channel next) e ∙ go o ∙ ap (in_words frame_words (λ x. x.payload) before) (sym h)
  where
    go : (o : Outcome (WithCount _)) → channelled channel next (in_words put (λ p. p) before o) ≡ in_words frame_words (λ x. x.payload) before (framed f next o)
    go (outcome (given x n) m) = ap (λ (y : FrameWords). words_outcome (given (record { value = y; count = x.count }) next) y.payload m) (sym (same x.value))
    go (outcome (refused r) m) = refl

-- The number of records, from a reader in words

abbrev pub counted : {B : Type 0} → WordsOutcome B → Outcome (WithCount Unit)
counted (words_outcome (given x n) w t) = outcome (given (record { value = tt; count = x.count }) n) t
counted (words_outcome (refused r) w t) = outcome (refused r) t

counted_words : {A B : Type 0} (f : A → B) (words : B → List ℕ) (before : List ℕ) (o : Outcome (WithCount A)) → counted (in_words f words before o) ≡ records_only o
counted_words f words before (outcome (given x n) t) = refl
counted_words f words before (outcome (refused r) t) = refl

pub records-counted : {A B C : Type 0} (f : A → B) (words : B → List ℕ) (g : A → C) (next : ℕ) (lent : List ℕ) (o : Outcome (WithCount A)) {a : Answer (WithCount B)} {w t : List ℕ} {whole : Outcome (WithCount C)}
    → whole ≡ framed g next o → words_outcome a w t ≡ in_words f words lent o
    → framed (λ u. u) next (counted (words_outcome a w t)) ≡ records_only whole
records-counted f words g next lent o h e =
    ap (λ y. framed (λ u. u) next (counted y)) e
    ∙ ap (framed (λ u. u) next) (counted_words f words lent o)
    ∙ sym (ap records_only h ∙ records-framed g next o)

-- A payload that was read is made again of its words

octets-taken : (n : ℕ) (s : List ℕ) → Octets s → Octets (take n s)
octets-taken zero s o i = lit< tt
octets-taken (suc n) [] o i = lit< tt
octets-taken (suc n) (x ∷ s) o zero = o 0
octets-taken (suc n) (x ∷ s) o (suc i) = octets-taken n s (λ j. o (suc j)) i

eight-words : (x : Command Pooled) → length (call_of x).words ≡ 8
eight-words (call c m vs) =
    let ws = args_words (fields_of c m) vs in
    omega (arith, length-append ws (drop (length ws) (zeros 8)), length-drop (length ws) (zeros 8), length-words (fields_of c m) vs, command-widths c m)

command-from : (x : Command Pooled) → command_with (call_of x).class (call_of x).method (call_of x).words ≡ Some x
    → payload_from (call_words (call_of x)) ≡ inl (command x)
command-from x e =
    let ws = (call_of x).words in
    let taken : take 8 (ws ++ zeros 15) ≡ ws = rw (eight-words x) at (take-append_seam ws (zeros 15)) in
    ap (λ (l : List ℕ). command_or (call_of x).class (call_of x).method (command_with (call_of x).class (call_of x).method l)) taken
    ∙ ap (command_or (call_of x).class (call_of x).method) e

header-from : (x : Header Pooled) → (header_words x).class < 65536
    → header_with (header_words x).class (header_words x).body_size ((header_words x).present % 8192) (header_words x).words ≡ x
    → payload_from (content_header_words (header_words x)) ≡ inl (header x)
header-from x small e =
    ap (λ (c : ℕ). inl (header (header_with c (header_words x).body_size ((header_words x).present % 8192) (header_words x).words))) (mod-eq_of_lt small)
    ∙ ap (λ y. inl (header y)) e

abbrev Kept : Payload Pooled Span → Type 0
Kept x = payload_from (payload_words x) ≡ inl x

payload-kept : (letters : Letters) (type : ℕ) (s : List ℕ) (p room : ℕ) (x : Payload Located Span) (q channel : ℕ) → Octets s → payload_at letters type s p room ≡ given x q
    → Kept (payload_with_tape channel x).value.payload
unfolding payload_at
payload-kept letters type s p room x q channel o e =
    decide (eqb type 1)
    (λ y.
    then-go (command_at letters s p room) _ x q (rw y at e)
    (λ z r e1 h1. rw (← (given-value _ _ r q h1)) (command-from (command_with_tape z).value (command-kept letters s p room o z r e1))))
    (λ n1.
    decide (eqb type 2)
    (λ y.
    then-go (header_at letters s p room) _ x q (rw (n1, y) at e)
    (λ z r e1 h1.
    let kept = header-kept letters s p room o z r e1 in
    rw (← (given-value _ _ r q h1)) (header-from (header_with_tape z).value kept.0 kept.1)))
    (λ n2.
    decide (eqb type 3)
    (λ y.
    let same : body (record { start = p; len = length s - p }) ≡ x = given-value _ _ (length s) q (rw (n1, n2, y) at e) in
    rw (← same) refl)
    (λ n3.
    let same : heartbeat ≡ x = given-value _ _ p q (need-given (leb (length s) p) (not_written p) (given heartbeat p) x q (rw (n1, n2, n3) at e)).1 in
    rw (← same) refl)))

frame-kept : (letters : Letters) (s : List ℕ) (at used : ℕ) (tape : List ℕ) → Octets s → (x : FrameOf Pooled Span) (k n : ℕ) (memory : List ℕ)
    → read_frame letters s at used tape ≡ outcome (given (record { value = x; count = k }) n) memory → Kept x.payload
unfolding read_frame step_at frame_with_payload_at
frame-kept letters s at used tape o x k n memory e =
    filled-value used tape (step_at letters s at (room_of used tape)) x k n memory e
    (λ y e1 h1.
    then-go (decode_at s at) _ y n e1
    (λ f m e2 h2.
    let end = f.payload.start + f.payload.len in
    then-go (payload_at letters f.type (take end s) f.payload.start (room_of used tape)) _ y n h2
    (λ z q e3 h3.
    let same : (payload_with_tape f.channel z).value ≡ x = ap (λ (v : WithTape (FrameOf Pooled Span)). v.value) (given-value _ _ m n h3) ∙ h1 in
    rw (← same) (payload-kept letters f.type (take end s) f.payload.start (room_of used tape) z q f.channel (octets-taken end s o) e3))))

-- the step, from the step in words

module _ (letters : Letters) (s : List ℕ) (at used : ℕ) (tape w t before : List ℕ) (channel k n : ℕ)
    (h : words_outcome (given (record { value = record { channel = channel; payload = w }; count = k }) n) w t ≡ in_words frame_words (λ x. x.payload) before (read_frame letters s at used tape)) (o : Octets s) where
  read : ReadToo frame_words (read_frame letters s at used tape) (record { channel = channel; payload = w }) k n t
  read = read-too frame_words (λ x. x.payload) before (read_frame letters s at used tape) (record { channel = channel; payload = w }) k n w t h

  words : w ≡ payload_words read.value.payload
  words = ap (λ (x : FrameWords). x.payload) read.made

  is-payload : {p : Payload Pooled Span ⊎ Refusal} → p ≡ payload_from w → p ≡ inl read.value.payload
  is-payload made = made ∙ ap payload_from words ∙ frame-kept letters s at used tape o read.value k n t read.read

  pub frame_made : {y : Payload Pooled Span} → inl y ≡ payload_from w
      → outcome (given (record { value = record { channel = channel; payload = y }; count = k }) n) t ≡ read_frame letters s at used tape
  frame_made {y} made =
      let there = is-payload made in
      let value : y ≡ read.value.payload = cc in
      let on : channel ≡ read.value.channel = ap (λ (x : FrameWords). x.channel) read.made in
      ap (λ (x : Payload Pooled Span). outcome (given (record { value = record { channel = channel; payload = x }; count = k }) n) t) value
      ∙ ap (λ (c : ℕ). outcome (given (record { value = record { channel = c; payload = read.value.payload }; count = k }) n) t) on
      ∙ sym read.read

  pub frame_there : (r : Result CodePayload WireError) → or_refusal payload_of r ≡ payload_from w → IsOk r
  frame_there (Ok y) made = refl
  frame_there (Err e) made = let there = is-payload made in let z : ◌≡◌ {A = ℕ} 0 1 = cc in absurd (omega arith)
