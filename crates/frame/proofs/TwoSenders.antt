-- The theorem of the two senders holds of any two lists of frames that the writers accept: document 01, "frame.rs: frames and the walk".
use mathlib.Core.Path.{◌≡◌, refl, sym, ap, ◌∙◌}
use Rattle.std.specs.Prelude.{None, Some}
use mathlib.Core.List.{List, [], ◌∷◌, map-map, append-nil, IsPrefix}
use Prim.Native.Nat.{ℕ, zero, suc, ◌+◌, ◌≤◌}
use native.Mathlib.Omega.{arith}
use lib.ListN.{length, take, drop, take-append-drop}
use lib.Seq.{length-take-le, take_all}
use lib.Dec.{leb}
use Rattle.types.specs.Answer.{too_long}
use Rattle.types.specs.Strings.{judge_length}
use Rattle.types.specs.Memory.{splice}
use Rattle.types.specs.Records.{RecordFormat, concat_map, first_records, record_count, records}
use Rattle.types.specs.declared.Span.{Span}
use Rattle.types.proofs.Splice.{splice-length}
use Rattle.types.proofs.Tests.{yes_leb}
use Rattle.types.proofs.Chain.{test-none, or_else-none}
use Rattle.tables.specs.Letters.{Letters, errata}
use Rattle.tables.specs.Tape.{Record, tape_records}
use Rattle.tables.proofs.JudgeLaws.{Octets}
use Rattle.tables.proofs.TapeLaws.{length-concat_map, held}
use Rattle.method.specs.Fields.{Pooled}
use Rattle.method.proofs.MethodLaws.{command-fit, header-fit}
use Rattle.frame.specs.Step.{Payload, command, header, body, heartbeat, FrameOf, walk_step_at}
use Rattle.frame.specs.Walk.{Entry, register_records, walk_from, walk, meaning_at, list_at, returned}
use Rattle.frame.specs.Writing.{SentFrame, FrameMeaning, type_of, sent_payload_meaning, sent_frame_meaning, frame_payload_octets, octets_of_meaning, octets_of_frame, payload_refusal, frame_refusal}
use Rattle.frame.specs.Senders.{values_of, Typed, NoNul, All, Accepted, octets, ending_by, values_in, AtCut, TwoSenders}
use Rattle.frame.proofs.ListLaws as list
use Rattle.frame.proofs.ListLaws.{Framing, Laws, two-lists, at-prefix, up_to-all}
use Rattle.frame.proofs.FrameLaws.{FitPayload, FitFrame, place_frame, frame-length, payload-size, step-here, step_cut, frame-meaning, walk-step-is}

first-all : {R : Type 0} (C : RecordFormat R) (n : ℕ) (ws : List ℕ) → length (first_records C n ws) ≡ n
unfolding first_records
first-all C zero ws = refl
first-all C (suc n) ws = ap suc (first-all C n (drop C.size ws))

module _ (letters : Letters) (octet : Octets letters) where
  payload-fit : (pool tape : List ℕ) (x : Payload Pooled Span) → Typed x → payload_refusal letters pool tape x ≡ None → NoNul (sent_payload_meaning letters pool tape x)
      → FitPayload letters (sent_payload_meaning letters pool tape x)
  payload-fit pool tape (command x) t e z = command-fit letters octet pool tape x t e z
  payload-fit pool tape (header x) t e z = header-fit letters octet pool tape x t e
  payload-fit pool tape (body v) t e z = tt
  payload-fit pool tape heartbeat t e z = tt

  accepted-fit : (f : SentFrame) → Accepted letters f → FitFrame letters (sent_frame_meaning letters f)
  unfolding frame_refusal
  accepted-fit f a =
      let P = length (frame_payload_octets letters (sent_frame_meaning letters f).payload) in
      let b = or_else-none (payload_refusal letters f.pool f.tape f.payload) (judge_length P) a.passes in
      let l = yes_leb P 4294967295 (test-none (leb P 4294967295) too_long None b.1).0 in
      (a.channel, payload-fit f.pool f.tape f.payload a.typed b.0 a.no_nul, omega arith)

  -- the senders' frames, and that they meet the laws
  sent : Framing SentFrame (FrameOf Pooled Span) FrameMeaning
  sent =
      record {
        Accepted = Accepted letters;
        octets_of = octets_of_frame letters;
        meaning = sent_frame_meaning letters;
        cost = λ f. values_of (sent_frame_meaning letters f).payload;
        step = walk_step_at letters;
        view = meaning_at letters;
      }

  sent-laws : Laws sent
  unfolding sent place_frame
  sent-laws =
      record {
        frame = λ p used f. (place_frame letters p (sent_frame_meaning letters f)).value;
        recs = λ p f. (place_frame letters p (sent_frame_meaning letters f)).tape;
        some-octet = λ f. omega (arith, frame-length (type_of (sent_frame_meaning letters f).payload) f.channel (frame_payload_octets letters (sent_frame_meaning letters f).payload));
        same = λ f g e. ap (octets_of_meaning letters) e;
        costs = λ p f. payload-size letters (sent_frame_meaning letters f).payload f.channel (p + 7);
        reads = λ f a s p slots room used h hs hv. step-here letters (sent_frame_meaning letters f) slots room (accepted-fit f a) hs hv h;
        views = λ f a s p used h. ap Some (frame-meaning letters (sent_frame_meaning letters f) (accepted-fit f a) h);
        stops = λ f a s p slots room used c. step_cut letters (sent_frame_meaning letters f) slots room (accepted-fit f a) c;
      }

  -- the list returned is the generic one
  list-is : (s : List ℕ) (tape : List Record) (es : List Entry) → list_at letters s tape es ≡ list.returned sent s tape es
  unfolding list.returned sent
  list-is s tape [] = refl
  list-is s tape (e ∷ es) = rw (walk-step-is letters s e.first 1 e.own (omega arith), list-is s tape es)

  at-octets : (xs : List SentFrame) → All (Accepted letters) xs → (s : List ℕ) → IsPrefix s (octets letters xs) → (tape register : List ℕ)
      → length (ending_by letters (length s) xs) ≤ record_count register_records register → values_in letters (ending_by letters (length s) xs) ≤ record_count tape_records tape
      → AtCut letters (length s) (ending_by letters (length s) xs) s (walk letters s tape register)
  unfolding sent walk returned
  at-octets xs ax s e tape register hr ht =
      let w = walk_from (walk_step_at letters) (length s) s 0 (record_count register_records register) (record_count tape_records tape) 0 in
      let claim = at-prefix sent sent-laws xs ax s e (record_count register_records register) (record_count tape_records tape) hr ht in
      let a = claim w.register w.tape ([], append-nil w.register) ([], append-nil w.tape) in
      let tape-fits : length w.tape ≤ record_count tape_records tape = omega (arith, a.records) in
      let tw = concat_map tape_records.words w.tape in
      let rw' = concat_map register_records.words w.register in
      let room : length tw ≤ length tape = omega (arith, length-concat_map tape_records (λ r. refl) w.tape) in
      let same-tape : length (splice 0 tw tape) ≡ length tape = splice-length 0 tw [] tape (omega arith) in
      let slots : length w.register ≤ length w.register = omega arith in
      let es = first_records register_records (length w.register) (splice 0 rw' register) in
      let rs = records tape_records (splice 0 tw tape) in
      let b =
      claim es rs (held register_records (λ r. refl) (λ r. refl) w.register register (length w.register) slots)
      (held tape_records (λ r. refl) (λ r. refl) w.tape tape (record_count tape_records (splice 0 tw tape)) (rw same-tape tape-fits)) in
      let all : take (length w.register) es ≡ es = take_all (length w.register) es (omega (arith, first-all register_records (length w.register) (splice 0 rw' register))) in
      record {
        list = list-is s rs es ∙ sym (ap (list.returned sent s rs) all) ∙ b.gives ∙ sym (map-map Some (sent_frame_meaning letters) (ending_by letters (length s) xs));
        frames = a.frames;
        consumed = a.consumed;
        refusal = a.refusal;
      }

  pub two-senders : (xs ys : List SentFrame) → All (Accepted letters) xs → All (Accepted letters) ys → TwoSenders letters xs ys
  unfolding sent
  two-senders xs ys ax ay =
      let two = two-lists sent sent-laws xs ys ax ay in
      record {
        same = two.0;
        begins = two.1;
        cut =
            λ n h tape register hr ht.
            let o = octets letters xs in
            let l : length (take n o) ≡ n = length-take-le n o h in
            let claim = at-octets xs ax (take n o) (drop n o, take-append-drop n o) tape register in
            rw l at claim hr ht;
        uncut = up_to-all sent sent-laws xs 0 (length (octets letters xs)) (omega arith);
      }

-- with the errata letters
pub errata-octets : Octets errata
errata-octets = omega arith

pub two-senders-errata : (xs ys : List SentFrame) → All (Accepted errata) xs → All (Accepted errata) ys → TwoSenders errata xs ys
two-senders-errata = two-senders errata errata-octets
