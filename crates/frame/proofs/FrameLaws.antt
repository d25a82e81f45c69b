-- A frame is read back as it was written, and cut short it is Truncated.
use mathlib.Core.Path.{◌≡◌, refl, sym, ap, ◌∙◌}
use mathlib.Core.Bool.{Bool, true, false, cond}
use mathlib.Core.List.{List, [], ◌∷◌, ◌++◌}
use Prim.Native.Nat.{ℕ, zero, ◌+◌, ◌-◌, ◌^◌, ◌%◌, ◌≤◌, ◌<◌}
use native.Mathlib.Omega.{arith}
use native.Mathlib.Nat.{add-zero}
use lib.ListN.{length, take, get_or, length-append}
use lib.Seq.{length-take-le}
use lib.Dec.{leb, ltb, eqb}
use Rattle.types.specs.Answer.{Answer, given, refused, truncated, not_written, unsupported_field_type, tape_full, and_then, need}
use Rattle.types.specs.Octets.{number_at, octets}
use Rattle.types.specs.declared.Span.{Span}
use Rattle.types.proofs.Tests.{leb_yes, leb_no, yes_leb, decide}
use Rattle.types.proofs.Standing.{Stands, Cut, stands-left, stands-right, cut-split, stands-within}
use Rattle.types.proofs.Chain.{then-go, need-given, given-next, given-value}
use Rattle.types.proofs.RoundTrip.{stands-octet, number-value}
use Rattle.tables.specs.Letters.{Letters}
use Rattle.tables.specs.Tape.{WithTape}
use Rattle.method.specs.Fields.{Meaning, Located, Pooled}
use Rattle.method.specs.Reading.{command_at, header_at}
use Rattle.method.proofs.Bounds.{command-within, header-within}
use Rattle.method.proofs.MethodLaws.{FitCommand, FitHeader, place_command, place_header, command-here, header-here, command-size, header-size, command-meaning, header-meaning}
use Rattle.frame.specs.Frame.{is_frame_type, frame_end, Frame, frame_at, decode_at, frame_octets}
use Rattle.frame.specs.Step.{Payload, command, header, body, heartbeat, FrameOf, payload_with_tape, payload_at, frame_with_payload_at, step_at, walk_step_at, frame_payload_meaning, frame_meaning}
use Rattle.frame.specs.Writing.{FrameMeaning, type_of, frame_payload_octets, octets_of_meaning}
use Rattle.frame.specs.Senders.{values_of}

-- an octet that is written is there
octet-here : {s : List ℕ} {p : ℕ} (n : ℕ) → n < 256 → Stands s p (octets 1 n) → get_or s p 0 ≡ n
octet-here n h st = stands-octet (n % 256) st ∙ omega arith

-- Decoding

-- what a frame that is decoded says
pub record Decoded (s : List ℕ) (p : ℕ) (f : Frame) (n : ℕ) : Type 0 where
  pub start : f.payload.start ≡ p + 7
  pub past : n ≡ p + f.payload.len + 8
  pub inside : n ≤ length s
  pub known : is_frame_type f.type ≡ true

pub decode-read : (s : List ℕ) (p : ℕ) (f : Frame) (n : ℕ) → decode_at s p ≡ given f n → Decoded s p f n
unfolding decode_at frame_at
decode-read s p f n e =
    let a = need-given (leb (p + 7) (length s)) _ _ f n e in
    let b = need-given (is_frame_type (get_or s p 0)) _ _ f n a.1 in
    let m = number_at 4 s (p + 3) in
    let c = need-given (leb (p + m + 8) (length s)) _ _ f n b.1 in
    let d = need-given (eqb (get_or s (p + 7 + m) 0) frame_end) _ _ f n c.1 in
    let k = given-next _ f (p + m + 8) n d.1 in
    let w = given-value _ f (p + m + 8) n d.1 in
    rw (← w) (record { start = refl; past = sym k; inside = omega (arith, yes_leb (p + m + 8) (length s) c.0); known = b.0 })

-- the parts of a frame, where they stand
record Parts (s : List ℕ) (p t ch : ℕ) (P : List ℕ) : Type 0 where
  kind : Stands s p (octets 1 t)
  channel : Stands s (p + 1) (octets 2 ch)
  size : Stands s (p + 3) (octets 4 (length P))
  payload : Stands s (p + 7) P
  end : Stands s (p + 7 + length P) (frame_end ∷ [])

parts : {s : List ℕ} {p : ℕ} (t ch : ℕ) (P : List ℕ) → Stands s p (frame_octets t ch P) → Parts s p t ch P
unfolding frame_octets
parts {s} {p} t ch P h =
    let T = octets 1 t in
    let C = octets 2 ch in
    let S = octets 4 (length P) in
    let E = frame_end ∷ [] in
    let e3 : p + 1 + 2 ≡ p + 3 = omega arith in
    let e7 : p + 3 + 4 ≡ p + 7 = omega arith in
    let g1 : Stands s (p + 1) (C ++ (S ++ (P ++ E))) = stands-right T (C ++ (S ++ (P ++ E))) h in
    let g2 : Stands s (p + 3) (S ++ (P ++ E)) = rw e3 at (stands-right C (S ++ (P ++ E)) g1) in
    let g3 : Stands s (p + 7) (P ++ E) = rw e7 at (stands-right S (P ++ E) g2) in
    record {
      kind = stands-left T (C ++ (S ++ (P ++ E))) h;
      channel = stands-left C (S ++ (P ++ E)) g1;
      size = stands-left S (P ++ E) g2;
      payload = stands-left P E g3;
      end = stands-right P E g3;
    }

pub frame-length : (t ch : ℕ) (P : List ℕ) → length (frame_octets t ch P) ≡ length P + 8
unfolding frame_octets
frame-length t ch P = omega (arith, length-append P (frame_end ∷ []))

unfoldable pub place_decoded : ℕ → ℕ → ℕ → ℕ → Frame
place_decoded p t ch n = record { type = t; channel = ch; payload = record { start = p + 7; len = n } }

pub decode-here : {s : List ℕ} {p : ℕ} (t ch : ℕ) (P : List ℕ) → t < 256 → is_frame_type t ≡ true → ch < 256 ^ 2 → length P < 256 ^ 4 → Stands s p (frame_octets t ch P)
    → decode_at s p ≡ given (place_decoded p t ch (length P)) (p + length (frame_octets t ch P))
unfolding decode_at frame_at place_decoded
decode-here {s} {p} t ch P ht hk hc hl h =
    let q = parts t ch P h in
    let l = frame-length t ch P in
    let f = h.fits in
    rw (
      leb_yes (p + 7) (length s) (omega arith),
      octet-here t ht q.kind,
      hk,
      number-value 4 (length P) hl q.size,
      leb_yes (p + length P + 8) (length s) (omega arith),
      stands-octet frame_end q.end,
      number-value 2 ch hc q.channel,
    )
    (ap (given (record { type = t; channel = ch; payload = record { start = p + 7; len = length P } })) (omega arith))

pub decode-cut : {s : List ℕ} {p : ℕ} (t ch : ℕ) (P : List ℕ) → t < 256 → is_frame_type t ≡ true → length P < 256 ^ 4 → Cut s p (frame_octets t ch P) → decode_at s p ≡ refused truncated
unfolding decode_at frame_at frame_octets
decode-cut {s} {p} t ch P ht hk hl h =
    let T = octets 1 t in
    let C = octets 2 ch in
    let S = octets 4 (length P) in
    let E = frame_end ∷ [] in
    let e3 : p + 1 + 2 ≡ p + 3 = omega arith in
    decide (leb (p + 7) (length s))
    (λ y.
    let seven = yes_leb (p + 7) (length s) y in
    cut-split T (C ++ (S ++ (P ++ E))) h
    (λ b. absurd (omega (arith, b.less)))
    (λ b1 c1.
    cut-split C (S ++ (P ++ E)) c1
    (λ b. absurd (omega (arith, b.less)))
    (λ b2 c2.
    cut-split S (P ++ E) c2
    (λ b. absurd (omega (arith, b.less)))
    (λ b3 c3.
    let g : Stands s (p + 3) S = rw e3 at b3 in
    rw (
      y,
      octet-here t ht b1,
      hk,
      number-value 4 (length P) hl g,
      leb_no (p + length P + 8) (length s) (omega (arith, c3.less, length-append P E)),
    )))))
    (λ n. rw n)

-- The payload

module _ (letters : Letters) where
  abbrev pub FitPayload : Payload Meaning (List ℕ) → Type 0
  FitPayload (command x) = FitCommand letters x
  FitPayload (header x) = FitHeader letters x
  FitPayload (body xs) = Unit {0}
  FitPayload heartbeat = Unit {0}

  abbrev pub FitFrame : FrameMeaning → Type 0
  FitFrame f = (f.channel < 256 ^ 2) × FitPayload f.payload × (length (frame_payload_octets letters f.payload) < 256 ^ 4)

  unfoldable pub place_payload : ℕ → Payload Meaning (List ℕ) → Payload Located Span
  place_payload p (command x) = command (place_command letters p x)
  place_payload p (header x) = header (place_header letters p x)
  place_payload p (body xs) = body (record { start = p; len = length xs })
  place_payload p heartbeat = heartbeat

  pub payload-here : {s : List ℕ} {p : ℕ} (x : Payload Meaning (List ℕ)) (room : ℕ) → FitPayload x → values_of x ≤ room → Stands s p (frame_payload_octets letters x)
      → length s ≡ p + length (frame_payload_octets letters x) → payload_at letters (type_of x) s p room ≡ given (place_payload p x) (p + length (frame_payload_octets letters x))
  unfolding payload_at frame_payload_octets place_payload
  payload-here (command x) room f k h l = rw (command-here letters x room f k h l)
  payload-here (header x) room f k h l = rw (header-here letters x room f k h)
  payload-here {s} {p} (body xs) room f k h l = let e : length s - p ≡ length xs = omega arith in rw (e, l)
  payload-here {s} {p} heartbeat room f k h l = rw (leb_yes (length s) p (omega arith), add-zero p)

  pub payload-size : (x : Payload Meaning (List ℕ)) (ch p : ℕ) → length (payload_with_tape ch (place_payload p x)).tape ≡ values_of x
  unfolding place_payload
  payload-size (command x) ch p = command-size letters x p
  payload-size (header x) ch p = header-size letters x p
  payload-size (body xs) ch p = refl
  payload-size heartbeat ch p = refl

  pub payload-meaning : {s : List ℕ} {p : ℕ} (x : Payload Meaning (List ℕ)) (ch : ℕ) → FitPayload x → Stands s p (frame_payload_octets letters x)
      → frame_payload_meaning letters s (payload_with_tape ch (place_payload p x)).value.payload (payload_with_tape ch (place_payload p x)).tape ≡ x
  unfolding place_payload frame_payload_octets
  payload-meaning (command x) ch f h = ap (λ y. command y) (command-meaning letters x f h)
  payload-meaning (header x) ch f h = ap (λ y. header y) (header-meaning letters x f h)
  payload-meaning (body xs) ch f h = ap (λ y. body y) h.same
  payload-meaning heartbeat ch f h = refl

  channel-returned : (x : Payload Located Span) (ch : ℕ) → (payload_with_tape ch x).value.channel ≡ ch
  channel-returned (command x) ch = refl
  channel-returned (header x) ch = refl
  channel-returned (body xs) ch = refl
  channel-returned heartbeat ch = refl

  type-known : (x : Payload Meaning (List ℕ)) → is_frame_type (type_of x) ≡ true
  type-known (command x) = refl
  type-known (header x) = refl
  type-known (body xs) = refl
  type-known heartbeat = refl

  type-octet : (x : Payload Meaning (List ℕ)) → type_of x < 256
  type-octet (command x) = omega arith
  type-octet (header x) = omega arith
  type-octet (body xs) = omega arith
  type-octet heartbeat = omega arith

  -- The walk's step

  unfoldable pub place_frame : ℕ → FrameMeaning → WithTape (FrameOf Pooled Span)
  place_frame p f = payload_with_tape f.channel (place_payload (p + 7) f.payload)

  pub step-here : {s : List ℕ} {p : ℕ} (f : FrameMeaning) (slots room : ℕ) → FitFrame f → zero < slots → values_of f.payload ≤ room → Stands s p (octets_of_meaning letters f)
      → walk_step_at letters s p slots room ≡ given (place_frame p f) (p + length (octets_of_meaning letters f))
  unfolding walk_step_at frame_with_payload_at place_decoded place_frame
  step-here {s} {p} f slots room a hs hv h =
      let P = frame_payload_octets letters f.payload in
      let q = parts (type_of f.payload) f.channel P h in
      rw (
        decode-here (type_of f.payload) f.channel P (type-octet f.payload) (type-known f.payload) a.0 a.2 h,
        leb_yes 1 slots hs,
        payload-here f.payload room a.1 hv (stands-within P q.payload) (length-take-le (p + 7 + length P) s q.payload.fits),
      )

  pub step_cut : {s : List ℕ} {p : ℕ} (f : FrameMeaning) (slots room : ℕ) → FitFrame f → Cut s p (octets_of_meaning letters f) → walk_step_at letters s p slots room ≡ refused truncated
  unfolding walk_step_at
  step_cut f slots room a c =
      rw (decode-cut (type_of f.payload) f.channel (frame_payload_octets letters f.payload) (type-octet f.payload) (type-known f.payload) a.2 c)

  pub frame-meaning : {s : List ℕ} {p : ℕ} (f : FrameMeaning) → FitFrame f → Stands s p (octets_of_meaning letters f)
      → frame_meaning letters s (place_frame p f).value (place_frame p f).tape ≡ f
  unfolding place_frame
  frame-meaning {s} {p} f a h =
      let P = frame_payload_octets letters f.payload in
      let q = parts (type_of f.payload) f.channel P h in
      let e = payload-meaning f.payload f.channel a.1 q.payload in
      let c = channel-returned (place_payload (p + 7) f.payload) f.channel in
      λ i. record { channel = c i; payload = e i }

  -- where it ends: it consumes 8 octets at least, within the octets
  pub step_move : (s : List ℕ) (p slots room : ℕ) (x : WithTape (FrameOf Pooled Span)) (n : ℕ) → walk_step_at letters s p slots room ≡ given x n → (p + 8 ≤ n) × (n ≤ length s) × (zero < slots)
  unfolding walk_step_at frame_with_payload_at
  step_move s p slots room x n e =
      then-go (decode_at s p) _ x n e
      (λ f m e1 h1.
      let o = need-given (ltb 0 slots) _ _ x n h1 in
      then-go (payload_at letters f.type (take (f.payload.start + f.payload.len) s) f.payload.start room) _ x n o.1
      (λ y q e2 h2.
      let k = given-next _ x m n h2 in
      let d = decode-read s p f m e1 in
      (omega (arith, d.past), omega (arith, d.inside), yes_leb 1 slots o.0)))

  -- it is the reading step, where a register record is left
  pub walk-step-is : (s : List ℕ) (p slots room : ℕ) → zero < slots → walk_step_at letters s p slots room ≡ step_at letters s p room
  unfolding walk_step_at step_at
  walk-step-is s p slots room h = rw (leb_yes 1 slots h)

  -- where none is left, a frame that is decoded is TapeFull, whatever its payload
  pub register-first : (s : List ℕ) (p room : ℕ) (f : Frame) (next : ℕ) → decode_at s p ≡ given f next → walk_step_at letters s p 0 room ≡ refused tape_full
  unfolding walk_step_at
  register-first s p room f next e = rw e

  -- and its tape records are in the room
  payload-room : (t : ℕ) (s : List ℕ) (p room ch : ℕ) (x : Payload Located Span) (q : ℕ) → payload_at letters t s p room ≡ given x q → length (payload_with_tape ch x).tape ≤ room
  unfolding payload_at
  payload-room t s p room ch x q e = go (eqb t 1) (eqb t 2) (eqb t 3) e
    where
      none_of : (a : Payload Located Span) (n : ℕ) → length (payload_with_tape ch a).tape ≡ 0 → ◌≡◌ {A = Answer (Payload Located Span)} (given a n) (given x q) → length (payload_with_tape ch x).tape ≤ room
      none_of a n z h = let w = given-value a x n q h in rw (← w) (omega arith)

      go : (a b c : Bool)
          → cond a (and_then (command_at letters s p room) (λ x q. given (command x) q))
          (cond b (and_then (header_at letters s p room) (λ x q. given (header x) q))
          (cond c (given (body (record { start = p; len = length s - p })) (length s)) (need (leb (length s) p) (not_written p) (given heartbeat p)))) ≡ given x q
          → length (payload_with_tape ch x).tape ≤ room
      go true b c h =
          then-go (command_at letters s p room) _ x q h
          (λ y r e1 h1. let w = given-value (command y) x r q h1 in rw (← w) (command-within letters s p room y r e1).fits)
      go false true c h =
          then-go (header_at letters s p room) _ x q h
          (λ y r e1 h1. let w = given-value (header y) x r q h1 in rw (← w) (header-within letters s p room y r e1).fits)
      go false false true h = none_of (body (record { start = p; len = length s - p })) (length s) refl h
      go false false false h = none_of heartbeat p refl (need-given (leb (length s) p) _ _ x q h).1

  pub step_room : (s : List ℕ) (p slots room : ℕ) (x : WithTape (FrameOf Pooled Span)) (n : ℕ) → walk_step_at letters s p slots room ≡ given x n → length x.tape ≤ room
  unfolding walk_step_at frame_with_payload_at
  step_room s p slots room x n e =
      then-go (decode_at s p) _ x n e
      (λ f m e1 h1.
      let o = need-given (ltb 0 slots) _ _ x n h1 in
      then-go (payload_at letters f.type (take (f.payload.start + f.payload.len) s) f.payload.start room) _ x n o.1
      (λ y q e2 h2.
      let w = given-value (payload_with_tape f.channel y) x m n h2 in
      rw (← w) (payload-room f.type (take (f.payload.start + f.payload.len) s) f.payload.start room f.channel y q e2)))

-- Decoding, case by case

module _ (s : List ℕ) (p : ℕ) where
  pub decode-short : length s < p + 7 → decode_at s p ≡ refused truncated
  unfolding decode_at
  decode-short h = rw (leb_no (p + 7) (length s) h)

  module _ (seven : p + 7 ≤ length s) where
    pub decode-type : is_frame_type (get_or s p 0) ≡ false → decode_at s p ≡ refused (unsupported_field_type (get_or s p 0))
    unfolding decode_at
    decode-type t = rw (leb_yes (p + 7) (length s) seven, t)

    module _ (known : is_frame_type (get_or s p 0) ≡ true) where
      abbrev n : ℕ
      n = number_at 4 s (p + 3)

      pub decode-part : length s < p + n + 8 → decode_at s p ≡ refused truncated
      unfolding decode_at frame_at
      decode-part h = rw (leb_yes (p + 7) (length s) seven, known, leb_no (p + n + 8) (length s) h)

      module _ (there : p + n + 8 ≤ length s) where
        pub decode-end : eqb (get_or s (p + 7 + n) 0) frame_end ≡ false → decode_at s p ≡ refused (unsupported_field_type (get_or s (p + 7 + n) 0))
        unfolding decode_at frame_at
        decode-end e = rw (leb_yes (p + 7) (length s) seven, known, leb_yes (p + n + 8) (length s) there, e)

        pub decode-given : eqb (get_or s (p + 7 + n) 0) frame_end ≡ true
            → decode_at s p ≡ given (record { type = get_or s p 0; channel = number_at 2 s (p + 1); payload = record { start = p + 7; len = n } }) (p + n + 8)
        unfolding decode_at frame_at
        decode-given e = rw (leb_yes (p + 7) (length s) seven, known, leb_yes (p + n + 8) (length s) there, e)
