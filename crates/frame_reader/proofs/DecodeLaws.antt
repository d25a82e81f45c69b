-- From what the code reads of a frame to what the decoder answers.
use mathlib.Core.Path.{◌≡◌, refl, sym, ap, ◌∙◌}
use mathlib.Core.Bool.{true, false}
use Rattle.std.specs.Prelude.{Option, None, Some}
use mathlib.Core.List.{List}
use Prim.Native.Nat.{ℕ, ◌+◌, ◌≤◌, ◌<◌}
use native.Mathlib.Omega.{arith}
use borrow.Author.Tests.{eq-eqb, ne_eqb, lt-leb}
use lib.Dec.{leb}
use lib.ListN.{length, get_or}
use Rattle.types.specs.Answer.{Refusal, Answer, given, refused, truncated, unsupported_field_type}
use Rattle.types.specs.Octets.{number_at, uint_at}
use Rattle.types.specs.Strings.{span_at}
use Rattle.types.specs.declared.Span.{Span}
use Rattle.types.proofs.NumberLaws.{uint_at-read, uint_at-short}
use Rattle.types.proofs.StringLaws.{span_at-read}
use Rattle.types.proofs.Tests.{decide, no_leb}
use Rattle.frame.specs.Frame.{is_frame_type, known_type, decode_at}
use Rattle.frame.specs.AnswerOf.{type_octet}
use Rattle.frame.specs.declared.FrameType.{FrameType}
use Rattle.frame.specs.declared.FrameType.TheVariants.{Method, Header, Body, Heartbeat}
use Rattle.frame.proofs.FrameLaws.{decode-short, decode-type, decode-part, decode-end, decode-given}

-- an octet is a frame type where one is known
type-known : (t v : ℕ) → Some t ≡ known_type v → t ≡ v
type-known t v e =
    decide (is_frame_type v) (λ y. let k : Some t ≡ Some v = rw y at e in cc)
    (λ n. let k : ◌≡◌ {A = Option ℕ} (Some t) None = rw n at e in let z : ◌≡◌ {A = ℕ} 0 1 = cc in absurd (omega arith))

type-unknown : (v : ℕ) → None ≡ known_type v → is_frame_type v ≡ false
type-unknown v e =
    decide (is_frame_type v) (λ y. let k : ◌≡◌ {A = Option ℕ} None (Some v) = rw y at e in let z : ◌≡◌ {A = ℕ} 0 1 = cc in absurd (omega arith)) (λ n. n)

type-octet : (t : FrameType) → is_frame_type (type_octet t) ≡ true
type-octet Method = refl
type-octet Header = refl
type-octet Body = refl
type-octet Heartbeat = refl

-- what is refused for want of octets, whatever is read

truncation : {A B : Type 0} {r : Refusal} → ◌≡◌ {A = Answer A} (refused r) (refused truncated) → ◌≡◌ {A = Answer B} (refused r) (refused truncated)
truncation {r = r} e = let same : r ≡ truncated = cc in ap refused same

uint_at-truncated : (k : ℕ) (s : List ℕ) (at : ℕ) → length s < at + k → uint_at k s at ≡ refused truncated
unfolding uint_at
uint_at-truncated k s at h = rw (lt-leb _ _ h)

span_at-truncated : (n : ℕ) (s : List ℕ) (at : ℕ) → length s < at + n → span_at n s at ≡ refused truncated
unfolding span_at
span_at-truncated n s at h = rw (lt-leb _ _ h)

span-short : (n : ℕ) (s : List ℕ) (p : ℕ) {r : Refusal} → refused r ≡ span_at n s p → length s < p + n
unfolding span_at
span-short n s p {r} e =
    decide (leb (p + n) (length s))
    (λ y. let h : refused r ≡ given (record { start = p; len = n }) (p + n) = rw y at e in let z : ◌≡◌ {A = ℕ} 0 1 = cc in absurd (omega arith))
    (λ y. no_leb (p + n) (length s) y)

module _ (s : List ℕ) (at : ℕ) where
  pub front-short : {r : Refusal} → refused r ≡ span_at 7 s at → refused r ≡ decode_at s at
  front-short e =
      let h = span-short 7 s at e in
      truncation (e ∙ span_at-truncated 7 s at h) ∙ sym (decode-short s at h)

  module _ {v : Span} {q : ℕ} (there : given v q ≡ span_at 7 s at) where
    seven : at + 7 ≤ length s
    seven = (span_at-read 7 s at there).within

    -- of seven octets that are there none is missing
    pub not-short : {G : Type 0} (k p : ℕ) {r : Refusal} → p + k ≤ at + 7 → refused r ≡ uint_at k s p → G
    not-short k p h e = absurd (omega (arith, uint_at-short k s p e, seven))

    module _ {octet behind : ℕ} (read : given octet behind ≡ uint_at 1 s at) where
      octet_is : octet ≡ get_or s at 0
      unfolding number_at
      octet_is =
          let n = (uint_at-read 1 s at read).number in
          let same : get_or s (at + 0) 0 ≡ get_or s at 0 = ap (λ (i : ℕ). get_or s i 0) (omega arith) in
          omega arith

      pub type-refused : None ≡ known_type octet → refused (unsupported_field_type octet) ≡ decode_at s at
      type-refused e = rw octet_is (sym (decode-type s at seven (type-unknown (get_or s at 0) (rw octet_is at e))))

-- Seven octets in front of a payload
pub record Front (s : List ℕ) (at : ℕ) (t : FrameType) (channel n start : ℕ) : Type 0 where
  pub seven : at + 7 ≤ length s
  pub type : type_octet t ≡ get_or s at 0
  pub number : channel ≡ number_at 2 s (at + 1)
  pub size : n ≡ number_at 4 s (at + 3)
  pub behind : start ≡ at + 7

pub front : (s : List ℕ) (at : ℕ) {t : FrameType} {v : Span} {q octet behind channel after n start : ℕ} → given v q ≡ span_at 7 s at → given octet behind ≡ uint_at 1 s at → Some (type_octet t) ≡ known_type octet
    → given channel after ≡ uint_at 2 s behind → given n start ≡ uint_at 4 s after → Front s at t channel n start
front s at {t} {v} {q} {octet} {behind} {channel} {after} {n} {start} there read known channel-read size-read =
    let a = (uint_at-read 1 s at read).past in
    let b = (uint_at-read 2 s behind channel-read) in
    let c = (uint_at-read 4 s after size-read) in
    let x : after ≡ at + 3 = omega (arith, b.past) in
    record {
      seven = seven s at there;
      type = type-known (type_octet t) octet known ∙ octet_is s at there read;
      number = b.number ∙ ap (number_at 2 s) a;
      size = c.number ∙ ap (number_at 4 s) x;
      behind = omega (arith, c.past);
    }

module _ (s : List ℕ) (at : ℕ) {t : FrameType} {channel n start : ℕ} (f : Front s at t channel n start) where
  known : is_frame_type (get_or s at 0) ≡ true
  known = rw (← f.type) (type-octet t)

  pub payload-short : {r : Refusal} → refused r ≡ span_at n s start → refused r ≡ decode_at s at
  payload-short e =
      let h = span-short n s start e in
      truncation (e ∙ span_at-truncated n s start h) ∙ sym (decode-part s at f.seven known (omega (arith, h, f.behind, f.size)))

  module _ {v : Span} {end : ℕ} (there : given v end ≡ span_at n s start) where
    end_is : end ≡ at + 7 + number_at 4 s (at + 3)
    end_is = omega (arith, (span_at-read n s start there).past, f.behind, f.size)

    pub end-short : {r : Refusal} → refused r ≡ uint_at 1 s end → refused r ≡ decode_at s at
    end-short e =
        let h = uint_at-short 1 s end e in
        truncation (e ∙ uint_at-truncated 1 s end h) ∙ sym (decode-part s at f.seven known (omega (arith, h, end_is)))

    module _ {octet next : ℕ} (read : given octet next ≡ uint_at 1 s end) where
      last_is : octet ≡ get_or s (at + 7 + number_at 4 s (at + 3)) 0
      unfolding number_at
      last_is =
          let n = (uint_at-read 1 s end read).number in
          let same : get_or s (end + 0) 0 ≡ get_or s (at + 7 + number_at 4 s (at + 3)) 0 = ap (λ (i : ℕ). get_or s i 0) (omega (arith, end_is)) in omega arith

      whole : at + number_at 4 s (at + 3) + 8 ≤ length s
      whole = omega (arith, (uint_at-read 1 s end read).within, end_is)

      pub end-wrong : (octet ≡ 206 → ⊥) → refused (unsupported_field_type octet) ≡ decode_at s at
      end-wrong h = rw last_is (sym (decode-end s at f.seven known whole (rw last_is at (ne_eqb octet 206 h))))

      pub frame-read : octet ≡ 206 → given (record { type = type_octet t; channel = channel; payload = v }) next ≡ decode_at s at
      frame-read h =
          let p = span_at-read n s start there in
          let e : next ≡ at + number_at 4 s (at + 3) + 8 = omega (arith, (uint_at-read 1 s end read).past, end_is) in
          let first : v.start ≡ at + 7 = p.start ∙ f.behind in
          let long : v.len ≡ number_at 4 s (at + 3) = p.len ∙ f.size in
          let place : v ≡ record { start = at + 7; len = number_at 4 s (at + 3) } = rw (← first, ← long) refl in
          rw (e, f.number, place, f.type) (sym (decode-given s at f.seven known whole (rw last_is at (eq-eqb octet 206 h))))
