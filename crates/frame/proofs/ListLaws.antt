-- The laws of self-delimiting frames, from what one frame's writer and one step of the walk promise.
use mathlib.Core.Path.{◌≡◌, refl, sym, ap, ◌∙◌, subst}
use mathlib.Core.Bool.{Bool, cond}
use Rattle.std.specs.Prelude.{Option, None, Some}
use mathlib.Core.List.{List, [], ◌∷◌, ◌++◌, map, append_assoc, append_cancel_left, IsPrefix}
use mathlib.Core.Logic.{◌↔◌}
use Prim.Native.Nat.{ℕ, zero, suc, ◌+◌, ◌-◌, ◌≤◌, ◌<◌}
use native.Mathlib.Omega.{arith}
use native.Mathlib.Nat.{add-zero, zero-add, add_assoc}
use lib.ListN.{length, take, drop, length-append, length-drop}
use lib.Dec.{leb, ltb}
use lib.Seq.{take-append_seam}
use Rattle.types.specs.Answer.{Refusal, truncated, Answer, given, refused}
use Rattle.types.specs.Records.{concat_map}
use Rattle.types.proofs.Tests.{leb_yes, leb_no, yes_leb, no_leb, decide}
use Rattle.types.proofs.Standing.{Stands, Cut, stands-prefix, drop-prefix, cut-prefix, stands-head, stands-left, stands-right, stands-nil, stands-join}
use Rattle.tables.specs.Tape.{Record, WithTape}
use Rattle.frame.specs.Walk.{Entry, WalkResult, ended, push, WalkStep, walk_from}
use Rattle.frame.specs.Senders.{All, total, up_to}

-- a whole frame, as a step of the walk gives it
abbrev pub whole : {L : Type 0} → L → ℕ → List Record → Answer (WithTape L)
whole l n rs = given (record { value = l; tape = rs }) n

abbrev records_of : {L : Type 0} → Answer (WithTape L) → List Record
records_of (given x n) = x.tape
records_of (refused r) = []

abbrev pub part_left : Bool → Option Refusal
part_left b = cond b (Some truncated) None

-- A kind of frame F as its writer has it; L as a step gives it, over tape records; M, its meaning.
pub record Framing (F L M : Type 0) : Type 1 where
  pub Accepted : F → Type 0
  pub octets_of : F → List ℕ
  pub meaning : F → M
  pub cost : F → ℕ
  pub step : WalkStep L
  pub view : List ℕ → Answer (WithTape L) → List Record → Option M

-- a step's answer at each registered octet, with the tape records registered for it
unfoldable pub returned : {F L M : Type 0} → Framing F L M → List ℕ → List Record → List Entry → List (Option M)
returned C s tape [] = []
returned C s tape (e ∷ es) = C.view s (C.step s e.first 1 e.own) (take e.own (drop e.before tape)) ∷ returned C s tape es

-- of the octets s before a cut and the frames gs that end there or earlier: what the walk w gives, where the register and the tape then hold these records
pub record AtCut {F L M : Type 0} (C : Framing F L M) (s : List ℕ) (gs : List F) (w : WalkResult) (register : List Entry) (tape : List Record) : Type 0 where
  pub frames : length w.register ≡ length gs
  pub records : length w.tape ≡ total C.cost gs
  pub consumed : w.consumed ≡ length (concat_map C.octets_of gs)
  pub refusal : w.refusal ≡ part_left (ltb (length (concat_map C.octets_of gs)) (length s))
  pub gives : returned C s tape (take (length w.register) register) ≡ map (λ f. Some (C.meaning f)) gs

module _ {L : Type 0} (step : WalkStep L) where
  -- the walk, one step at a time
  pub walk_none : (k : ℕ) (s : List ℕ) (p reg room used : ℕ) → length s ≤ p → walk_from step k s p reg room used ≡ ended p None
  unfolding walk_from
  walk_none zero s p reg room used h = refl
  walk_none (suc k) s p reg room used h = rw (leb_no (suc p) (length s) (omega arith))

  pub walk-stop : (k : ℕ) (s : List ℕ) (p reg room used : ℕ) (r : Refusal) → p < length s → step s p reg room ≡ refused r
      → walk_from step (suc k) s p reg room used ≡ ended p (Some r)
  unfolding walk_from
  walk-stop k s p reg room used r h e = rw (leb_yes (suc p) (length s) h, e)

  pub walk-whole : (k : ℕ) (s : List ℕ) (p reg room used : ℕ) (l : L) (n : ℕ) (rs : List Record) → p < length s → step s p reg room ≡ whole l n rs
      → walk_from step (suc k) s p reg room used
      ≡ push p used rs (walk_from step k s n (reg - 1) (room - length rs) (used + length rs))
  unfolding walk_from
  walk-whole k s p reg room used l n rs h e = rw (leb_yes (suc p) (length s) h, e)

  -- The walk's fuel does not count, as long as it reaches to the end and each frame has an octet
  module _ (on : (s : List ℕ) (p reg room used : ℕ) (l : L) (n : ℕ) (rs : List Record) → step s p reg room ≡ whole l n rs → p < n) where
    pub walk-agree : (k j : ℕ) (s : List ℕ) (p reg room used : ℕ) → length s ≤ k + p → length s ≤ j + p → walk_from step k s p reg room used ≡ walk_from step j s p reg room used
    walk-agree zero j s p reg room used hk hj = walk_none zero s p reg room used (omega arith) ∙ sym (walk_none j s p reg room used (omega arith))
    walk-agree (suc k) zero s p reg room used hk hj = walk_none (suc k) s p reg room used (omega arith) ∙ sym (walk_none zero s p reg room used (omega arith))
    walk-agree (suc k) (suc j) s p reg room used hk hj =
        decide (leb (length s) p)
        (λ y. walk_none (suc k) s p reg room used (yes_leb (length s) p y) ∙ sym (walk_none (suc j) s p reg room used (yes_leb (length s) p y)))
        (λ m.
        let here = no_leb (length s) p m in
        go (λ n rs far. walk-agree k j s n (reg - 1) (room - length rs) (used + length rs) (omega arith) (omega arith)) here (step s p reg room) refl)
      where
        go : ((n : ℕ) (rs : List Record) → p < n → walk_from step k s n (reg - 1) (room - length rs) (used + length rs) ≡ walk_from step j s n (reg - 1) (room - length rs) (used + length rs))
            → p < length s → (x : Answer (WithTape L)) → step s p reg room ≡ x → walk_from step (suc k) s p reg room used ≡ walk_from step (suc j) s p reg room used
        go ih here (refused r) e = walk-stop k s p reg room used r here e ∙ sym (walk-stop j s p reg room used r here e)
        go ih here (given x n) e =
            walk-whole k s p reg room used x.value n x.tape here e
            ∙ ap (push p used x.tape) (ih n x.tape (on s p reg room used x.value n x.tape e))
            ∙ sym (walk-whole j s p reg room used x.value n x.tape here e)

    -- so a step of the walk leaves a walk with the same fuel
    pub walk_step : (s : List ℕ) (p reg room used : ℕ) (l : L) (n : ℕ) (rs : List Record) → p < length s → step s p reg room ≡ whole l n rs
        → walk_from step (length s) s p reg room used
        ≡ push p used rs (walk_from step (length s) s n (reg - 1) (room - length rs) (used + length rs))
    walk_step s p reg room used l n rs here e =
        walk-agree (length s) (suc (length s)) s p reg room used (omega arith) (omega arith) ∙ walk-whole (length s) s p reg room used l n rs here e

-- what is asked of one frame
pub record Laws {F L M : Type 0} (C : Framing F L M) : Type 0 where
  pub frame : ℕ → ℕ → F → L
  pub recs : ℕ → F → List Record
  pub some-octet : (f : F) → zero < length (C.octets_of f)
  pub same : (f g : F) → C.meaning f ≡ C.meaning g → C.octets_of f ≡ C.octets_of g
  pub costs : (p : ℕ) (f : F) → length (recs p f) ≡ C.cost f
  pub reads : (f : F) → C.Accepted f → (s : List ℕ) (p reg room used : ℕ) → Stands s p (C.octets_of f) → zero < reg → C.cost f ≤ room
      → C.step s p reg room ≡ whole (frame p used f) (p + length (C.octets_of f)) (recs p f)
  pub views : (f : F) → C.Accepted f → (s : List ℕ) (p used : ℕ) → Stands s p (C.octets_of f)
      → C.view s (whole (frame p used f) (p + length (C.octets_of f)) (recs p f)) (recs p f) ≡ Some (C.meaning f)
  pub stops : (f : F) → C.Accepted f → (s : List ℕ) (p reg room used : ℕ) → Cut s p (C.octets_of f)
      → C.step s p reg room ≡ refused truncated

module _ {F L M : Type 0} (C : Framing F L M) (W : Laws C) where
  -- two frames at the head of the same octets mean the same
  pub heads : (f g : F) → C.Accepted f → C.Accepted g → (a b : List ℕ) → C.octets_of f ++ a ≡ C.octets_of g ++ b → C.meaning f ≡ C.meaning g
  heads f g af ag a b e =
      let s = C.octets_of f ++ a in
      let room = C.cost f + C.cost g in
      let sf : Stands s 0 (C.octets_of f) = stands-head (C.octets_of f) a in
      let sg : Stands s 0 (C.octets_of g) = subst (λ (l : List ℕ). Stands l 0 (C.octets_of g)) (sym e) (stands-head (C.octets_of g) b) in
      let rf = W.reads f af s 0 1 room 0 sf (omega arith) (omega arith) in
      let rg = W.reads g ag s 0 1 room 0 sg (omega arith) (omega arith) in
      let vf = W.views f af s 0 0 sf in
      let vg = W.views g ag s 0 0 sg in
      let both = sym rf ∙ rg in
      let tapes : W.recs 0 f ≡ W.recs 0 g = ap records_of both in
      cc (both, tapes, vf, vg)

  -- and what follows them is the same too
  pub tails : (f g : F) → (a b : List ℕ) → C.octets_of f ++ a ≡ C.octets_of g ++ b → C.meaning f ≡ C.meaning g → a ≡ b
  tails f g a b e m = append_cancel_left (C.octets_of f) a b (e ∙ ap (λ (l : List ℕ). l ++ b) (sym (W.same f g m)))

  pub list : List F → List ℕ
  list fs = concat_map C.octets_of fs

  no-octets : (f : F) (a : List ℕ) → C.octets_of f ++ a ≡ [] → ⊥
  no-octets f a e = omega (arith, W.some-octet f, length-append (C.octets_of f) a, ap length e)

  -- equal octets exactly where the meanings are equal
  pub equal-meaning : (xs ys : List F) → All C.Accepted xs → All C.Accepted ys → concat_map C.octets_of xs ≡ concat_map C.octets_of ys → map C.meaning xs ≡ map C.meaning ys
  equal-meaning [] [] ax ay e = refl
  equal-meaning [] (y ∷ ys) ax ay e = absurd (no-octets y (concat_map C.octets_of ys) (sym e))
  equal-meaning (x ∷ xs) [] ax ay e = absurd (no-octets x (concat_map C.octets_of xs) e)
  equal-meaning (x ∷ xs) (y ∷ ys) ax ay e =
      let m = heads x y ax.0 ay.0 (concat_map C.octets_of xs) (concat_map C.octets_of ys) e in
      let r = equal-meaning xs ys ax.1 ay.1 (tails x y (concat_map C.octets_of xs) (concat_map C.octets_of ys) e m) in
      cc

  pub meaning-equal : (xs ys : List F) → map C.meaning xs ≡ map C.meaning ys → concat_map C.octets_of xs ≡ concat_map C.octets_of ys
  meaning-equal [] [] e = refl
  meaning-equal [] (y ∷ ys) e = let z : ◌≡◌ {A = ℕ} 0 1 = cc in absurd (omega arith)
  meaning-equal (x ∷ xs) [] e = let z : ◌≡◌ {A = ℕ} 0 1 = cc in absurd (omega arith)
  meaning-equal (x ∷ xs) (y ∷ ys) e =
      let m : C.meaning x ≡ C.meaning y = cc in
      let n : map C.meaning xs ≡ map C.meaning ys = cc in
      cc (W.same x y m, meaning-equal xs ys n)

  -- and the one's begin the other's exactly where the one's meanings begin the other's
  pub begins-meaning : (xs ys : List F) → All C.Accepted xs → All C.Accepted ys → IsPrefix (concat_map C.octets_of xs) (concat_map C.octets_of ys) → IsPrefix (map C.meaning xs) (map C.meaning ys)
  begins-meaning [] ys ax ay e = (map C.meaning ys, refl)
  begins-meaning (x ∷ xs) [] ax ay e = absurd (no-octets x (concat_map C.octets_of xs ++ e.0) (sym (append_assoc (C.octets_of x) (concat_map C.octets_of xs) e.0) ∙ e.1))
  begins-meaning (x ∷ xs) (y ∷ ys) ax ay e =
      let q = sym (append_assoc (C.octets_of x) (concat_map C.octets_of xs) e.0) ∙ e.1 in
      let m = heads x y ax.0 ay.0 (concat_map C.octets_of xs ++ e.0) (concat_map C.octets_of ys) q in
      let r = begins-meaning xs ys ax.1 ay.1 (e.0, tails x y (concat_map C.octets_of xs ++ e.0) (concat_map C.octets_of ys) q m) in
      (r.0, cc (m, r.1))

  pub meaning-begins : (xs ys : List F) → IsPrefix (map C.meaning xs) (map C.meaning ys) → IsPrefix (concat_map C.octets_of xs) (concat_map C.octets_of ys)
  meaning-begins [] ys e = (concat_map C.octets_of ys, refl)
  meaning-begins (x ∷ xs) [] e = let h = e.1 in let z : ◌≡◌ {A = ℕ} 0 1 = cc in absurd (omega arith)
  meaning-begins (x ∷ xs) (y ∷ ys) e =
      let h = e.1 in
      let m : C.meaning x ≡ C.meaning y = cc in
      let n : map C.meaning xs ++ e.0 ≡ map C.meaning ys = cc in
      let r = meaning-begins xs ys (e.0, n) in
      (r.0, append_assoc (C.octets_of x) (concat_map C.octets_of xs) r.0 ∙ cc (W.same x y m, r.1))

  -- the frames that end at or before n, one at a time
  up_to-none : (p n : ℕ) (f : F) (fs : List F) → n < p + length (C.octets_of f) → up_to C.octets_of p n (f ∷ fs) ≡ []
  unfolding up_to
  up_to-none p n f fs h = rw (leb_no (p + length (C.octets_of f)) n h)

  up_to-more : (p n : ℕ) (f : F) (fs : List F) → p + length (C.octets_of f) ≤ n → up_to C.octets_of p n (f ∷ fs) ≡ f ∷ up_to C.octets_of (p + length (C.octets_of f)) n fs
  unfolding up_to
  up_to-more p n f fs h = rw (leb_yes (p + length (C.octets_of f)) n h)

  -- what the register and the tape hold after the frames
  abbrev entries : ℕ → ℕ → List F → List Entry
  entries p used [] = []
  entries p used (f ∷ fs) =
      record { first = p; before = used; own = length (W.recs p f) } ∷ entries (p + length (C.octets_of f)) (used + length (W.recs p f)) fs

  abbrev records : ℕ → List F → List Record
  records p [] = []
  records p (f ∷ fs) = W.recs p f ++ records (p + length (C.octets_of f)) fs

  expected : ℕ → ℕ → ℕ → List F → WalkResult
  expected p used n fs =
      record {
        register = entries p used fs;
        tape = records p fs;
        consumed = p + length (concat_map C.octets_of fs);
        refusal = part_left (ltb (p + length (concat_map C.octets_of fs)) n);
      }

  expected-none : (p used n : ℕ) → n ≤ p → expected p used n [] ≡ ended p None
  unfolding expected
  expected-none p used n h = rw (add-zero p, leb_no (suc p) n (omega arith))

  expected-part : (p used n : ℕ) → p < n → expected p used n [] ≡ ended p (Some truncated)
  unfolding expected
  expected-part p used n h = rw (add-zero p, leb_yes (suc p) n h)

  expected-cons : (p used n : ℕ) (f : F) (fs : List F)
      → push p used (W.recs p f) (expected (p + length (C.octets_of f)) (used + length (W.recs p f)) n fs)
      ≡ expected p used n (f ∷ fs)
  unfolding expected
  expected-cons p used n f fs = rw (length-append (C.octets_of f) (concat_map C.octets_of fs), ← (add_assoc p (length (C.octets_of f)) (length (concat_map C.octets_of fs))))

  walk-cut : (fs : List F) → All C.Accepted fs → (k : ℕ) (s : List ℕ) (p reg room used : ℕ) → length s ≤ k + p → p ≤ length s
      → IsPrefix (drop p s) (concat_map C.octets_of fs)
      → length (up_to C.octets_of p (length s) fs) ≤ reg → total C.cost (up_to C.octets_of p (length s) fs) ≤ room
      → walk_from C.step k s p reg room used ≡ expected p used (length s) (up_to C.octets_of p (length s) fs)
  unfolding up_to
  walk-cut [] ax k s p reg room used hk hp e hr ht =
      let l : length (drop p s) ≡ 0 = omega (arith, length-append (drop p s) e.0, ap length e.1) in
      walk_none C.step k s p reg room used (omega (arith, length-drop p s)) ∙ sym (expected-none p used (length s) (omega (arith, length-drop p s)))
  walk-cut (f ∷ fs) ax zero s p reg room used hk hp e hr ht =
      rw (up_to-none p (length s) f fs (omega (arith, W.some-octet f)))
      (walk_none C.step zero s p reg room used (omega arith) ∙ sym (expected-none p used (length s) (omega arith)))
  walk-cut (f ∷ fs) ax (suc k) s p reg room used hk hp e hr ht =
      decide (leb (length s) p)
      (λ y.
      rw (up_to-none p (length s) f fs (omega (arith, W.some-octet f, yes_leb (length s) p y)))
      (walk_none C.step (suc k) s p reg room used (yes_leb (length s) p y) ∙ sym (expected-none p used (length s) (yes_leb (length s) p y))))
      (λ n.
      let here : p < length s = no_leb (length s) p n in
      decide (leb (p + length (C.octets_of f)) (length s))
      (λ y.
      let fits = yes_leb (p + length (C.octets_of f)) (length s) y in
      let u = up_to-more p (length s) f fs fits in
      let gs = up_to C.octets_of (p + length (C.octets_of f)) (length s) fs in
      let hr' : length (f ∷ gs) ≤ reg = rw u at hr in
      let ht' : total C.cost (f ∷ gs) ≤ room = rw u at ht in
      rw u
      (walk-whole C.step k s p reg room used (W.frame p used f) (p + length (C.octets_of f)) (W.recs p f) here
      (W.reads f ax.0 s p reg room used (stands-prefix s p (C.octets_of f) (concat_map C.octets_of fs) hp e fits) (omega arith) (omega arith))
      ∙ ap (push p used (W.recs p f))
      (walk-cut fs ax.1 k s (p + length (C.octets_of f)) (reg - 1) (room - length (W.recs p f)) (used + length (W.recs p f))
      (omega (arith, W.some-octet f)) fits (drop-prefix s p (C.octets_of f) (concat_map C.octets_of fs) hp e fits)
      (omega arith) (omega (arith, W.costs p f)))
      ∙ expected-cons p used (length s) f gs))
      (λ m.
      let short = no_leb (p + length (C.octets_of f)) (length s) m in
      rw (up_to-none p (length s) f fs short)
      (walk-stop C.step k s p reg room used truncated here
      (W.stops f ax.0 s p reg room used (cut-prefix s p (C.octets_of f) (concat_map C.octets_of fs) hp e short))
      ∙ sym (expected-part p used (length s) here))))

  -- the frames that are returned stand in the octets
  up_to-stands : (fs : List F) (s : List ℕ) (p : ℕ) → p ≤ length s → IsPrefix (drop p s) (concat_map C.octets_of fs)
      → Stands s p (concat_map C.octets_of (up_to C.octets_of p (length s) fs))
  up_to-stands [] s p hp e = unfold up_to in stands-nil hp
  up_to-stands (f ∷ fs) s p hp e =
      decide (leb (p + length (C.octets_of f)) (length s))
      (λ y.
      let fits = yes_leb (p + length (C.octets_of f)) (length s) y in
      rw (up_to-more p (length s) f fs fits)
      (stands-join (C.octets_of f) (concat_map C.octets_of (up_to C.octets_of (p + length (C.octets_of f)) (length s) fs))
      (stands-prefix s p (C.octets_of f) (concat_map C.octets_of fs) hp e fits)
      (up_to-stands fs s (p + length (C.octets_of f)) fits (drop-prefix s p (C.octets_of f) (concat_map C.octets_of fs) hp e fits))))
      (λ m. rw (up_to-none p (length s) f fs (no_leb (p + length (C.octets_of f)) (length s) m)) (stands-nil hp))

  up_to-accepted : (fs : List F) (p n : ℕ) → All C.Accepted fs → All C.Accepted (up_to C.octets_of p n fs)
  up_to-accepted [] p n ax = unfold up_to in tt
  up_to-accepted (f ∷ fs) p n ax =
      decide (leb (p + length (C.octets_of f)) n)
      (λ y. rw (up_to-more p n f fs (yes_leb (p + length (C.octets_of f)) n y)) (ax.0, up_to-accepted fs (p + length (C.octets_of f)) n ax.1))
      (λ m. rw (up_to-none p n f fs (no_leb (p + length (C.octets_of f)) n m)) tt)

  -- uncut, they are all of them
  pub up_to-all : (fs : List F) (p n : ℕ) → p + length (concat_map C.octets_of fs) ≤ n → up_to C.octets_of p n fs ≡ fs
  up_to-all [] p n h = unfold up_to in refl
  up_to-all (f ∷ fs) p n h =
      let l = length-append (C.octets_of f) (concat_map C.octets_of fs) in
      rw (up_to-more p n f fs (omega arith)) (ap (λ (l : List F). f ∷ l) (up_to-all fs (p + length (C.octets_of f)) n (omega arith)))

  -- they are the first ones of the list
  pub up_to-begins : (fs : List F) (p n : ℕ) → IsPrefix (up_to C.octets_of p n fs) fs
  up_to-begins [] p n = unfold up_to in ([], refl)
  up_to-begins (f ∷ fs) p n =
      decide (leb (p + length (C.octets_of f)) n)
      (λ y.
      let r = up_to-begins fs (p + length (C.octets_of f)) n in
      rw (up_to-more p n f fs (yes_leb (p + length (C.octets_of f)) n y)) (r.0, ap (λ (l : List F). f ∷ l) r.1))
      (λ m. rw (up_to-none p n f fs (no_leb (p + length (C.octets_of f)) n m)) (f ∷ fs, refl))

  reads-back : (gs : List F) → All C.Accepted gs → (s : List ℕ) (tape : List Record) (p used : ℕ) → Stands s p (concat_map C.octets_of gs) → Stands tape used (records p gs)
      → returned C s tape (entries p used gs) ≡ map (λ f. Some (C.meaning f)) gs
  unfolding returned
  reads-back [] ax s tape p used h t = refl
  reads-back (f ∷ gs) ax s tape p used h t =
      let hf = stands-left (C.octets_of f) (concat_map C.octets_of gs) h in
      let tf = stands-left (W.recs p f) (records (p + length (C.octets_of f)) gs) t in
      let r = W.reads f ax.0 s p 1 (length (W.recs p f)) used hf (omega arith) (omega (arith, W.costs p f)) in
      rw (r, tf.same, W.views f ax.0 s p used hf)
      (ap (λ (l : List (Option M)). Some (C.meaning f) ∷ l)
      (reads-back gs ax.1 s tape (p + length (C.octets_of f)) (used + length (W.recs p f))
      (stands-right (C.octets_of f) (concat_map C.octets_of gs) h) (stands-right (W.recs p f) (records (p + length (C.octets_of f)) gs) t)))

  length-entries : (p used : ℕ) (gs : List F) → length (entries p used gs) ≡ length gs
  length-entries p used [] = refl
  length-entries p used (f ∷ gs) = ap suc (length-entries (p + length (C.octets_of f)) (used + length (W.recs p f)) gs)

  length-records : (p : ℕ) (gs : List F) → length (records p gs) ≡ total C.cost gs
  length-records p [] = refl
  length-records p (f ∷ gs) =
      length-append (W.recs p f) (records (p + length (C.octets_of f)) gs)
      ∙ (rw (W.costs p f, length-records (p + length (C.octets_of f)) gs))

  pub two-lists : (xs ys : List F) → All C.Accepted xs → All C.Accepted ys
      → ((concat_map C.octets_of xs ≡ concat_map C.octets_of ys) ↔ (map C.meaning xs ≡ map C.meaning ys))
      × (IsPrefix (concat_map C.octets_of xs) (concat_map C.octets_of ys) ↔ IsPrefix (map C.meaning xs) (map C.meaning ys))
  two-lists xs ys ax ay = ((equal-meaning xs ys ax ay, meaning-equal xs ys), (begins-meaning xs ys ax ay, meaning-begins xs ys))

  pub at-prefix : (xs : List F) → All C.Accepted xs → (s : List ℕ) → IsPrefix s (concat_map C.octets_of xs) → (reg room : ℕ)
      → length (up_to C.octets_of 0 (length s) xs) ≤ reg → total C.cost (up_to C.octets_of 0 (length s) xs) ≤ room
      → (register : List Entry) (tape : List Record)
      → IsPrefix (walk_from C.step (length s) s 0 reg room 0).register register → IsPrefix (walk_from C.step (length s) s 0 reg room 0).tape tape
      → AtCut C s (up_to C.octets_of 0 (length s) xs) (walk_from C.step (length s) s 0 reg room 0) register tape
  unfolding expected
  at-prefix xs ax s e reg room hr ht register tape =
      let gs = up_to C.octets_of 0 (length s) xs in
      rw (walk-cut xs ax (length s) s 0 reg room 0 (omega arith) (omega arith) e hr ht)
      (λ br bt.
      record {
        frames = length-entries 0 0 gs;
        records = length-records 0 gs;
        consumed = zero-add (length (concat_map C.octets_of gs));
        refusal = ap (λ (c : ℕ). part_left (ltb c (length s))) (zero-add (length (concat_map C.octets_of gs)));
        gives =
            ap (returned C s tape) (ap (take (length (entries 0 0 gs))) (sym br.1) ∙ take-append_seam (entries 0 0 gs) br.0)
            ∙ reads-back gs (up_to-accepted xs 0 (length s) ax) s tape 0 0 (up_to-stands xs s 0 (omega arith) e)
            (subst (λ (l : List Record). Stands l 0 (records 0 gs)) bt.1 (stands-head (records 0 gs) bt.0));
      })
