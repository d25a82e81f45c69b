-- The equations that the readers meet, with no fuel in them, and where an answer ends: what a proof about code goes by.
use mathlib.Core.Path.{◌≡◌, refl, sym, ap, ◌∙◌}
use mathlib.Core.Bool.{Bool, true, false}
use mathlib.Core.List.{List}
use Prim.Native.Nat.{ℕ, zero, suc, ◌+◌, ◌-◌, ◌≤◌, ◌<◌}
use native.Mathlib.Omega.{arith}
use native.Mathlib.Numerals.{sub-one}
use lib.ListN.{length}
use lib.Dec.{ltb}
use Rattle.types.specs.Answer.{Answer, given, refused, Refusal, truncated, too_deep, and_then}
use Rattle.types.specs.Octets.{uint_at}
use Rattle.types.specs.Strings.{long_str_at, short_str_at}
use Rattle.types.specs.declared.Span.{Span}
use Rattle.types.proofs.Tests.{leb_yes, leb_no, yes_leb, no_leb, decide}
use Rattle.types.proofs.Chain.{then-go, then-agree, need-given, given-next, given-value}
use Rattle.types.proofs.RoundTrip.{number-move, number_past, long-move, short-move, long-start}
use Rattle.tables.specs.Letters as kind
use Rattle.tables.specs.Letters.{Leaf, number, boolean, decimal, Kind, leaf, container, unknown, Letters, kind_of}
use Rattle.tables.specs.Forest.{none, item, size, Words, LocatedTable}
use Rattle.tables.specs.Reading.{Reader, Value, leaf_at, span_words, no_name, name_at, entries_with_fuel, entries_at, container_at, payload_at, value_with, value_at, table_at, lone_value_at}

-- Where an answer ends: from p on, so many records within the octets and within the room
pub record Moved (s : List ℕ) (p room n k : ℕ) : Type 0 where
  pub far : p + k ≤ n
  pub inside : n ≤ length s
  pub fits : k ≤ room

pub name-move : (b : Bool) (s : List ℕ) (p : ℕ) (x : Span) (q : ℕ) → p ≤ length s → name_at b s p ≡ given x q → (p ≤ q) × (q ≤ length s)
unfolding name_at
name-move true s p x q h e = let a = short-move s p x q e in (omega (arith, a.0), a.1)
name-move false s p x q h e = let m = given-next no_name x p q e in (omega arith, omega arith)

span-words-move : (s : List ℕ) (p : ℕ) (a : Answer Span) (x : Words) (q : ℕ) → span_words a ≡ given x q → ((v : Span) (r : ℕ) → a ≡ given v r → (p ≤ r) × (r ≤ length s)) → (p ≤ q) × (q ≤ length s)
span-words-move s p a x q e h = then-go a _ x q e (λ v r e1 h1. let m = given-next _ x r q h1 in let k = h v r e1 in (omega (arith, k.0), omega (arith, k.1)))

pub leaf-move : (l : Leaf) (s : List ℕ) (p : ℕ) (x : Words) (q : ℕ) → leaf_at l s p ≡ given x q → (p ≤ q) × (q ≤ length s)
unfolding leaf_at
leaf-move (number k) s p x q e =
    then-go (uint_at k s p) _ x q e
    (λ n r e1 h1. let m = given-next _ x r q h1 in let a = number-move k s p n r e1 in (omega (arith, a.0), omega (arith, a.1)))
leaf-move boolean s p x q e =
    then-go (uint_at 1 s p) _ x q e
    (λ n r e1 h1. let m = given-next _ x r q h1 in let a = number-move 1 s p n r e1 in (omega (arith, a.0), omega (arith, a.1)))
leaf-move decimal s p x q e =
    then-go (uint_at 1 s p) _ x q e
    (λ n r e1 h1.
    then-go (uint_at 4 s r) _ x q h1
    (λ n' r' e2 h2.
    let m = given-next _ x r' q h2 in
    let a = number-move 1 s p n r e1 in
    let b = number-move 4 s r n' r' e2 in
    (omega (arith, a.0, b.0), omega (arith, b.1))))
leaf-move kind.long_str s p x q e =
    span-words-move s p (long_str_at s p) x q e (λ v r e1. let a = long-move s p v r e1 in (omega (arith, a.0), a.1))
leaf-move kind.short_str s p x q e =
    span-words-move s p (short_str_at s p) x q e (λ v r e1. let a = short-move s p v r e1 in (omega (arith, a.0), a.1))

-- a reader of values, and one of tables and arrays, that move on
abbrev pub Moving : Reader Value → Type 0
Moving value = (s : List ℕ) (p room : ℕ) (v : Value) (n : ℕ) → value s p room ≡ given v n → Moved s p room n (suc (size v.beneath))

abbrev pub MovingBelow : (Bool → Reader LocatedTable) → Type 0
MovingBelow below = (b : Bool) (s : List ℕ) (p room : ℕ) (t : LocatedTable) (n : ℕ) → below b s p room ≡ given t n → Moved s (p + 4) room n (size t)

-- entries

module _ (value : Reader Value) (named : Bool) (s : List ℕ) where
  pub entries-fuel-end : (k p end room : ℕ) → end ≤ p → entries_with_fuel value named k s p end room ≡ given none p
  unfolding entries_with_fuel
  entries-fuel-end zero p end room h = refl
  entries-fuel-end (suc k) p end room h = rw (leb_no (suc p) end (omega arith))

  pub entries-fuel-zero : (p end room : ℕ) → entries_with_fuel value named 0 s p end room ≡ given none p
  unfolding entries_with_fuel
  entries-fuel-zero p end room = refl

  pub entries-fuel-step : (k p end room : ℕ) → p < end
      → entries_with_fuel value named (suc k) s p end room
      ≡ and_then (name_at named s p)
      (λ name q.
      and_then (value s q room)
      (λ v r.
      and_then (entries_with_fuel value named k s r end (room - suc (size v.beneath)))
      (λ after t. given (item name v.letter v.payload v.beneath after) t)))
  unfolding entries_with_fuel
  entries-fuel-step k p end room h = rw (leb_yes (suc p) end h)

  module _ (moving : Moving value) where
    pub entries-fuel-move : (k p end room : ℕ) (t : LocatedTable) (n : ℕ) → p ≤ length s → entries_with_fuel value named k s p end room ≡ given t n → Moved s p room n (size t)
    unfolding size
    entries-fuel-move zero p end room t n h e =
        let e' : given none p ≡ given t n = sym (entries-fuel-zero p end room) ∙ e in
        let m = given-next none t p n e' in
        let v = given-value none t p n e' in
        rw (← v) (record { far = omega arith; inside = omega arith; fits = omega arith })
    entries-fuel-move (suc k) p end room t n h e =
        decide (ltb p end)
        (λ y.
        then-go (name_at named s p) _ t n (sym (entries-fuel-step k p end room (yes_leb (suc p) end y)) ∙ e)
        (λ name q e1 h1.
        then-go (value s q room) _ t n h1
        (λ v r e2 h2.
        then-go (entries_with_fuel value named k s r end (room - suc (size v.beneath))) _ t n h2
        (λ after u e3 h3.
        let a = name-move named s p name q h e1 in
        let b = moving s q room v r e2 in
        let c = entries-fuel-move k r end (room - suc (size v.beneath)) after u b.inside e3 in
        let m = given-next _ t u n h3 in
        let w = given-value _ t u n h3 in
        rw (← w) (record { far = omega (arith, a.0, b.far, c.far); inside = omega (arith, c.inside); fits = omega (arith, b.fits, c.fits) })))))
        (λ x.
        let e' : given none p ≡ given t n = sym (entries-fuel-end (suc k) p end room (omega (arith, no_leb (suc p) end x))) ∙ e in
        let m = given-next none t p n e' in
        let w = given-value none t p n e' in
        rw (← w) (record { far = omega arith; inside = omega arith; fits = omega arith }))

    -- fuel does not count where it reaches to the end
    pub entries-fuel-agree : (k j p end room : ℕ) → p ≤ length s → end ≤ k + p → end ≤ j + p → entries_with_fuel value named k s p end room ≡ entries_with_fuel value named j s p end room
    entries-fuel-agree zero j p end room h hk hj = entries-fuel-end zero p end room (omega arith) ∙ sym (entries-fuel-end j p end room (omega arith))
    entries-fuel-agree (suc k) zero p end room h hk hj = entries-fuel-end (suc k) p end room (omega arith) ∙ sym (entries-fuel-end zero p end room (omega arith))
    entries-fuel-agree (suc k) (suc j) p end room h hk hj =
        decide (ltb p end)
        (λ y.
        entries-fuel-step k p end room (yes_leb (suc p) end y)
        ∙ then-agree (name_at named s p) _ _
        (λ name q e1.
        then-agree (value s q room) _ _
        (λ v r e2.
        let a = name-move named s p name q h e1 in
        let b = moving s q room v r e2 in
        rw (entries-fuel-agree k j r end (room - suc (size v.beneath)) b.inside (omega (arith, a.0, b.far)) (omega (arith, a.0, b.far)))))
        ∙ sym (entries-fuel-step j p end room (yes_leb (suc p) end y)))
        (λ x.
        let z = no_leb (suc p) end x in
        entries-fuel-end (suc k) p end room (omega arith) ∙ sym (entries-fuel-end (suc j) p end room (omega arith)))

    -- the two equations of the entries
    pub entries-end : (p end room : ℕ) → end ≤ p → entries_at value named s p end room ≡ given none p
    unfolding entries_at
    entries-end p end room h = entries-fuel-end (end - p) p end room h

    pub entries-step : (p end room : ℕ) → p ≤ length s → p < end
        → entries_at value named s p end room
        ≡ and_then (name_at named s p)
        (λ name q.
        and_then (value s q room)
        (λ v r.
        and_then (entries_at value named s r end (room - suc (size v.beneath)))
        (λ after t. given (item name v.letter v.payload v.beneath after) t)))
    unfolding entries_at
    entries-step p end room h l =
        entries-fuel-agree (end - p) (suc (end - p)) p end room h (omega arith) (omega arith)
        ∙ entries-fuel-step (end - p) p end room l
        ∙ then-agree (name_at named s p) _ _
        (λ name q e1.
        then-agree (value s q room) _ _
        (λ v r e2.
        let a = name-move named s p name q h e1 in
        let b = moving s q room v r e2 in
        rw (entries-fuel-agree (end - p) (end - r) r end (room - suc (size v.beneath)) b.inside (omega (arith, a.0, b.far)) (omega arith))))

pub container-move : (value : Reader Value) → Moving value → MovingBelow (container_at value)
unfolding container_at entries_at
container-move value moving b s p room t n e =
    then-go (long_str_at s p) _ t n e
    (λ v end e1 h1.
    let a = long-start s p v end e1 in
    let c = entries-fuel-move value b s moving (end - v.start) v.start end room t n (omega (arith, a.0, a.1)) h1 in
    record { far = omega (arith, a.0, c.far); inside = c.inside; fits = c.fits })

payload-move : (d : ℕ) (below : Bool → Reader LocatedTable) → MovingBelow below → (c : ℕ) (k : Kind) (s : List ℕ) (p room : ℕ) (v : Value) (n : ℕ)
    → payload_at d below c k s p room ≡ given v n → (p + size v.beneath ≤ n) × (n ≤ length s) × (size v.beneath < room)
unfolding payload_at size
payload-move d below h c unknown s p room v n e = let z : ◌≡◌ {A = ℕ} 0 1 = cc in absurd (omega arith)
payload-move d below h c (leaf l) s p room v n e =
    let o = need-given (ltb 0 room) _ _ v n e in
    then-go (leaf_at l s p) _ v n o.1
    (λ x q e1 h1.
    let a = leaf-move l s p x q e1 in
    let m = given-next _ v q n h1 in
    let w = given-value _ v q n h1 in
    rw (← w) (omega (arith, a.0), omega (arith, a.1), yes_leb 1 room o.0))
payload-move d below h c (container b) s p room v n e =
    let o = need-given (ltb 0 d) _ _ v n e in
    let o2 = need-given (ltb 0 room) _ _ v n o.1 in
    then-go (below b s p (room - 1)) _ v n o2.1
    (λ u q e1 h1.
    let a = h b s p (room - 1) u q e1 in
    let m = given-next _ v q n h1 in
    let w = given-value _ v q n h1 in
    rw (← w) (omega (arith, a.far), omega (arith, a.inside), omega (arith, a.fits, yes_leb 1 room o2.0)))

module _ (letters : Letters) where
  -- what reads the tables and arrays beneath a value that has d levels below it
  abbrev pub below_at : ℕ → Bool → Reader LocatedTable
  below_at zero = λ named s p room. refused too_deep
  below_at (suc d) = container_at (value_at letters d)

  pub value-is : (d : ℕ) (s : List ℕ) (p room : ℕ)
      → value_at letters d s p room ≡ and_then (uint_at 1 s p) (λ c q. payload_at d (below_at d) c (kind_of letters c) s q room)
  unfolding value_at value_with
  value-is zero s p room = refl
  value-is (suc d) s p room = refl

  value-from : (d : ℕ) → MovingBelow (below_at d) → Moving (value_at letters d)
  value-from d h s p room v n e =
      then-go (uint_at 1 s p) _ v n (sym (value-is d s p room) ∙ e)
      (λ c q e1 h1.
      let a = number-move 1 s p c q e1 in
      let b = payload-move d (below_at d) h c (kind_of letters c) s q room v n h1 in
      record { far = omega (arith, a.0, b.0); inside = b.1; fits = omega (arith, b.2) })

  -- A value has an octet for itself and for each record beneath it, and takes a record for each
  pub value-move : (d : ℕ) → Moving (value_at letters d)
  value-move zero = value-from zero (λ b s p room t n e. let z : ◌≡◌ {A = ℕ} 0 1 = cc in absurd (omega arith))
  value-move (suc d) = value-from (suc d) (container-move (value_at letters d) (value-move d))

  -- A table has as many records at most as octets less 4, and they are in the room
  pub table-move : (s : List ℕ) (p room : ℕ) (t : LocatedTable) (n : ℕ) → table_at letters s p room ≡ given t n → Moved s (p + 4) room n (size t)
  unfolding table_at
  table-move s p room t n e = container-move (value_at letters 15) (value-move 15) true s p room t n e

  -- one level less: what code calls
  pub below-is : (d : ℕ) (b : Bool) (s : List ℕ) (p room : ℕ) → 0 < d → below_at d b s p room ≡ container_at (value_at letters (d - 1)) b s p room
  below-is zero b s p room h = absurd (omega arith)
  below-is (suc d) b s p room h = ap (λ i. container_at (value_at letters i) b s p room) (sym (sub-one (suc d)))

  pub value-refused : (d : ℕ) (s : List ℕ) (p room : ℕ) (r : Refusal) → uint_at 1 s p ≡ refused r → value_at letters d s p room ≡ refused r
  value-refused d s p room r e = value-is d s p room ∙ (rw e)

  -- the cases of a value, at an octet that is there: with those of its payload
  module _ (d : ℕ) (s : List ℕ) (p room c q : ℕ) (read : uint_at 1 s p ≡ given c q) where
    pub value_after : value_at letters d s p room ≡ payload_at d (below_at d) c (kind_of letters c) s q room
    value_after = value-is d s p room ∙ (rw read)

  -- a lone value is the only entry of an array whose end is an octet on
  pub lone-entries : (s : List ℕ) (p room : ℕ) → p < length s → entries_at (value_at letters 15) false s p (p + 1) room ≡ lone_value_at letters s p room
  unfolding lone_value_at name_at
  lone-entries s p room h =
      entries-step (value_at letters 15) false s (value-move 15) p (p + 1) room (omega arith) (omega arith)
      ∙ then-agree (value_at letters 15 s p room) _ _
      (λ v r e.
      let m = value-move 15 s p room v r e in
      rw (entries-end (value_at letters 15) false s (value-move 15) r (p + 1) (room - suc (size v.beneath)) (omega (arith, m.far))))

  pub lone-cut : (s : List ℕ) (p room : ℕ) → length s ≤ p → lone_value_at letters s p room ≡ refused truncated
  unfolding lone_value_at
  lone-cut s p room h = rw (value-refused 15 s p room truncated (number_past 1 s p (omega arith)))
