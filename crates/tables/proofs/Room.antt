-- Room for records: with as many as an accepted value or table takes, or more, the answer is the same, and with fewer it is TapeFull.
use mathlib.Core.Path.{◌≡◌, sym, ap, ◌∙◌}
use mathlib.Core.Bool.{Bool, true}
use mathlib.Core.List.{List}
use Prim.Native.Nat.{ℕ, zero, suc, ◌+◌, ◌-◌, ◌≤◌}
use native.Mathlib.Omega.{arith}
use lib.Dec.{leb, ltb}
use Rattle.types.specs.Answer.{Answer, given, tape_full, need}
use Rattle.types.specs.Octets.{uint_at}
use Rattle.types.specs.Strings.{long_str_at}
use Rattle.types.proofs.Tests.{leb_yes, leb_no, yes_leb, no_leb, decide}
use Rattle.types.proofs.Chain.{then-go, need-given, given-next, given-value}
use Rattle.tables.specs.Letters.{Kind, leaf, container, unknown, Letters, kind_of}
use Rattle.tables.specs.Forest.{none, size, LocatedTable}
use Rattle.tables.specs.Reading.{Reader, Value, leaf_at, name_at, entries_with_fuel, entries_at, container_at, payload_at, value_at, table_at}
use Rattle.tables.proofs.ReadingLaws.{entries-fuel-zero, entries-fuel-end, entries-fuel-step, below_at, value-is}

-- what an answer becomes with another room, where it takes k records
abbrev within : {A : Type 0} → ℕ → ℕ → A → ℕ → Answer A
within room k x n = need (leb k room) tape_full (given x n)

abbrev pub Roomy : Reader Value → Type 0
Roomy value = (s : List ℕ) (p room : ℕ) (v : Value) (n : ℕ) → value s p room ≡ given v n → (room' : ℕ) → value s p room' ≡ within room' (suc (size v.beneath)) v n

abbrev pub RoomyBelow : (Bool → Reader LocatedTable) → Type 0
RoomyBelow below = (b : Bool) (s : List ℕ) (p room : ℕ) (t : LocatedTable) (n : ℕ) → below b s p room ≡ given t n → (room' : ℕ) → below b s p room' ≡ within room' (size t) t n

pub entries-fuel-room : (value : Reader Value) → Roomy value → (b : Bool) (s : List ℕ) (k p end room : ℕ) (t : LocatedTable) (n : ℕ) → entries_with_fuel value b k s p end room ≡ given t n
    → (room' : ℕ) → entries_with_fuel value b k s p end room' ≡ within room' (size t) t n
unfolding size
entries-fuel-room value roomy b s zero p end room t n e room' =
    let e' : given none p ≡ given t n = sym (entries-fuel-zero value b s p end room) ∙ e in
    let w = given-value none t p n e' in
    rw (← w, leb_yes 0 room' (omega arith)) (entries-fuel-zero value b s p end room' ∙ ap (given none) (given-next none t p n e'))
entries-fuel-room value roomy b s (suc k) p end room t n e room' =
    decide (ltb p end)
    (λ y.
    let l = yes_leb (suc p) end y in
    then-go (name_at b s p) _ t n (sym (entries-fuel-step value b s k p end room l) ∙ e)
    (λ name q e1 h1.
    then-go (value s q room) _ t n h1
    (λ v r e2 h2.
    then-go (entries_with_fuel value b k s r end (room - suc (size v.beneath))) _ t n h2
    (λ after u e3 h3.
    let m = given-next _ t u n h3 in
    let w = given-value _ t u n h3 in
    let own = suc (size v.beneath) in
    let rest = entries-fuel-room value roomy b s k r end (room - own) after u e3 (room' - own) in
    entries-fuel-step value b s k p end room' l
    ∙ (rw (e1, roomy s q room v r e2 room', ← w, ← m)
    (decide (leb own room')
    (λ f.
    let hf = yes_leb own room' f in
    rw (f, rest)
    (decide (leb (size after) (room' - own))
    (λ g. let hg = yes_leb (size after) (room' - own) g in rw (g, leb_yes (suc (size v.beneath + size after)) room' (omega arith)))
    (λ g. let hg = no_leb (size after) (room' - own) g in rw (g, leb_no (suc (size v.beneath + size after)) room' (omega arith)))))
    (λ f. let hf = no_leb own room' f in rw (f, leb_no (suc (size v.beneath + size after)) room' (omega arith)))))))))
    (λ x.
    let h : end ≤ p = omega (arith, no_leb (suc p) end x) in
    let e' : given none p ≡ given t n = sym (entries-fuel-end value b s (suc k) p end room h) ∙ e in
    let w = given-value none t p n e' in
    rw (← w, leb_yes 0 room' (omega arith)) (entries-fuel-end value b s (suc k) p end room' h ∙ ap (given none) (given-next none t p n e')))

pub container-room : (value : Reader Value) → Roomy value → RoomyBelow (container_at value)
unfolding container_at entries_at
container-room value roomy b s p room t n e room' =
    then-go (long_str_at s p) _ t n e (λ v end e1 h1. rw e1 (entries-fuel-room value roomy b s (end - v.start) v.start end room t n h1 room'))

payload-room : (d : ℕ) (below : Bool → Reader LocatedTable) → RoomyBelow below → (c : ℕ) (k : Kind) (s : List ℕ) (p room : ℕ) (v : Value) (n : ℕ) → payload_at d below c k s p room ≡ given v n
    → (room' : ℕ) → payload_at d below c k s p room' ≡ within room' (suc (size v.beneath)) v n
unfolding payload_at size
payload-room d below h c unknown s p room v n e room' = let z : ◌≡◌ {A = ℕ} 0 1 = cc in absurd (omega arith)
payload-room d below h c (leaf l) s p room v n e room' =
    let o = need-given (ltb 0 room) _ _ v n e in
    then-go (leaf_at l s p) _ v n o.1
    (λ x q e1 h1.
    let m = given-next _ v q n h1 in
    let w = given-value _ v q n h1 in
    rw (e1, ← w, ← m))
payload-room d below h c (container b) s p room v n e room' =
    let o = need-given (ltb 0 d) _ _ v n e in
    let o2 = need-given (ltb 0 room) _ _ v n o.1 in
    then-go (below b s p (room - 1)) _ v n o2.1
    (λ u q e1 h1.
    let m = given-next _ v q n h1 in
    let w = given-value _ v q n h1 in
    rw (o.0, h b s p (room - 1) u q e1 (room' - 1), ← w, ← m)
    (decide (ltb 0 room')
    (λ f.
    let hf = yes_leb 1 room' f in
    rw f
    (decide (leb (size u) (room' - 1))
    (λ g. let hg = yes_leb (size u) (room' - 1) g in rw (g, leb_yes (suc (size u)) room' (omega arith)))
    (λ g. let hg = no_leb (size u) (room' - 1) g in rw (g, leb_no (suc (size u)) room' (omega arith)))))
    (λ f. let hf = no_leb 1 room' f in rw (f, leb_no (suc (size u)) room' (omega arith)))))

module _ (letters : Letters) where
  value-room-from : (d : ℕ) → RoomyBelow (below_at letters d) → Roomy (value_at letters d)
  value-room-from d h s p room v n e room' =
      then-go (uint_at 1 s p) _ v n (sym (value-is letters d s p room) ∙ e)
      (λ c q e1 h1. value-is letters d s p room' ∙ (rw e1 (payload-room d (below_at letters d) h c (kind_of letters c) s q room v n h1 room')))

  pub value_room : (d : ℕ) → Roomy (value_at letters d)
  value_room zero = value-room-from zero (λ b s p room t n e room'. let z : ◌≡◌ {A = ℕ} 0 1 = cc in absurd (omega arith))
  value_room (suc d) = value-room-from (suc d) (container-room (value_at letters d) (value_room d))

  -- A table that is accepted with some room, with another
  pub table-room : (s : List ℕ) (p room : ℕ) (t : LocatedTable) (n : ℕ) → table_at letters s p room ≡ given t n → (room' : ℕ)
      → table_at letters s p room' ≡ need (leb (size t) room') tape_full (given t n)
  unfolding table_at
  table-room s p room t n e room' = container-room (value_at letters 15) (value_room 15) true s p room t n e room'
