-- A table is read back as it was written, and cut short it is Truncated.
use mathlib.Core.Path.{◌≡◌, refl, sym, ap, ◌∙◌}
use mathlib.Core.Bool.{Bool, true, false}
use mathlib.Core.List.{List, [], ◌++◌}
use Prim.Native.Nat.{ℕ, zero, suc, ◌+◌, ◌-◌, ◌^◌, ◌≤◌, ◌<◌, min}
use native.Mathlib.Omega.{arith}
use native.Mathlib.Nat.{add-zero}
use lib.ListN.{length, take, drop, length-append}
use Rattle.types.specs.Answer.{given, refused, truncated}
use Rattle.types.specs.Octets.{octets}
use Rattle.types.specs.Strings.{octets_of, long_str}
use Rattle.types.proofs.Tests.{leb_yes}
use Rattle.types.proofs.Standing.{Stands, Cut, stands-left, stands-right}
use Rattle.types.proofs.NumberLaws.{length-octets}
use Rattle.types.proofs.RoundTrip.{number-here, short-here, short-seen, long-here, long-cut}
use Rattle.tables.specs.Letters as kind
use Rattle.tables.specs.Letters.{Leaf, number, boolean, decimal, Kind, leaf, container, unknown, Letters, kind_of, is_table}
use Rattle.tables.specs.Forest.{none, item, size, words, PayloadMeaning, TableMeaning, leaf_meaning, payload_meaning, meaning_of}
use Rattle.tables.specs.Reading.{leaf_at, no_name, name_at, entries_with_fuel, entries_at, container_at, payload_at, value_at, table_at, lone_value_at}
use Rattle.tables.specs.Writing.{leaf_octets, payload_octets, name_octets, body, table_octets}
use Rattle.tables.proofs.Fit.{FitLeaf, FitName, FitValue, FitForest, place_leaf, place_payload, place_name, place_forest, size-place}
use Rattle.tables.proofs.ReadingLaws.{entries-fuel-end, entries-fuel-step, below_at, value-is}

pub leaf-here : {s : List ℕ} {p : ℕ} (l : Leaf) (x : PayloadMeaning) → FitLeaf l x → Stands s p (leaf_octets l x) → leaf_at l s p ≡ given (place_leaf l p x) (p + length (leaf_octets l x))
unfolding leaf_at place_leaf
leaf-here {s} {p} (number k) x f h = rw (number-here k x.first f.0 h, length-octets k x.first)
leaf-here {s} {p} boolean x f h =
    let e : min x.first 1 ≡ x.first = omega (arith, f.0) in
    rw (number-here 1 x.first (omega (arith, f.0)) h, e)
leaf-here {s} {p} decimal x f h =
    let a : Stands s p (octets 1 x.first) = stands-left (octets 1 x.first) (octets 4 x.second) h in
    let b : Stands s (p + 1) (octets 4 x.second) = stands-right (octets 1 x.first) (octets 4 x.second) h in
    rw (number-here 1 x.first f.0 a, number-here 4 x.second f.1 b) (ap (given (words x.first x.second)) (omega arith))
leaf-here {s} {p} kind.long_str x f h = rw (long-here x.text f.2 h)
leaf-here {s} {p} kind.short_str x f h = rw (short-here x.text f.2 h)

pub name-here : {s : List ℕ} {p : ℕ} (b : Bool) (n : List ℕ) → FitName b n → Stands s p (name_octets b n) → name_at b s p ≡ given (place_name b p n) (p + length (name_octets b n))
unfolding name_at place_name
name-here true n f h = short-here n f h
name-here {s} {p} false n f h = rw (add-zero p)

module _ (letters : Letters) where
  -- what is asked of the readers of what stands beneath
  abbrev Below : List ℕ → ℕ → TableMeaning → Type 0
  Below s p u = (b : Bool) (d room : ℕ) → FitForest letters b d u → length (body letters b u) < 256 ^ 4 → size u ≤ room → Stands s p (long_str (body letters b u))
      → container_at (value_at letters d) b s p room ≡ given (place_forest letters b (p + 4) u) (p + length (long_str (body letters b u)))

  payload-here : {s : List ℕ} {p : ℕ} (k : Kind) (c d : ℕ) (x : PayloadMeaning) (u : TableMeaning) (room : ℕ)
      → FitValue letters k d x u (λ b' d'. FitForest letters b' d' u) → size u < room → Stands s p (payload_octets k x (body letters (is_table k) u)) → Below s p u
      → payload_at d (below_at letters d) c k s p room
      ≡ given (record { letter = c; payload = place_payload k p x; beneath = place_forest letters (is_table k) (p + 4) u }) (p + length (payload_octets k x (body letters (is_table k) u)))
  unfolding payload_at place_payload place_forest
  payload-here {s} {p} (leaf l) c d x u room f hr h ih = rw (f.1, leb_yes 1 room (omega arith), leaf-here l x f.0 h)
  payload-here {s} {p} (container b) c zero x u room f hr h ih = absurd f
  payload-here {s} {p} (container b) c (suc d) x u room f hr h ih =
      rw (leb_yes 1 (suc d) (omega arith), leb_yes 1 room (omega arith), ih b d (room - 1) f.1 f.2 (omega arith) h)
  payload-here {s} {p} unknown c d x u room f hr h ih = absurd f

  value-here : {s : List ℕ} {p : ℕ} (c d : ℕ) (x : PayloadMeaning) (u : TableMeaning) (room : ℕ) → c < 256
      → FitValue letters (kind_of letters c) d x u (λ b' d'. FitForest letters b' d' u) → size u < room
      → Stands s p (octets 1 c) → Stands s (p + 1) (payload_octets (kind_of letters c) x (body letters (is_table (kind_of letters c)) u)) → Below s (p + 1) u
      → value_at letters d s p room
      ≡ given (record { letter = c; payload = place_payload (kind_of letters c) (p + 1) x; beneath = place_forest letters (is_table (kind_of letters c)) (p + 1 + 4) u })
      (p + 1 + length (payload_octets (kind_of letters c) x (body letters (is_table (kind_of letters c)) u)))
  value-here {s} {p} c d x u room l f hr h1 h2 ih =
      value-is letters d s p room ∙ (rw (number-here 1 c l h1) (payload-here (kind_of letters c) c d x u room f hr h2 ih))

  -- what is shown of a forest's entries
  abbrev Entries : TableMeaning → Type 0
  Entries t = (k d : ℕ) (b : Bool) (s : List ℕ) (p end room : ℕ) → FitForest letters b d t → size t ≤ room → Stands s p (body letters b t)
      → length (body letters b t) ≤ k → end ≡ p + length (body letters b t) → entries_with_fuel (value_at letters d) b k s p end room ≡ given (place_forest letters b p t) end

  container-here : (u : TableMeaning) (s : List ℕ) (p : ℕ) → Entries u → Below s p u
  unfolding container_at entries_at
  container-here u s p entries b d room f l hr h =
      let o = body letters b u in
      rw (long-here o l h)
      (entries (p + length (long_str o) - (p + 4)) d b s (p + 4) (p + length (long_str o)) room f hr (stands-right (octets 4 (length o)) o h) (omega arith) (omega arith))

  pub entries-fuel-here : (t : TableMeaning) → Entries t
  unfolding body place_forest size
  entries-fuel-here none k d b s p end room f hr h hk he = entries-fuel-end (value_at letters d) b s k p end room (omega arith) ∙ ap (given none) (omega arith)
  entries-fuel-here (item n c x u t) zero d b s p end room f hr h hk he =
      absurd (omega (arith, hk, length-append (name_octets b n) (octets 1 c ++ (payload_octets (kind_of letters c) x (body letters (is_table (kind_of letters c)) u) ++ body letters b t))))
  entries-fuel-here (item n c x u t) (suc k) d b s p end room f hr h hk he =
      let N = name_octets b n in
      let sh = kind_of letters c in
      let P = payload_octets sh x (body letters (is_table sh) u) in
      let A = body letters b t in
      let r = p + length N + 1 in
      let h1 : Stands s p N = stands-left N (octets 1 c ++ (P ++ A)) h in
      let g1 : Stands s (p + length N) (octets 1 c ++ (P ++ A)) = stands-right N (octets 1 c ++ (P ++ A)) h in
      let h2 : Stands s (p + length N) (octets 1 c) = stands-left (octets 1 c) (P ++ A) g1 in
      let g2 : Stands s r (P ++ A) = stands-right (octets 1 c) (P ++ A) g1 in
      let h3 : Stands s r P = stands-left P A g2 in
      let g3 : Stands s (r + length P) A = stands-right P A g2 in
      let l1 = length-append N (octets 1 c ++ (P ++ A)) in
      let l2 = length-append P A in
      let z = size-place letters u (is_table sh) (r + 4) in
      entries-fuel-step (value_at letters d) b s k p end room (omega arith)
      ∙ (rw (
        name-here b n f.0 h1,
        value-here c d x u room f.1 f.2 (omega arith) h2 h3 (container-here u s r (λ k' d' b' s' p' end' room'. entries-fuel-here u k' d' b' s' p' end' room')),
        z,
        entries-fuel-here t k d b s (r + length P) end (room - suc (size u)) f.3 (omega arith) g3 (omega arith) (omega arith),
      ))

  -- a whole table, and one that is cut short
  pub table_here : {s : List ℕ} {p : ℕ} (t : TableMeaning) (room : ℕ) → FitForest letters true 15 t → length (body letters true t) < 256 ^ 4 → size t ≤ room
      → Stands s p (table_octets letters t) → table_at letters s p room ≡ given (place_forest letters true (p + 4) t) (p + length (table_octets letters t))
  unfolding table_at
  table_here {s} {p} t room f l hr h = container-here t s p (entries-fuel-here t) true 15 room f l hr h

  pub table-cut : {s : List ℕ} {p : ℕ} (t : TableMeaning) (room : ℕ) → length (body letters true t) < 256 ^ 4 → Cut s p (table_octets letters t) → table_at letters s p room ≡ refused truncated
  unfolding table_at container_at
  table-cut {s} {p} t room l c = rw (long-cut (body letters true t) l c)

  -- a lone value
  pub lone-here : {s : List ℕ} {p : ℕ} (c : ℕ) (x : PayloadMeaning) (u : TableMeaning) (room : ℕ) → c < 256 → FitValue letters (kind_of letters c) 15 x u (λ b' d'. FitForest letters b' d' u) → size u < room
      → Stands s p (body letters false (item [] c x u none))
      → lone_value_at letters s p room
      ≡ given (item no_name c (place_payload (kind_of letters c) (p + 1) x) (place_forest letters (is_table (kind_of letters c)) (p + 1 + 4) u) none)
      (p + 1 + length (payload_octets (kind_of letters c) x (body letters (is_table (kind_of letters c)) u)))
  unfolding lone_value_at body
  lone-here {s} {p} c x u room l f hr h =
      let P = payload_octets (kind_of letters c) x (body letters (is_table (kind_of letters c)) u) in
      let a : Stands s p (octets 1 c) = stands-left (octets 1 c) (P ++ []) h in
      let b : Stands s (p + 1) (P ++ []) = stands-right (octets 1 c) (P ++ []) h in
      rw (value-here c 15 x u room l f hr a (stands-left P [] b) (container-here u s (p + 1) (entries-fuel-here u)))

  -- What is located means what was written
  payload-is : (x : PayloadMeaning) (a b : ℕ) (c : List ℕ) → x.first ≡ a → x.second ≡ b → x.text ≡ c → ◌≡◌ {A = PayloadMeaning} (record { first = a; second = b; text = c }) x
  payload-is x a b c p q r = λ i. record { first = sym p i; second = sym q i; text = sym r i }

  pub leaf-meaning : {s : List ℕ} {p : ℕ} (l : Leaf) (x : PayloadMeaning) → FitLeaf l x → Stands s p (leaf_octets l x) → leaf_meaning l s (place_leaf l p x) ≡ x
  unfolding place_leaf
  leaf-meaning (number k) x f h = payload-is x x.first 0 [] refl f.1 f.2
  leaf-meaning boolean x f h = payload-is x x.first 0 [] refl f.1 f.2
  leaf-meaning decimal x f h = payload-is x x.first x.second [] refl refl f.2
  leaf-meaning {s} {p} kind.long_str x f h =
      payload-is x 0 0 (take (length x.text) (drop (p + 4) s)) f.0 f.1 (sym (stands-right (octets 4 (length x.text)) x.text h).same)
  leaf-meaning {s} {p} kind.short_str x f h =
      payload-is x 0 0 (take (length x.text) (drop (p + 1) s)) f.0 f.1 (sym (stands-right (octets 1 (length x.text)) x.text h).same)

  name-meaning : {s : List ℕ} {p : ℕ} (b : Bool) (n : List ℕ) → FitName b n → Stands s p (name_octets b n) → octets_of s (place_name b p n) ≡ n
  unfolding place_name
  name-meaning true n f h = short-seen n h
  name-meaning false n f h = sym f

  value-meaning : {s : List ℕ} {p : ℕ} (k : Kind) (d : ℕ) (x : PayloadMeaning) (u : TableMeaning) → FitValue letters k d x u (λ b' d'. FitForest letters b' d' u)
      → Stands s p (payload_octets k x (body letters (is_table k) u))
      → ((b : Bool) (d : ℕ) → FitForest letters b d u → Stands s (p + 4) (body letters b u) → meaning_of letters s (place_forest letters b (p + 4) u) ≡ u)
      → (payload_meaning k s (place_payload k p x) ≡ x) × (meaning_of letters s (place_forest letters (is_table k) (p + 4) u) ≡ u)
  unfolding place_payload place_forest meaning_of
  value-meaning {s} {p} (leaf l) d x u f h ih = (leaf-meaning l x f.0 h, rw f.1)
  value-meaning (container b) zero x u f h ih = absurd f
  value-meaning (container b) (suc d) x u f h ih = (sym f.0, ih b d f.1 (stands-right (octets 4 (length (body letters b u))) (body letters b u) h))
  value-meaning unknown d x u f h ih = absurd f

  pub forest-meaning : (t : TableMeaning) (d : ℕ) (b : Bool) (s : List ℕ) (p : ℕ) → FitForest letters b d t → Stands s p (body letters b t) → meaning_of letters s (place_forest letters b p t) ≡ t
  unfolding body place_forest meaning_of
  forest-meaning none d b s p f h = refl
  forest-meaning (item n c x u t) d b s p f h =
      let N = name_octets b n in
      let k = kind_of letters c in
      let P = payload_octets k x (body letters (is_table k) u) in
      let A = body letters b t in
      let g2 : Stands s (p + length N + 1) (P ++ A) = stands-right (octets 1 c) (P ++ A) (stands-right N (octets 1 c ++ (P ++ A)) h) in
      let e = value-meaning k d x u f.2 (stands-left P A g2) (λ b' d' f' h'. forest-meaning u d' b' s (p + length N + 1 + 4) f' h') in
      rw (
        name-meaning b n f.0 (stands-left N (octets 1 c ++ (P ++ A)) h),
        e.0,
        e.1,
        forest-meaning t d b s (p + length N + 1 + length P) f.3 (stands-right P A g2),
      )
