-- What a forest must be to be written, and where its octets then stand.
use mathlib.Core.Path.{◌≡◌, refl}
use mathlib.Core.Bool.{Bool, true, false}
use mathlib.Core.List.{List, []}
use Prim.Native.Nat.{ℕ, zero, suc, ◌+◌, ◌^◌, ◌<◌}
use lib.ListN.{length}
use Rattle.types.specs.declared.Span.{Span}
use Rattle.types.proofs.RoundTrip.{FitShort, place_short}
use Rattle.tables.specs.Letters as kind
use Rattle.tables.specs.Letters.{Leaf, number, boolean, decimal, Kind, leaf, container, unknown, Letters, kind_of, is_table}
use Rattle.tables.specs.Forest.{none, item, size, Words, words, PayloadMeaning, TableMeaning, LocatedTable}
use Rattle.tables.specs.Reading.{no_name}
use Rattle.tables.specs.Writing.{payload_octets, name_octets, body}

abbrev pub no_payload : PayloadMeaning
no_payload = record { first = 0; second = 0; text = [] }

abbrev pub FitLeaf : Leaf → PayloadMeaning → Type 0
FitLeaf (number k) x = (x.first < 256 ^ k) × (x.second ≡ 0) × (x.text ≡ [])
FitLeaf boolean x = (x.first < 2) × (x.second ≡ 0) × (x.text ≡ [])
FitLeaf decimal x = (x.first < 256) × (x.second < 256 ^ 4) × (x.text ≡ [])
FitLeaf kind.long_str x = (x.first ≡ 0) × (x.second ≡ 0) × (length x.text < 256 ^ 4)
FitLeaf kind.short_str x = (x.first ≡ 0) × (x.second ≡ 0) × FitShort x.text

abbrev pub FitName : Bool → List ℕ → Type 0
FitName true n = FitShort n
FitName false n = n ≡ []

-- where a payload at p has its words
unfoldable pub place_leaf : Leaf → ℕ → PayloadMeaning → Words
place_leaf (number k) p x = words x.first 0
place_leaf boolean p x = words x.first 0
place_leaf decimal p x = words x.first x.second
place_leaf kind.long_str p x = words (p + 4) (length x.text)
place_leaf kind.short_str p x = words (p + 1) (length x.text)

unfoldable pub place_payload : Kind → ℕ → PayloadMeaning → Words
place_payload (leaf l) p x = place_leaf l p x
place_payload (container b) p x = words 0 0
place_payload unknown p x = words 0 0

unfoldable pub place_name : Bool → ℕ → List ℕ → Span
place_name true p n = place_short p n
place_name false p n = no_name

module _ (letters : Letters) where
  abbrev pub FitValue : Kind → ℕ → PayloadMeaning → TableMeaning → (Bool → ℕ → Type 0) → Type 0
  FitValue (leaf l) d x u F = FitLeaf l x × (u ≡ none)
  FitValue (container b) zero x u F = ⊥
  FitValue (container b) (suc d) x u F = (x ≡ no_payload) × F b d × (length (body letters b u) < 256 ^ 4)
  FitValue unknown d x u F = ⊥

  -- a forest whose values have d levels below them
  abbrev pub FitForest : Bool → ℕ → TableMeaning → Type 0
  FitForest b d none = Unit {0}
  FitForest b d (item n c x u t) =
      FitName b n × (c < 256) × FitValue (kind_of letters c) d x u (λ b' d'. FitForest b' d' u) × FitForest b d t

  -- a forest whose octets stand at p
  unfoldable pub place_forest : Bool → ℕ → TableMeaning → LocatedTable
  place_forest b p none = none
  place_forest b p (item n c x u t) =
      let r = p + length (name_octets b n) + 1 in
      item (place_name b p n) c (place_payload (kind_of letters c) r x) (place_forest (is_table (kind_of letters c)) (r + 4) u)
      (place_forest b (r + length (payload_octets (kind_of letters c) x (body letters (is_table (kind_of letters c)) u))) t)

  pub size-place : (t : TableMeaning) (b : Bool) (p : ℕ) → size (place_forest b p t) ≡ size t
  unfolding size place_forest
  size-place none b p = refl
  size-place (item n c x u t) b p =
      let r = p + length (name_octets b n) + 1 in
      rw (
        size-place u (is_table (kind_of letters c)) (r + 4),
        size-place t b (r + length (payload_octets (kind_of letters c) x (body letters (is_table (kind_of letters c)) u))),
      )
