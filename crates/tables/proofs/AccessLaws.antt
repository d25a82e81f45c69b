-- The letters of `values` are those of tables: a leaf record that a writer accepts, and so each that a reader makes, holds a value,
-- and a table or an array holds none.
use Rattle.std.specs.Prelude.{None}
use mathlib.Core.Path.{◌≡◌, refl, sym, subst}
use mathlib.Core.Bool.{Bool, true, false, ◌&&◌, cond}
use Rattle.std.specs.Prelude.{Some}
use mathlib.Core.List.{List, [], ◌∷◌}
use Prim.Native.Nat.{ℕ, ◌^◌}
use native.Mathlib.Omega.{arith}
use lib.Dec.{ltb, eqb}
use Rattle.types.specs.Answer.{bad_tape}
use Rattle.types.proofs.Chain.{test-none}
use Rattle.values.specs.Values as values
use Rattle.values.specs.Values.{value_of}
use Rattle.values.specs.declared.FieldValue.{FieldValue}
use Rattle.values.specs.declared.FieldValue.TheVariants as value
use Rattle.bits.specs.Signed.{signed}
use Rattle.tables.specs.Letters.{Leaf, number, boolean, decimal, Kind, leaf, container, unknown, Letters, errata, kind_of}
use Rattle.tables.specs.Forest.{Words}
use Rattle.tables.specs.Writing.{judge_leaf}
use Rattle.tables.proofs.JudgeLaws.{and-true, eqb_is}

-- a letter of some kind is one of the list's rows of that kind
abbrev Rows : (ℕ → Type 0) → Kind → Letters → Type 0
Rows P k [] = unknown ≡ k → ⊥
Rows P k (l ∷ ls) = (l.value ≡ k → P l.octet) × Rows P k ls

by_row : (P : ℕ → Type 0) (k : Kind) (letters : Letters) (c : ℕ) → Rows P k letters → kind_of letters c ≡ k → P c
unfolding kind_of
by_row P k [] c h e = absurd (h e)
by_row P k (l ∷ ls) c h e = go (eqb c l.octet) refl e (λ f. by_row P k ls c h.1 f)
  where
    go : (b : Bool) → eqb c l.octet ≡ b → cond b l.value (kind_of ls c) ≡ k → (kind_of ls c ≡ k → P c) → P c
    go true q f later = subst P (sym (eqb_is c l.octet q)) (h.0 f)
    go false q f later = later f

no-leaf : (l : Leaf) (b : Bool) → leaf l ≡ container b → ⊥
no-leaf l b e = let z : ◌≡◌ {A = ℕ} 0 1 = cc in omega arith

module _ (x : Words) where
  -- the words hold a value under the letter c
  abbrev Holds : ℕ → Type 0
  Holds c = (v : FieldValue) × (value_of (values.leaf c x.first x.second) ≡ Some v)

  module _ (pool : List ℕ) (i : ℕ) (l : Leaf) (judged : judge_leaf l pool i x ≡ None) where
    -- a number of k octets
    of_number : (c k : ℕ) → (ltb x.first (256 ^ k) ≡ true → eqb x.second 0 ≡ true → Holds c) → leaf (number k) ≡ leaf l → Holds c
    of_number c k h e =
        let same : l ≡ number k = cc in
        let t = test-none (ltb x.first (256 ^ k) && eqb x.second 0) (bad_tape i) None (rw same at judged) in
        let b = and-true (ltb x.first (256 ^ k)) (eqb x.second 0) t.0 in
        h b.0 b.1

    of-boolean : leaf boolean ≡ leaf l → Holds 116
    unfolding value_of
    of-boolean e =
        let same : l ≡ boolean = cc in
        let t = test-none (ltb x.first 2 && eqb x.second 0) (bad_tape i) None (rw same at judged) in
        let b = and-true (ltb x.first 2) (eqb x.second 0) t.0 in
        (value.Bool (eqb x.first 1), rw (b.0, b.1))

    of-decimal : leaf decimal ≡ leaf l → Holds 68
    unfolding value_of
    of-decimal e =
        let same : l ≡ decimal = cc in
        let t = test-none (ltb x.first 256 && ltb x.second (256 ^ 4)) (bad_tape i) None (rw same at judged) in
        let b = and-true (ltb x.first 256) (ltb x.second (256 ^ 4)) t.0 in
        (value.Decimal x.first (signed 32 x.second), rw (b.0, b.1))

    pub leaf-holds : (c : ℕ) → kind_of errata c ≡ leaf l → Holds c
    unfolding value_of
    leaf-holds c e =
        by_row Holds (leaf l) errata c (
          of-boolean,
          (
            of_number 98 1 (λ p q. (value.I8 (signed 8 x.first), rw (p, q))),
            (
              of_number 66 1 (λ p q. (value.U8 x.first, rw (p, q))),
              (
                of_number 115 2 (λ p q. (value.I16 (signed 16 x.first), rw (p, q))),
                (
                  of_number 117 2 (λ p q. (value.U16 x.first, rw (p, q))),
                  (
                    of_number 73 4 (λ p q. (value.I32 (signed 32 x.first), rw (p, q))),
                    (
                      of_number 105 4 (λ p q. (value.U32 x.first, rw (p, q))),
                      (
                        of_number 108 8 (λ p q. (value.I64 (signed 64 x.first), rw q)),
                        (
                          of_number 102 4 (λ p q. (values.f32_value x.first, rw (p, q))),
                          (
                            of_number 100 8 (λ p q. (values.f64_value x.first, rw q)),
                            (
                              of-decimal,
                              (
                                (λ f. (value.LongStr (values.span x.first x.second), refl)),
                                (
                                  (λ f. (value.Bytes (values.span x.first x.second), refl)),
                                  (
                                    of_number 84 8 (λ p q. (value.Timestamp x.first, rw q)),
                                    (
                                      of_number 86 0 (λ p q. (value.Void, rw (p, q))),
                                      (
                                        (λ f. absurd (no-leaf l true (sym f))),
                                        (
                                          (λ f. absurd (no-leaf l false (sym f))),
                                          (λ f. let z : ◌≡◌ {A = ℕ} 0 1 = cc in omega arith),
                                        ),
                                      ),
                                    ),
                                  ),
                                ),
                              ),
                            ),
                          ),
                        ),
                      ),
                    ),
                  ),
                ),
              ),
            ),
          ),
        ) e

  -- a table or an array
  pub container-holds-none : (c : ℕ) (named : Bool) → kind_of errata c ≡ container named → value_of (values.leaf c x.first x.second) ≡ None
  unfolding value_of
  container-holds-none c named e = by_row (λ o. value_of (values.leaf o x.first x.second) ≡ None) (container named) errata c ((λ f. absurd (no-leaf _ named f)), ((λ f. absurd (no-leaf _ named f)), ((λ f. absurd (no-leaf _ named f)), ((λ f. absurd (no-leaf _ named f)), ((λ f. absurd (no-leaf _ named f)), ((λ f. absurd (no-leaf _ named f)), ((λ f. absurd (no-leaf _ named f)), ((λ f. absurd (no-leaf _ named f)), ((λ f. absurd (no-leaf _ named f)), ((λ f. absurd (no-leaf _ named f)), ((λ f. absurd (no-leaf _ named f)), ((λ f. absurd (no-leaf _ named f)), ((λ f. absurd (no-leaf _ named f)), ((λ f. absurd (no-leaf _ named f)), ((λ f. absurd (no-leaf _ named f)), ((λ f. refl), ((λ f. refl), (λ f. let z : ◌≡◌ {A = ℕ} 0 1 = cc in omega arith)))))))))))))))))) e
