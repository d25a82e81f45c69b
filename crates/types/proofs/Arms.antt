-- A match over octets against a table of rows: one law for an arm of octets, one for the rest.
use mathlib.Core.Path.{◌≡◌, refl, sym, ap, ◌∙◌, subst}
use mathlib.Core.Logic.{inl, inr}
use mathlib.Core.Bool.{Bool, true, false, ◌&&◌, cond}
use mathlib.Core.List.{List, [], ◌∷◌}
use Prim.Native.Nat.{ℕ}
use lib.Dec.{T, eqb}
use borrow.Author.Tests.{eqb-true}
use types.Run.{OneOf, hit}
use mir.Val.{has_key}
use Rattle.types.specs.Lookup.{Row, lookup}

-- f is v at each key
abbrev pub Same : {A : Type 0} → (ℕ → A) → A → List ℕ → Type 0
Same f v [] = Unit
Same f v (k ∷ ks) = (f k ≡ v) × Same f v ks

pub arm : {A : Type 0} (f : ℕ → A) (v : A) (ks : List ℕ) (c : ℕ) → Same f v ks → OneOf ks c → f c ≡ v
arm f v [] c h o = absurd o
arm f v (k ∷ []) c h o = ap f o ∙ h.0
arm f v (k ∷ j ∷ ks) c h (inl e) = ap f e ∙ h.0
arm f v (k ∷ j ∷ ks) c h (inr o) = arm f v (j ∷ ks) c h.1 o

-- no key of the arms before the rest, the last arm first
abbrev pub Rest : List (List ℕ) → ℕ → Type 0
Rest [] c = Unit
Rest (ks ∷ kss) c = Rest kss c × (OneOf ks c → ⊥)

abbrev pub any_key : List (List ℕ) → ℕ → Bool
any_key [] c = false
any_key (ks ∷ kss) c = cond (has_key ks c) true (any_key kss c)

-- each row of the table has an arm: a test that antt computes
abbrev pub covers : {A : Type 0} → List (List ℕ) → List (Row A) → Bool
covers kss [] = true
covers kss (r ∷ rs) = any_key kss r.octet && covers kss rs

no_key : (kss : List (List ℕ)) (c : ℕ) → Rest kss c → T (any_key kss c) → ⊥
no_key [] c r t = t
no_key (ks ∷ kss) c r t = go (has_key ks c) refl t (λ h. no_key kss c r.0 h)
  where
    go : (b : Bool) → has_key ks c ≡ b → T (cond b true (any_key kss c)) → (T (any_key kss c) → ⊥) → ⊥
    go true e h later = r.1 (hit ks c (subst T (sym e) tt))
    go false e h later = later h

pub rest : {A : Type 0} (other : A) (kss : List (List ℕ)) (c : ℕ) (rs : List (Row A)) → Rest kss c → T (covers kss rs) → lookup other rs c ≡ other
rest other kss c [] r t = refl
rest other kss c (x ∷ rs) r t = go (any_key kss x.octet) refl (eqb c x.octet) refl t (λ h. rest other kss c rs r h)
  where
    go : (o : Bool) → any_key kss x.octet ≡ o → (b : Bool) → eqb c x.octet ≡ b → T (o && covers kss rs)
        → (T (covers kss rs) → lookup other rs c ≡ other) → cond b x.value (lookup other rs c) ≡ other
    go true o true q h later = absurd (no_key kss c r (subst (λ (k : ℕ). T (any_key kss k)) (sym (eqb-true c x.octet q)) (subst T (sym o) tt)))
    go true o false q h later = later h
    go false o b q h later = absurd h
