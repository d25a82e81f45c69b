-- What the layout of a pair says, and bounds that hold of every command and of the properties.
use mathlib.Core.Path.{◌≡◌, refl, ap}
use mathlib.Core.Bool.{Bool, true, false, ◌&&◌, cond}
use Rattle.std.specs.Prelude.{None, Some}
use mathlib.Core.List.{List, [], ◌∷◌, map}
use Prim.Native.Nat.{ℕ, ◌≤◌}
use native.Mathlib.Omega.{arith}
use lib.ListN.{length, length-map}
use lib.Dec.{leb, eqb}
use Rattle.types.proofs.Tests.{true-T, yes_leb}
use Rattle.tables.proofs.JudgeLaws.{and-true}
use Rattle.method.specs.Fields.{Field}
use Rattle.method.specs.Commands.{Row, commands, fields_in, or_none, known, fields_of}
use Rattle.method.specs.Properties.{properties, select, flags_of}
use Rattle.method.specs.Words.{widths}
use Rattle.method.specs.Layout.{field_of}
use Rattle.method.specs.declared.layout.Field.{Field as CodeField}

-- What holds of every row and of no field at all, holds of any command's fields: one test over the table

abbrev pub every : {A : Type 0} → (A → Bool) → List A → Bool
every f [] = true
every f (x ∷ xs) = f x && every f xs

every-row : (ok : List Field → Bool) → ok [] ≡ true → (rs : List Row) (c m : ℕ) → every (λ r. ok r.fields) rs ≡ true → ok (or_none (fields_in rs c m)) ≡ true
every-row ok z [] c m e = z
every-row ok z (r ∷ rs) c m e =
    let a = and-true (ok r.fields) (every (λ y. ok y.fields) rs) e in
    here a.0 (eqb c r.class && eqb m r.method) (every-row ok z rs c m a.1)
  where
    here : ok r.fields ≡ true → (b : Bool) → ok (or_none (fields_in rs c m)) ≡ true → ok (or_none (cond b (Some r.fields) (fields_in rs c m))) ≡ true
    here h true later = h
    here h false later = later

pub every-command : (ok : List Field → Bool) (c m : ℕ) → ok [] ≡ true → every (λ r. ok r.fields) commands ≡ true → ok (fields_of c m) ≡ true
unfolding fields_of
every-command ok c m z e = every-row ok z commands c m e

pub command-widths : (c m : ℕ) → widths (fields_of c m) ≤ 8
command-widths c m = yes_leb (widths (fields_of c m)) 8 (every-command (λ fs. leb (widths fs) 8) c m refl (unfold commands in refl))

pub command-length : (c m : ℕ) → length (fields_of c m) ≤ 8
command-length c m = yes_leb (length (fields_of c m)) 8 (every-command (λ fs. leb (length fs) 8) c m refl (unfold commands in refl))

-- The properties present

pub select-every : (f : Field → Bool) (ps : List Bool) (fs : List Field) → every f fs ≡ true → every f (select ps fs) ≡ true
unfolding select
select-every f [] fs e = refl
select-every f (p ∷ ps) [] e = refl
select-every f (true ∷ ps) (x ∷ fs) e =
    let a = and-true (f x) (every f fs) e in
    rw a.0 (select-every f ps fs a.1)
select-every f (false ∷ ps) (x ∷ fs) e = select-every f ps fs (and-true (f x) (every f fs) e).1

select-true : (ps : List Bool) (fs : List Field) → every (λ p. p) ps ≡ true → length fs ≤ length ps → select ps fs ≡ fs
unfolding select
select-true [] [] e h = refl
select-true [] (f ∷ fs) e h = absurd (omega arith)
select-true (p ∷ ps) [] e h = refl
select-true (true ∷ ps) (f ∷ fs) e h = ap (λ (gs : List Field). f ∷ gs) (select-true ps fs e (omega arith))
select-true (false ∷ ps) (f ∷ fs) e h = absurd (true-T e)

pub select-all : (fs : List Field) → length fs ≤ 13 → select (flags_of 13 8191) fs ≡ fs
unfolding flags_of
select-all fs h = select-true (flags_of 13 8191) fs refl h

-- What the layout of a pair says: it is known, and these are its fields, all of which are present

pub layout-known : (layout : List CodeField) (c m : ℕ) → Some (map field_of layout) ≡ fields_in commands c m → (known c m ≡ true) × (map field_of layout ≡ fields_of c m)
unfolding known fields_of
layout-known layout c m e = rw (← e) (refl, refl)

pub layout-unknown : (c m : ℕ) → None ≡ fields_in commands c m → known c m ≡ false
unfolding known
layout-unknown c m e = rw (← e) refl

pub layout-length : (layout : List CodeField) (c m : ℕ) → map field_of layout ≡ fields_of c m → length layout ≤ 8
layout-length layout c m e = omega (arith, command-length c m, ap length e, length-map layout field_of)

pub all-present : (layout : List CodeField) (c m : ℕ) → map field_of layout ≡ fields_of c m → select (flags_of 13 8191) (map field_of layout) ≡ fields_of c m
all-present layout c m e = rw e (select-all (fields_of c m) (omega (arith, command-length c m)))

select-widths : (ps : List Bool) (fs : List Field) → widths (select ps fs) ≤ widths fs
unfolding select
select-widths [] fs = omega arith
select-widths (p ∷ ps) [] = omega arith
select-widths (true ∷ ps) (f ∷ fs) = omega (arith, select-widths ps fs)
select-widths (false ∷ ps) (f ∷ fs) = omega (arith, select-widths ps fs)

pub property-widths : (ps : List Bool) → widths (select ps properties) ≤ 22
property-widths ps =
    let e : widths properties ≡ 22 = unfold properties in refl in
    omega (arith, select-widths ps properties)
