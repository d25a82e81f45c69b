-- What stands where: parts of joined octets.
use mathlib.Core.Path.{◌≡◌, refl, sym, ap, ◌∙◌}
use mathlib.Core.List.{List, [], ◌∷◌, ◌++◌, append_assoc, append-nil, IsPrefix}
use Prim.Native.Nat.{ℕ, ◌+◌, ◌≤◌, ◌<◌}
use native.Mathlib.Omega.{arith}
use lib.ListN.{length, take, drop, length-append, length-drop, take-append-drop}
use lib.Seq.{take-append_seam, drop-append_seam, take-append-le, drop-append-le, drop_at, drop-drop, take-take, take-length, take-add, length-take-le}
use lib.Dec.{leb}
use Rattle.types.proofs.Tests.{decide, yes_leb, no_leb}

-- xs, octets or records, stand in s at p, whole
pub record Stands {A : Type 0} (s : List A) (p : ℕ) (xs : List A) : Type 0 where
  pub fits : p + length xs ≤ length s
  pub same : take (length xs) (drop p s) ≡ xs

-- s ends inside the octets xs, which begin at p
pub record Cut (s : List ℕ) (p : ℕ) (xs : List ℕ) : Type 0 where
  pub inside : p ≤ length s
  pub less : length s < p + length xs
  pub same : drop p s ≡ take (length (drop p s)) xs

pub length-zero : {A : Type 0} (s : List A) → length s ≡ 0 → s ≡ []
length-zero [] e = refl
length-zero (x ∷ s) e = absurd (omega arith)

-- octets that s begins with, from p on
module _ (s : List ℕ) (p : ℕ) (xs more : List ℕ) (h : p ≤ length s) (e : IsPrefix (drop p s) (xs ++ more)) where
  pub stands-prefix : p + length xs ≤ length s → Stands s p xs
  stands-prefix f =
      record {
        fits = f;
        same =
            sym (take-append-le (length xs) (drop p s) e.0 (omega (arith, length-drop p s)))
            ∙ ap (take (length xs)) e.1
            ∙ take-append_seam xs more;
      }

  pub drop-prefix : p + length xs ≤ length s → IsPrefix (drop (p + length xs) s) more
  drop-prefix f = (
    e.0,
    rw (← (drop-drop (length xs) p s))
        (sym (drop-append-le (length xs) (drop p s) e.0 (omega (arith, length-drop p s)))
        ∙ ap (drop (length xs)) e.1
        ∙ drop-append_seam xs more),
  )

  pub cut-prefix : length s < p + length xs → Cut s p xs
  cut-prefix l =
      record {
        inside = h;
        less = l;
        same =
            sym (take-append_seam (drop p s) e.0)
            ∙ ap (take (length (drop p s))) e.1
            ∙ take-append-le (length (drop p s)) xs more (omega (arith, length-drop p s));
      }

-- the first octets of a list stand at 0
pub stands-head : {A : Type 0} (xs ys : List A) → Stands (xs ++ ys) 0 xs
stands-head xs ys = record { fits = omega (arith, length-append xs ys); same = take-append_seam xs ys }

-- of two that stand one behind the other each stands
pub stands-left : {A : Type 0} {s : List A} {p : ℕ} (xs ys : List A) → Stands s p (xs ++ ys) → Stands s p xs
stands-left {A} {s} {p} xs ys h =
    record {
      fits = omega (arith, h.fits, length-append xs ys);
      same =
          sym (take-take (length xs) (length (xs ++ ys)) (drop p s) (omega (arith, length-append xs ys)))
          ∙ ap (take (length xs)) h.same
          ∙ take-append_seam xs ys;
    }

pub stands-split : {A : Type 0} {s : List A} {p : ℕ} (xs : List A) → Stands s p xs → drop p s ≡ xs ++ drop (p + length xs) s
stands-split {A} {s} {p} xs h =
    sym (take-append-drop (length xs) (drop p s))
    ∙ ap (λ (l : List A). l ++ drop (length xs) (drop p s)) h.same
    ∙ ap (λ (l : List A). xs ++ l) (drop-drop (length xs) p s)

pub stands-right : {A : Type 0} {s : List A} {p : ℕ} (xs ys : List A) → Stands s p (xs ++ ys) → Stands s (p + length xs) ys
stands-right {A} {s} {p} xs ys h =
    record {
      fits = omega (arith, h.fits, length-append xs ys);
      same =
          ap (take (length ys))
          (sym (drop-drop (length xs) p s)
          ∙ ap (drop (length xs)) (stands-split (xs ++ ys) h ∙ append_assoc xs ys (drop (p + length (xs ++ ys)) s))
          ∙ drop-append_seam xs (ys ++ drop (p + length (xs ++ ys)) s))
          ∙ take-append_seam ys (drop (p + length (xs ++ ys)) s);
    }

pub stands-nil : {A : Type 0} {s : List A} {p : ℕ} → p ≤ length s → Stands s p []
stands-nil h = record { fits = omega arith; same = refl }

pub stands-join : {A : Type 0} {s : List A} {p : ℕ} (xs ys : List A) → Stands s p xs → Stands s (p + length xs) ys → Stands s p (xs ++ ys)
stands-join {A} {s} {p} xs ys h k =
    record {
      fits = omega (arith, k.fits, length-append xs ys);
      same =
          ap (take (length (xs ++ ys)))
          (stands-split xs h ∙ ap (λ (l : List A). xs ++ l) (stands-split ys k) ∙ sym (append_assoc xs ys (drop (p + length xs + length ys) s)))
          ∙ take-append_seam (xs ++ ys) (drop (p + length xs + length ys) s);
    }

-- an end inside two that stand one behind the other is inside the first, or behind it and inside the second
pub cut-begins : {s : List ℕ} {p : ℕ} (xs : List ℕ) → Cut s p xs → IsPrefix (drop p s) xs
cut-begins {s} {p} xs c = let n = length (drop p s) in (drop n xs, ap (λ (l : List ℕ). l ++ drop n xs) c.same ∙ take-append-drop n xs)

pub cut-split : {s : List ℕ} {p : ℕ} {G : Type 0} (xs ys : List ℕ) → Cut s p (xs ++ ys) → (Cut s p xs → G) → (Stands s p xs → Cut s (p + length xs) ys → G) → G
cut-split {s} {p} {G} xs ys c f g =
    let b = cut-begins (xs ++ ys) c in
    decide (leb (p + length xs) (length s))
    (λ y.
    let h = yes_leb (p + length xs) (length s) y in
    let r : IsPrefix (drop (p + length xs) s) (ys ++ []) = rw append-nil (drop-prefix s p xs ys c.inside b h) in
    g (stands-prefix s p xs ys c.inside b h) (cut-prefix s (p + length xs) ys [] h r (omega (arith, c.less, length-append xs ys))))
    (λ n. f (cut-prefix s p xs ys c.inside b (no_leb (p + length xs) (length s) n)))

-- octets end where a part of them is taken
pub stands-within : {A : Type 0} {s : List A} {p : ℕ} (xs : List A) → Stands s p xs → Stands (take (p + length xs) s) p xs
stands-within {A} {s} {p} xs h =
    let l : length (take p s) ≡ p = length-take-le p s (omega (arith, h.fits)) in
    let e : take (p + length xs) s ≡ take p s ++ xs = take-add p (length xs) s ∙ ap (λ (k : List A). take p s ++ k) h.same in
    rw e
    (record {
      fits = omega (arith, length-append (take p s) xs);
      same = ap (take (length xs)) (drop_at (take p s) xs p l) ∙ take-length xs;
    })
