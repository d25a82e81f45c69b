-- `method_reader::fields::store_bits` meets its contract. Assumes nothing.
use mathlib.Core.Path.{◌≡◌, refl, ap, ◌∙◌}
use mathlib.Core.Bool.{Bool}
use Rattle.std.specs.Prelude.{Option, None, Some}
use mathlib.Core.List.{List}
use Prim.Native.Nat.{ℕ}
use native.Mathlib.Omega.{arith}
use lib.ListN.{set}
use Rattle.std.proofs.Common.{rules}
use Rattle.types.specs.Answer.{Refusal, given, refused, not_written}
use Rattle.types.specs.Octets.{uint_at}
use Rattle.tables.specs.Letters.{errata}
use Rattle.method.specs.Fields.{bits}
use Rattle.method.specs.Reading.{arg_at}
use Rattle.method.specs.Layout.{places}
use Rattle.method.specs.Kinds.Bits.{Flags, packed, flags_in, written_at}
use Rattle.method_reader.specs.Fields.{flags_packed}
use Rattle.method_reader.proofs.FieldLaws.{stored_refused, stored-given}
use Rattle.method_reader.proofs.fields.store_bits.Goals as goal

module _ (ps : List Bool) where
  written-none : (o : Option (Flags ps)) → None ≡ flags_packed ps o → (p q : ℕ) → refused (not_written p) ≡ written_at p o q
  written-none None e p q = refl
  written-none (Some flags) e p q = let z : ◌≡◌ {A = ℕ} 0 1 = cc in absurd (omega arith)

  written-some : {G : Type 0} (o : Option (Flags ps)) (k : ℕ) → Some k ≡ flags_packed ps o → (p q : ℕ)
      → ((flags : Flags ps) → given flags q ≡ written_at p o q → k ≡ packed ps flags → G) → G
  written-some None k e p q found = let z : ◌≡◌ {A = ℕ} 0 1 = cc in absurd (omega arith)
  written-some (Some flags) k e p q found = found flags refl (cc)

  bits-read : (s : List ℕ) (p n q : ℕ) → given n q ≡ uint_at 1 s p → written_at p (flags_in ps n) q ≡ arg_at errata (bits ps) s p 0
  unfolding arg_at
  bits-read s p n q e = rw (← e)

  bits-refused : (s : List ℕ) (p : ℕ) {e : Refusal} → refused e ≡ uint_at 1 s p → refused e ≡ arg_at errata (bits ps) s p 0
  unfolding arg_at
  bits-refused s p e = rw (← e)

pub returns-in_err-n : goal.returns-in_err-n
returns-in_err-n c =
    stored_refused _ _ _ _ _ _ _ _ _ (bits-refused (places c.args.arguments) _ _ c.in_err-n.ensures) (search rules)

pub returns-in_default : goal.returns-in_default
returns-in_default c =
    let ps = places c.args.arguments in
    stored_refused _ _ _ _ _ _ _ _ _ (written-none ps _ c.in_default.ensures _ _ ∙ bits-read ps _ _ _ _ c.in_ok-n.ensures) refl

pub returns : goal.returns
returns c =
    let a = c.args in
    let ps = places a.arguments in
    let next = c.in_ok-n.next in
    written-some ps (flags_in ps c.in_ok-n.n) c.in-Some.flags c.in-Some.ensures a.at.at next.at
    (λ flags e p.
    stored-given _ (bits ps) a.s.now a.at.at 0 a.words.now _ flags tt next (e ∙ bits-read ps a.s.now a.at.at c.in_ok-n.n next.at c.in_ok-n.ensures) refl c.requires
    (ap (set a.words.now 0) p))
