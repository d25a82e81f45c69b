-- Where the readers of fields, commands and content headers end, and that their tape records are in the room.
use mathlib.Core.Path.{◌≡◌}
use mathlib.Core.List.{List, [], ◌∷◌}
use Prim.Native.Nat.{ℕ, ◌+◌, ◌-◌, ◌/◌, ◌≤◌}
use native.Mathlib.Omega.{arith}
use lib.ListN.{length, length-append}
use lib.Dec.{leb}
use Rattle.types.specs.Answer.{given}
use Rattle.types.specs.Octets.{uint_at}
use Rattle.types.specs.Strings.{octets_of, span_at}
use Rattle.types.proofs.Chain.{then-go, need-given, given-next, given-value}
use Rattle.types.proofs.RoundTrip.{number-move, span-move}
use Rattle.tables.specs.Letters.{Letters}
use Rattle.method.specs.Fields.{Kind, Field, fixed, arg, Located, Args}
use Rattle.method.specs.Commands.{known, fields_of, Command}
use Rattle.method.specs.Properties.{properties, select, flags_of, Header}
use Rattle.method.specs.Reading.{same, arg_at, arg_tape, tape_of, fixed_at, fields_at, command_at, header_at, command_with_tape, header_with_tape}
use Rattle.method.proofs.Kind.{Within}
use Rattle.method.proofs.KindLaws.{laws}

fixed-move : (xs s : List ℕ) (p : ℕ) (x : Unit {0}) (q : ℕ) → fixed_at xs s p ≡ given x q → (q ≡ p + length xs) × (q ≤ length s)
unfolding fixed_at
fixed-move xs s p x q e =
    then-go (span_at (length xs) s p) _ x q e
    (λ v r e1 h1.
    let a = span-move (length xs) s p v r e1 in
    let b = need-given (same (octets_of s v) xs) _ _ x q h1 in
    let m = given-next tt x r q b.1 in
    (omega (arith, a.0), omega (arith, a.1)))

module _ (letters : Letters) where
  pub arg-within : (k : Kind) (s : List ℕ) (p room : ℕ) (v : Located k) (q : ℕ) → arg_at letters k s p room ≡ given v q → Within s p room q (length (arg_tape k v))
  unfolding arg_at
  arg-within k s p room v q e = (laws letters k).within s p room v q e

  pub fields_within : (fs : List Field) (s : List ℕ) (p room : ℕ) (vs : Args Located fs) (q : ℕ) → p ≤ length s → fields_at letters fs s p room ≡ given vs q
      → Within s p room q (length (tape_of fs vs))
  unfolding fields_at fixed_at tape_of
  fields_within [] s p room vs q h e =
      let m = given-next _ vs p q e in
      record { far = omega arith; inside = omega arith; fits = omega arith }
  fields_within (fixed xs ∷ fs) s p room vs q h e =
      then-go (fixed_at xs s p) _ vs q e
      (λ x r e1 h1.
      let a = fixed-move xs s p x r e1 in
      let c = fields_within fs s r room vs q a.1 h1 in
      record { far = omega (arith, a.0, c.far); inside = c.inside; fits = c.fits })
  fields_within (arg k ∷ fs) s p room vs q h e =
      then-go (arg_at letters k s p room) _ vs q e
      (λ v r e1 h1.
      then-go (fields_at letters fs s r (room - length (arg_tape k v))) _ vs q h1
      (λ ws t e2 h2.
      let a = arg-within k s p room v r e1 in
      let c = fields_within fs s r (room - length (arg_tape k v)) ws t a.inside e2 in
      let m = given-next _ vs t q h2 in
      let w = given-value _ vs t q h2 in
      let l = length-append (arg_tape k v) (tape_of fs ws) in
      rw (← w) (record { far = omega (arith, a.far, c.far); inside = omega (arith, c.inside); fits = omega (arith, a.fits, c.fits) })))

  pub command-within : (s : List ℕ) (p room : ℕ) (x : Command Located) (q : ℕ) → command_at letters s p room ≡ given x q → Within s p room q (length (command_with_tape x).tape)
  unfolding command_at
  command-within s p room x q e =
      then-go (uint_at 2 s p) _ x q e
      (λ c r e1 h1.
      then-go (uint_at 2 s r) _ x q h1
      (λ m t e2 h2.
      let o = need-given (known c m) _ _ x q h2 in
      then-go (fields_at letters (fields_of c m) s t room) _ x q o.1
      (λ vs u e3 h3.
      let o2 = need-given (leb (length s) u) _ _ x q h3 in
      let a = number-move 2 s p c r e1 in
      let b = number-move 2 s r m t e2 in
      let f = fields_within (fields_of c m) s t room vs u b.1 e3 in
      let n = given-next _ x u q o2.1 in
      let w = given-value _ x u q o2.1 in
      rw (← w) (record { far = omega (arith, a.0, b.0, f.far); inside = omega (arith, f.inside); fits = f.fits }))))

  pub header-within : (s : List ℕ) (p room : ℕ) (x : Header Located) (q : ℕ) → header_at letters s p room ≡ given x q → Within s p room q (length (header_with_tape x).tape)
  unfolding header_at
  header-within s p room x q e =
      then-go (uint_at 2 s p) _ x q e
      (λ c p1 e1 h1.
      then-go (uint_at 2 s p1) _ x q h1
      (λ w p2 e2 h2.
      then-go (uint_at 8 s p2) _ x q h2
      (λ n p3 e3 h3.
      then-go (uint_at 2 s p3) _ x q h3
      (λ fl p4 e4 h4.
      then-go (fields_at letters (select (flags_of 13 (fl / 8)) properties) s p4 room) _ x q h4
      (λ vs p5 e5 h5.
      let a1 = number-move 2 s p c p1 e1 in
      let a2 = number-move 2 s p1 w p2 e2 in
      let a3 = number-move 8 s p2 n p3 e3 in
      let a4 = number-move 2 s p3 fl p4 e4 in
      let f = fields_within (select (flags_of 13 (fl / 8)) properties) s p4 room vs p5 a4.1 e5 in
      let m = given-next _ x p5 q h5 in
      let v = given-value _ x p5 q h5 in
      rw (← v) (record { far = omega (arith, a1.0, a2.0, a3.0, a4.0, f.far); inside = omega (arith, f.inside); fits = f.fits }))))))
