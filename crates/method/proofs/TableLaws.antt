-- The laws of a table.
use mathlib.Core.Path.{refl, sym, ◌∙◌}
use mathlib.Core.Bool.{true}
use Prim.Native.Nat.{◌+◌, ◌^◌, ◌<◌}
use native.Mathlib.Omega.{arith}
use lib.ListN.{length}
use lib.Seq.{take-append_seam}
use Rattle.types.specs.Octets.{octets}
use Rattle.types.proofs.Chain.{then-go, given-next, given-value}
use Rattle.types.proofs.Standing.{stands-right}
use Rattle.tables.specs.Letters.{Letters}
use Rattle.tables.specs.Tape.{flatten}
use Rattle.tables.specs.Reading.{table_at}
use Rattle.tables.specs.Writing.{body, tape_meaning}
use Rattle.tables.proofs.Fit.{FitForest, place_forest, size-place}
use Rattle.tables.proofs.JudgeLaws.{table-fit}
use Rattle.tables.proofs.ReadingLaws.{table-move}
use Rattle.tables.proofs.RoundTrip.{table_here, table-cut, forest-meaning}
use Rattle.tables.proofs.TapeLaws.{length-flatten, forest-place}
use Rattle.method.specs.Kinds.Table.{table_kind}
use Rattle.method.proofs.Kind.{KindLaws}
use Rattle.method.proofs.LoginLaws.{length-fit, too_long_lem}

abbrev pub table_laws : (letters : Letters) → KindLaws letters table_kind
table_laws letters =
    record {
      within =
          λ s p room v q e.
          then-go (table_at letters s p room) _ v q e
          (λ t r e1 h1.
          let a = table-move letters s p room t r e1 in
          let m = given-next (record { start = p; entries = t }) v r q h1 in
          let w = given-value (record { start = p; entries = t }) v r q h1 in
          rw (← w) (record { far = omega (arith, a.far); inside = omega (arith, a.inside); fits = omega (arith, a.fits, length-flatten t) }));
      typed = λ s p room v q o e. tt;
      used-tape = λ v. sym (length-flatten v.entries);
      Fit = λ t. FitForest letters true 15 t × (length (body letters true t) < 256 ^ 4);
      place = λ p t. record { start = p; entries = place_forest letters true (p + 4) t };
      here = λ v room f c h. rw (table_here letters v room f.0 f.1 c h);
      cut = λ v room f c. rw (table-cut letters v room f.1 c);
      tape-size = λ v p. length-flatten (place_forest letters true (p + 4) v) ∙ size-place letters v true (p + 4);
      back =
          λ {s} {p} v more f h.
          let t = place_forest letters true (p + 4) v in
          rw (← (length-flatten t), take-append_seam (flatten t) more, forest-place letters true (p + 4) v)
          (forest-meaning letters v 15 true s (p + 4) f.0 (stands-right (octets 4 (length (body letters true v))) (body letters true v) h));
      sound = true;
      few = λ b pool tape v e l. let xs = body letters true (tape_meaning letters pool tape) in omega (arith, length-fit (length xs) l);
      long = λ x r e. too_long_lem (length (body letters true x)) r e;
      no_user = true;
      no_nul = λ e v. tt;
      fit =
          λ o b pool tape v t e l z.
          let n = length-fit (length (body letters true (tape_meaning letters pool tape))) l in
          (table-fit letters pool tape o e n, n);
      length-words = λ v. refl;
      words_back = λ v more. refl;
      kept = λ v t. refl;
    }
