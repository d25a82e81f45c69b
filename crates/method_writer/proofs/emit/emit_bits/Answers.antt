-- `method_writer::emit::emit_bits` meets its contract. Assumes nothing.
use mathlib.Core.Path.{◌≡◌, sym, ◌∙◌}
use Rattle.method_writer.proofs.EmitLaws.{number-ok, number-written, flags_octet, flags-lowest, flags-second, flags-both}
use Rattle.method_writer.proofs.emit.emit_bits.Goals as goal
use Rattle.method_writer.proofs.emit.emit_bits.Goals.{in-Lowest, in-Second, in-Both}

pub unwrap-requires : goal.unwrap-requires
unwrap-requires c = number-ok 1 _ c.write_u8.result _ _ c.requires c.write_u8.ensures

pub returns : goal.returns
returns c =
    let a = c.args in
    let octet : c.match-bits.octet ≡ flags_octet a.bits a.flags =
    elim c.match-bits.branch [
      | in-Lowest w ↦ w.octet-is ∙ (rw w.in-Lowest.is (sym (flags-lowest a.flags)))
      | in-Second w ↦ w.octet-is ∙ (rw w.in-Second.is (sym (flags-second a.flags)))
      | in-Both w ↦ w.octet-is ∙ (rw w.in-Both.is (sym (flags-both a.flags)))
    ] in
    rw (sym octet) (number-written 1 _ c.write_u8.result _ _ c.requires c.write_u8.ensures c.unwrap.ensures)
