use Rattle.std.specs.Prelude.{◌≤◌, ℕ, List, length, take}
use Rattle.print.specs.declared.Printer.{Printer}

-- what is not yet written
abbrev pub pending_of : Printer → List ℕ
pending_of p = take p.at p.out.now

-- what is not yet written is within the buffer
abbrev pub FitsBuffer : Printer → Type 0
FitsBuffer p = p.at ≤ length p.out.now
