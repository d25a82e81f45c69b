-- `table_reader::fill::fill_entries` and `fill_value`, which call each other, meet their contracts. The loop's invariant: what is
-- left, when it is done, does the whole; its measure is what the tape has left. Assumes nothing.
use mathlib.Core.Path.{sym, ◌∙◌}
use native.Mathlib.Omega.{arith}
use Rattle.tables.specs.Letters.{errata}
use Rattle.table_reader.proofs.FillLaws.{body-inside, entries_fit, entries-stored, has_body, at-end, step-name, step_value, step_less, step-again}
use Rattle.table_reader.proofs.FillLaws.{no-container, has_kind, has_payload, ready, letter-in, body-depth, body-fits, body-stored, leaf-stored}
use Rattle.table_reader.proofs.fill.+fill_entries_fill_value.Goals as goal

pub fill_entries-name_at-requires : goal.fill_entries-name_at-requires
fill_entries-name_at-requires t c =
    step-name c.loop-here.invariant c.loop-here-test.true

pub fill_entries-fill_value-requires : goal.fill_entries-fill_value-requires
fill_entries-fill_value-requires t c =
    (omega (arith, c.decreases), step_value c.loop-here.invariant c.loop-here-test.true c.name_at.result.0 c.name_at.result.1.at c.name_at.ensures)

pub fill_entries-loop-here-smaller : goal.fill_entries-loop-here-smaller
fill_entries-loop-here-smaller t c =
    let l = step_less c.loop-here.invariant c.loop-here-test.true c.name_at.result.0 c.name_at.result.1.at c.name_at.ensures
    c.fill_value.new.tape c.fill_value.result c.fill_value.ensures in
    omega (arith, c.loop-here.invariant.same)

pub fill_entries-loop-here-preserved : goal.fill_entries-loop-here-preserved
fill_entries-loop-here-preserved t c =
    step-again c.loop-here.invariant c.loop-here-test.true c.name_at.result.0 c.name_at.result.1.at c.name_at.ensures
    c.fill_value.new.tape c.fill_value.result c.fill_value.ensures

pub fill_entries-returns : goal.fill_entries-returns
fill_entries-returns t c =
    at-end c.loop-here.invariant c.loop-here-test.false

pub fill_value-bounds-s-at : goal.fill_value-bounds-s-at
fill_value-bounds-s-at t c =
    let a = c.args in
    omega (arith, letter-in (ready errata a.levels a.s.now a.at.at a.name a.k a.tape.now c.requires))

pub fill_value-overflow_add-next : goal.fill_value-overflow_add-next
fill_value-overflow_add-next t c =
    let a = c.args in
    omega (arith, letter-in (ready errata a.levels a.s.now a.at.at a.name a.k a.tape.now c.requires))

pub fill_value-unwrap-kind-requires : goal.fill_value-unwrap-kind-requires
fill_value-unwrap-kind-requires t c =
    let a = c.args in
    has_kind (ready errata a.levels a.s.now a.at.at a.name a.k a.tape.now c.requires) c.kind_of.result c.kind_of.ensures

pub fill_value-unwrap-requires : goal.fill_value-unwrap-requires
fill_value-unwrap-requires t c =
    let a = c.args in
    let r = ready errata a.levels a.s.now a.at.at a.name a.k a.tape.now c.requires in
    let kind = rw c.unwrap-kind.ensures at c.kind_of.ensures in
    has_payload r (λ b e. no-container _ c.in_default.not-Container b (kind ∙ e)) c.leaf_at.result (rw kind at c.leaf_at.ensures)

pub fill_value-returns-in_default : goal.fill_value-returns-in_default
fill_value-returns-in_default t c =
    let a = c.args in
    let r = ready errata a.levels a.s.now a.at.at a.name a.k a.tape.now c.requires in
    let kind = rw c.unwrap-kind.ensures at c.kind_of.ensures in
    leaf-stored r (λ b e. no-container _ c.in_default.not-Container b (kind ∙ e)) _ _ _ (rw (c.unwrap.ensures, kind) at c.leaf_at.ensures) c.put_record.ensures

pub fill_value-unwrap-requires-2 : goal.fill_value-unwrap-requires-2
fill_value-unwrap-requires-2 t c =
    let a = c.args in
    let r = ready errata a.levels a.s.now a.at.at a.name a.k a.tape.now c.requires in
    let kind = rw (c.unwrap-kind.ensures, c.in-Container.is) at c.kind_of.ensures in
    has_body _ _ _ _ _ _ _ c.long_str.result c.long_str.ensures (body-fits r _ (sym kind))

pub fill_value-overflow_sub-levels : goal.fill_value-overflow_sub-levels
fill_value-overflow_sub-levels t c =
    let a = c.args in
    let kind = rw (c.unwrap-kind.ensures, c.in-Container.is) at c.kind_of.ensures in
    body-depth (ready errata a.levels a.s.now a.at.at a.name a.k a.tape.now c.requires) _ (sym kind)

pub fill_value-fill_entries-end-requires : goal.fill_value-fill_entries-end-requires
fill_value-fill_entries-end-requires t c =
    let a = c.args in
    let r = ready errata a.levels a.s.now a.at.at a.name a.k a.tape.now c.requires in
    let kind = sym (rw (c.unwrap-kind.ensures, c.in-Container.is) at c.kind_of.ensures) in
    let read = sym (rw c.unwrap-2.ensures at c.long_str.ensures) in
    (omega (arith, body-depth r _ kind, c.decreases), (body-inside _ _ _ _ read, entries_fit _ _ _ _ _ _ _ read _ _ (body-fits r _ kind)))

pub fill_value-returns : goal.fill_value-returns
fill_value-returns t c =
    let a = c.args in
    let r = ready errata a.levels a.s.now a.at.at a.name a.k a.tape.now c.requires in
    let kind = sym (rw (c.unwrap-kind.ensures, c.in-Container.is) at c.kind_of.ensures) in
    let read = sym (rw c.unwrap-2.ensures at c.long_str.ensures) in
    let filled = c.fill_entries-end in
    body-stored r _ kind filled.new.tape filled.result
    (entries-stored _ _ _ _ _ _ _ read _ _ filled.new.tape filled.result filled.ensures) _ c.put_record-2.new.tape c.number-payload.ensures c.put_record-2.ensures
