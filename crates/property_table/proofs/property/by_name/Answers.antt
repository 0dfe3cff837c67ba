use Rattle.std.proofs.Common.{Some, ap, sym, ◌∙◌, false, true}
use Rattle.std.specs.Str.{chars}
use Rattle.property_table.proofs.NameLemmas.{named_from-zero, named_row, named_from-end}
use Rattle.property_table.proofs.RowLemmas.{property_at}
use Rattle.property_table.proofs.property.by_name.Goals as goal

pub loop-row-init : goal.loop-row-init
loop-row-init c = named_from-zero (chars c.args.name.now)

pub loop-row-preserved : goal.loop-row-preserved
loop-row-preserved c =
    let rows = c.all-row-items.ensures in
    sym (named_row _ (chars c.args.name.now) c.loop-row.row-index _ false rows.rows c.loop-row-test.true c.if-eq_ascii_case.ensures.value)
    ∙ c.loop-row.invariant

pub returns-then-eq_ascii_case : goal.returns-then-eq_ascii_case
returns-then-eq_ascii_case c =
    let rows = c.all-row-items.ensures in
    let within = c.loop-row-test.true in
    ap Some (property_at _ _ _ rows.order within)
    ∙ (sym (named_row _ (chars c.args.name.now) c.loop-row.row-index _ true rows.rows within c.if-eq_ascii_case.ensures.value)
    ∙ c.loop-row.invariant)

pub returns : goal.returns
returns c =
    let rows = c.all-row-items.ensures in
    sym (named_from-end _ (chars c.args.name.now) c.loop-row.row-index rows.rows c.loop-row-test.false) ∙ c.loop-row.invariant
