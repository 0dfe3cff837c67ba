use Rattle.std.proofs.Common.{map, sym, ap, ◌∙◌}
use Rattle.rule_maps.specs.declared.rows.Row.{Row}
use Rattle.rule_maps.specs.Rows.{named}
use Rattle.rule_maps.proofs.RowLemmas.{pairs_under}
use Rattle.rule_maps.proofs.table.Table.of.Goals as goal

pub returns : goal.returns
returns c =
    let rows = c.deref.result.now in
    pairs_under c.args.rows.items rows c.in_ok-heads.heads.items c.in_ok-pairs_of.field-0.items
    (λ name. ap (named name) c.deref.ensures.value ∙ c.in_ok-sort_rows.ensures.stable name) c.in_ok-heads.ensures
    (c.in_ok-pairs_of.ensures ∙ ap (map (λ (row : Row). row.pair)) (c.deref-3.ensures.value ∙ sym c.deref.ensures.value))
