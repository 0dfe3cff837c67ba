use Rattle.std.proofs.Common.{◌≡◌, ◌+◌, ◌++◌, List, drop}
use Rattle.std.specs.Prelude.{flat_map, sum_by}
use Rattle.cascade_model.specs.Matching.{all_matched}
use Rattle.cascade_core.specs.View.{lent_of}
use Rattle.layer_model.specs.Order.{Layers}
use Rattle.selector_types.specs.declared.selector.Selector.{Selector}
use Rattle.shorthands.specs.View.{declared_count, declared_of}
use Rattle.sheet_set.specs.Ranks.{rank_seen}
use Rattle.sheet_set.specs.View.{placed_rule_of, put_at}
use Rattle.element_styler.proofs.matching.add_declarations.Given as goal

-- what is added so far, and what is left, is the whole
abbrev pub invariant-loop-declared : goal.invariant-loop-declared
invariant-loop-declared l = record {
  added : (layers : Layers) (selectors : List Selector) → l.place.rank ≡ rank_seen layers l.rule → flat_map lent_of l.list.items ++ all_matched layers (put_at l.place.position (placed_rule_of l.rule selectors)) l.specificity l.index (flat_map declared_of (drop l.declared-index l.declared-items)) ≡ flat_map lent_of l.initial.list.items ++ all_matched layers (put_at l.place.position (placed_rule_of l.rule selectors)) l.specificity l.rule.body.value.first_index (flat_map declared_of l.declared-items);
  index : l.index + sum_by declared_count (drop l.declared-index l.declared-items) ≡ l.rule.body.value.first_index + sum_by declared_count l.declared-items;
}
