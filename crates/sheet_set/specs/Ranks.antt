-- How high the layers of rules are.
use Rattle.std.specs.Prelude.{ℕ}
use Rattle.layer_model.specs.Order.{Layers, layer_rank}
use Rattle.layer_order.specs.View.{origin_of}
use Rattle.sheet_set.specs.declared.sheet_rule.SheetRule.{SheetRule}

-- how high the layer of a rule is
abbrev pub rank_seen : Layers → SheetRule → ℕ
rank_seen layers rule = layer_rank layers (origin_of rule.body.value.origin) rule.body.value.layer
