-- What is kept of sheets while they are edited: the rules of the enabled ones, wherever their sheets stand.
use Rattle.std.specs.Prelude.{◌≡◌, ℕ, List, take, drop, length, map, sum_by, Vec}
use Rattle.std.specs.declared.alloc.Global.{Global}
use Rattle.layer_model.specs.Order.{Layers, layer_rank}
use Rattle.sheet_model.specs.Sources.{PlacedRule}
use Rattle.selector_types.specs.declared.selector.Selector.{Selector}
use Rattle.sheet_set.specs.declared.sheet_rule.SheetRule.{SheetRule}
use Rattle.sheet_set.specs.declared.kept_sheet.KeptSheet.{KeptSheet}
use Rattle.sheet_set.specs.Kept.{taking}
use Rattle.sheet_set.specs.Rules.{AreSame, rules_with}

-- how high the layer of a rule is
abbrev pub rank_placed : Layers → PlacedRule → ℕ
rank_placed layers rule = layer_rank layers rule.origin rule.layer

-- The rules with their selectors are those of the sheets that take part, and the ranks are theirs.
pub record AreKept (sheets : List KeptSheet) (rules : List SheetRule) (lists : List (Vec Selector Global))
    (layers : Layers) (ranks : List ℕ) : Type 0 where
  pub texts : AreSame (rules_with rules lists) (taking sheets)
  pub paired : length rules ≡ length lists
  pub ranked : ranks ≡ map (rank_placed layers) (rules_with rules lists)

-- how many rules the text of the sheet at a place has: none where there is no sheet
abbrev pub count_at : ℕ → List KeptSheet → ℕ
count_at place sheets = sum_by (λ (kept : KeptSheet). kept.count) (take 1 (drop place sheets))
