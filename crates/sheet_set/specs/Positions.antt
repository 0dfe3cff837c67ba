-- The positions of sheets among the enabled ones, and their rules in order.
use Rattle.std.specs.Prelude.{ℕ, ◌+◌, List, [], ◌∷◌, ◌++◌, map, replicate, if◌then◌else◌, Vec}
use Rattle.std.specs.declared.alloc.Global.{Global}
use Rattle.sheet_model.specs.Sources.{rules_of_sheets}
use Rattle.selector_types.specs.declared.selector.Selector.{Selector}
use Rattle.sheet_set.specs.Kept.{kept_seen}
use Rattle.sheet_set.specs.Rules.{AreSame, placed_at, rules_with}
use Rattle.sheet_set.specs.declared.kept_sheet.KeptSheet.{KeptSheet}
use Rattle.sheet_set.specs.declared.sheet_rule.SheetRule.{SheetRule}

-- for each rule that takes part the position of its sheet, of which the first is given
abbrev pub positions_from : ℕ → List KeptSheet → List ℕ
positions_from position [] = []
positions_from position (kept ∷ others) =
    if kept.enabled
    then replicate kept.count position ++ positions_from (position + 1) others
    else positions_from position others

-- these rules, each with its own list of selectors, are those of the enabled ones among sheets, in order
abbrev pub AreRulesOf : List KeptSheet → List SheetRule → List (Vec Selector Global) → Type 0
AreRulesOf sheets rules lists =
    AreSame (placed_at (positions_from 0 sheets) (rules_with rules lists)) (rules_of_sheets (map kept_seen sheets))
