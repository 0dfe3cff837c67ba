-- What a kept sheet stands for.
use Rattle.std.specs.Prelude.{List, map, flat_map}
use Rattle.base_model.specs.Sheet.{Sheet}
use Rattle.sheet_model.specs.Sources.{PlacedRule}
use Rattle.sheet_set.specs.Rules.{rules_with, sheet_made, taking_part}
use Rattle.sheet_set.specs.declared.kept_sheet.KeptSheet.{KeptSheet}

-- the sheet that is kept
abbrev pub kept_seen : KeptSheet → Sheet
kept_seen kept = sheet_made kept.number kept.origin kept.enabled kept.text kept.edition

-- the rules that it has of its own: those that wait
abbrev pub own_kept : KeptSheet → List PlacedRule
own_kept kept = rules_with kept.rules.items kept.selectors.items

-- the rules of these sheets that take part, wherever they stand
abbrev pub taking : List KeptSheet → List PlacedRule
taking sheets = flat_map taking_part (map kept_seen sheets)
