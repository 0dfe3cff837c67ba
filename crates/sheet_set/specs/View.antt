-- What the sheets of the code stand for.
use Rattle.std.specs.Prelude.{List, map}
use Rattle.sheet_model.specs.Sources.{PlacedRule, Sources}
use Rattle.edit_model.specs.SheetApply.{SheetList}
use Rattle.shorthands.specs.declared.property_name.PropertyName.{PropertyName}
use Rattle.shorthands.specs.declared.property_name.PropertyName.TheVariants as property_name
use Rattle.shorthands.specs.declared.declared.Target.{Target}
use Rattle.shorthands.specs.declared.declared.Target.TheVariants as target
pub use Rattle.sheet_set.specs.Rules.{rule_count, placed_at, placed_rule_of, put_at, rules_with}
pub use Rattle.sheet_set.specs.Kept.{kept_seen, own_kept}
use Rattle.sheet_set.specs.declared.sheets.Sheets.{Sheets}

-- the target that a property name is
abbrev pub target_of : PropertyName → Target
target_of (property_name.Longhand id) = target.Longhand id
target_of (property_name.Shorthand short) = target.Shorthand short

-- the rules of the enabled sheets, each at the position of its sheet
abbrev pub rules_of : Sheets → List PlacedRule
rules_of sheets = placed_at sheets.positions.items (rules_with sheets.rules.items sheets.selectors.items)

abbrev pub sources_seen : Sheets → Sources
sources_seen sheets = record { rules = rules_of sheets; layers = sheets.layers }

-- the sheets, with the last number that was given to one
abbrev pub listed_seen : Sheets → SheetList
listed_seen sheets = record { listed = map kept_seen sheets.sheets.items; last = sheets.last }
