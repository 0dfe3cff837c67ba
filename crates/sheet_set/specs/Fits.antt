-- What holds of a plan over the sheets that it was made for.
use Rattle.std.specs.Prelude.{◌≡◌, ◌≤◌, length, unwrap_or}
use Rattle.base_model.specs.Limits.{number_limit, sheet_limit}
use Rattle.sheet_model.specs.Sources.{layers_of_sheets}
use Rattle.edit_model.specs.SheetApply.{AreNumbered, SheetList}
use Rattle.sheet_set.specs.declared.sheet_plan.SheetPlan.{SheetPlan}
use Rattle.sheet_set.specs.declared.sheets.Sheets.{Sheets}
use Rattle.sheet_set.specs.Planned.{planned}
use Rattle.sheet_set.specs.Room.{HasPlaces, HasRoom}
use Rattle.sheet_set.specs.View.{listed_seen}

-- what is seen of sheets, which room does not change
pub record AreSameSheets (old new : Sheets) : Type 0 where
  pub sheets : new.sheets.items ≡ old.sheets.items
  pub last : new.last ≡ old.last
  pub rules : new.rules.items ≡ old.rules.items
  pub selectors : new.selectors.items ≡ old.selectors.items
  pub ranks : new.ranks.items ≡ old.ranks.items
  pub positions : new.positions.items ≡ old.positions.items
  pub layers : new.layers ≡ old.layers

-- the list of sheets afterwards
abbrev pub list_after : Sheets → SheetPlan → SheetList
list_after sheets plan = planned plan.step (listed_seen sheets)

pub record Fits (sheets : Sheets) (plan : SheetPlan) : Type 0 where
  pub room : HasRoom sheets.sheets sheets.rules sheets.selectors sheets.ranks plan.step
  pub places : HasPlaces sheets.sheets.items sheets.positions plan.step
  pub numbered : AreNumbered (list_after sheets plan)
  pub few : length (list_after sheets plan).listed ≤ sheet_limit
  pub given : (list_after sheets plan).last ≤ number_limit
  pub layers : unwrap_or plan.layers sheets.layers ≡ layers_of_sheets (list_after sheets plan).listed
