-- The room that a step of an edit needs, and what else has to be so that it can be made.
use Rattle.std.specs.Prelude.{◌≡◌, ℕ, ◌+◌, ◌≤◌, ◌<◌, List, drop, take, length, flat_map, map, sum_by, Vec, vec_len, vec_capacity, false, if◌then◌else◌, ⊤}
use Rattle.std.specs.declared.alloc.Global.{Global}
use Rattle.selector_types.specs.declared.selector.Selector.{Selector}
use Rattle.sheet_set.specs.declared.sheet_rule.SheetRule.{SheetRule}
use Rattle.sheet_set.specs.declared.kept_sheet.KeptSheet.{KeptSheet}
use Rattle.sheet_set.specs.declared.kept_sheet.RuleRoom.{RuleRoom}
use Rattle.sheet_set.specs.declared.sheet_step.SheetStep.{SheetStep}
use Rattle.sheet_set.specs.declared.sheet_step.SheetStep.TheVariants.{Stay, Come, Go, Put, Turn}
use Rattle.sheet_set.specs.Kept.{kept_seen}
use Rattle.sheet_set.specs.Planned.{stepped}
use Rattle.sheet_set.specs.Rules.{taking_part}
use Rattle.sheet_set.specs.Standing.{count_at}

-- room for so many rules more
pub record HasMore (rules : Vec SheetRule Global) (lists : Vec (Vec Selector Global) Global) (ranks : Vec ℕ Global)
    (more : ℕ) : Type 0 where
  pub rules_room : vec_len rules + more ≤ vec_capacity rules
  pub lists_room : vec_len rules + more ≤ vec_capacity lists
  pub ranks_room : vec_len rules + more ≤ vec_capacity ranks

-- the sheet at a place is there, and there is room for its rules where it leaves
pub record CanLeave (sheets : List KeptSheet) (place : ℕ) (room : RuleRoom) : Type 0 where
  pub within : place < length sheets
  pub rules_room : count_at place sheets ≤ vec_capacity room.rules
  pub lists_room : count_at place sheets ≤ vec_capacity room.selectors

-- how many rules of the sheet at a place wait until it takes part
abbrev pub waiting_at : ℕ → List KeptSheet → ℕ
waiting_at place sheets =
    sum_by (λ (kept : KeptSheet). if kept.enabled then 0 else kept.count) (take 1 (drop place sheets))

pub record CanCome (sheets : Vec KeptSheet Global) (place : ℕ) (sheet : KeptSheet) : Type 0 where
  pub within : place ≤ length sheets.items
  pub off : sheet.enabled ≡ false
  pub room : vec_len sheets < vec_capacity sheets

-- by the step
abbrev pub HasRoom : Vec KeptSheet Global → Vec SheetRule Global → Vec (Vec Selector Global) Global → Vec ℕ Global
    → SheetStep → Type 0
HasRoom sheets rules lists ranks Stay = ⊤
HasRoom sheets rules lists ranks (Come place sheet on) =
    CanCome sheets place sheet × HasMore rules lists ranks (if on then sheet.count else 0)
HasRoom sheets rules lists ranks (Go place room) = CanLeave sheets.items place room
HasRoom sheets rules lists ranks (Put place sheet room) =
    CanLeave sheets.items place room × ((sheet.enabled ≡ false) × HasMore rules lists ranks sheet.count)
HasRoom sheets rules lists ranks (Turn place room) =
    CanLeave sheets.items place room × HasMore rules lists ranks (waiting_at place sheets.items)

-- how many rules come with a step
abbrev pub rules_more : List KeptSheet → SheetStep → ℕ
rules_more sheets Stay = 0
rules_more sheets (Come place sheet on) = if on then sheet.count else 0
rules_more sheets (Go place room) = 0
rules_more sheets (Put place sheet room) = sheet.count
rules_more sheets (Turn place room) = waiting_at place sheets

-- room for the position of each rule that takes part after a step
abbrev pub HasPlaces : List KeptSheet → Vec ℕ Global → SheetStep → Type 0
HasPlaces sheets positions step =
    length (flat_map taking_part (stepped step (map kept_seen sheets))) ≤ vec_capacity positions

-- the place of a step is one of the list, what leaves has room where it goes, and what comes is not enabled yet
abbrev pub IsAtPlace : List KeptSheet → SheetStep → Type 0
IsAtPlace sheets Stay = ⊤
IsAtPlace sheets (Come place sheet on) = (place ≤ length sheets) × (sheet.enabled ≡ false)
IsAtPlace sheets (Go place room) = CanLeave sheets place room
IsAtPlace sheets (Put place sheet room) = CanLeave sheets place room × (sheet.enabled ≡ false)
IsAtPlace sheets (Turn place room) = CanLeave sheets place room
