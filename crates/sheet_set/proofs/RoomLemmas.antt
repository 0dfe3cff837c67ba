-- What a step needs room for.
use Rattle.std.proofs.Common.{◌≡◌, ℕ, ◌<◌, subst, vec_len}
use Rattle.std.specs.Prelude.{Vec, vec_capacity}
use Rattle.std.specs.declared.alloc.Global.{Global}
use Rattle.selector_types.specs.declared.selector.Selector.{Selector}
use Rattle.sheet_set.specs.declared.sheet_rule.SheetRule.{SheetRule}
use Rattle.sheet_set.specs.declared.kept_sheet.KeptSheet.{KeptSheet}
use Rattle.sheet_set.specs.declared.sheet_step.SheetStep.{SheetStep}
use Rattle.sheet_set.specs.declared.sheet_step.SheetStep.TheVariants.{Stay, Come, Go, Put, Turn}
use Rattle.sheet_set.specs.Room.{HasMore, HasRoom, IsAtPlace, rules_more}

pub room-for : (sheets : Vec KeptSheet Global) (rules : Vec SheetRule Global) (lists : Vec (Vec Selector Global) Global) (ranks : Vec ℕ Global) (step : SheetStep) (more : ℕ)
    → IsAtPlace sheets.items step → vec_len sheets < vec_capacity sheets → HasMore rules lists ranks more → more ≡ rules_more sheets.items step → HasRoom sheets rules lists ranks step
room-for sheets rules lists ranks Stay more at some has is = tt
room-for sheets rules lists ranks (Come place sheet on) more at some has is =
    (record { within = at.0; off = at.1; room = some }, subst (HasMore rules lists ranks) is has)
room-for sheets rules lists ranks (Go place room) more at some has is = at
room-for sheets rules lists ranks (Put place sheet room) more at some has is =
    (at.0, (at.1, subst (HasMore rules lists ranks) is has))
room-for sheets rules lists ranks (Turn place room) more at some has is =
    (at, subst (HasMore rules lists ranks) is has)
