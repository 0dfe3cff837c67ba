use Rattle.std.proofs.Common.{◌≡◌, Bool, true, false, not, refl, sym, ap, ◌∙◌, arith}
use Rattle.std.specs.Bool.{beq}
use Rattle.std.specs.Cmp.{booleans_Decides}
use Rattle.edit_model.specs.SheetApply.{with_enabled}
use Rattle.sheet_set.specs.Kept.{kept_seen}
use Rattle.sheet_set.proofs.StepsTo.{stay-to, turn-to}
use Rattle.sheet_set.proofs.planning.switched.Goals as goal

other_of : (a b : Bool) → beq a b ≡ false → b ≡ not a
other_of true true e = absurd (cc)
other_of true false e = refl
other_of false true e = refl
other_of false false e = absurd (cc)

pub returns-then-is_enabled-on : goal.returns-then-is_enabled-on
returns-then-is_enabled-on c = λ n last alone.
    let it = c.index-sheets-place.result in
    let same : c.args.on ≡ it.enabled = sym ((booleans_Decides c.is_enabled.result c.args.on).0 c.if-is_enabled-on.true) ∙ c.is_enabled.ensures in
    stay-to c.args.sheets.now c.args.place it c.requires c.index-sheets-place.is n last alone (with_enabled c.args.on) (ap (λ b. with_enabled b (kept_seen it)) same)

pub returns : goal.returns
returns c = λ n last alone.
    let it = c.index-sheets-place.result in
    let room = c.in_ok-room.room in
    let other : c.args.on ≡ not it.enabled = other_of c.is_enabled.result c.args.on c.if-is_enabled-on.false ∙ ap not c.is_enabled.ensures in
    turn-to c.args.sheets.now c.args.place it c.requires c.index-sheets-place.is n last alone c.args.on other room (omega (arith, c.in_ok-room.ensures.rules, c.count.ensures, it.counted))
    (omega (arith, c.in_ok-room.ensures.selectors, c.count.ensures, it.counted))
