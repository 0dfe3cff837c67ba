use Rattle.std.proofs.Common.{◌+◌, true, false, drop, ap, sym, ◌∙◌}
use Rattle.layer_model.specs.Swapped.{rise_from}
use Rattle.layer_order.proofs.OrderLemmas.{rise_found, fall_found, rise_missed, rise_left, rise_end, kept_order}
use Rattle.layer_order.proofs.layers.Order.is_kept_in.Goals as goal
use Rattle.layer_order.proofs.layers.Order.is_kept_in.Goals.{in-Some+else-place-least, in_default}

pub returns-then-place-least : goal.returns-then-place-least
returns-then-place-least c =
    let order = c.after.inside.names.keys in
    let items = c.as_slice-name-items.result.now in
    let i = c.loop-name.name-index in
    let least = c.loop-name.least in
    let left = rise_left order items c.name-item.result i least c.loop-name-test.true c.name-item.is in
    let falls = fall_found order (drop (i + 1) items) c.name-item.result least c.in-Some.place (sym c.in-Some.is ∙ c.get_index_of.ensures.index) c.if-place-least.true in
    kept_order items c.self.inside.names.keys c.args.self.now order c.args.after.now c.as_slice-name-items.ensures.keys c.self.view_is c.after.view_is c.as_slice-name-items.ensures.unique false (c.loop-name.invariant ∙ (left ∙ falls))

pub loop-name-preserved : goal.loop-name-preserved
loop-name-preserved c =
    let order = c.after.inside.names.keys in
    let items = c.as_slice-name-items.result.now in
    let i = c.loop-name.name-index in
    let least = c.loop-name.least in
    let rest = drop (i + 1) items in
    let left = c.loop-name.invariant ∙ rise_left order items c.name-item.result i least c.loop-name-test.true c.name-item.is in
    elim c.match-get_index_of.branch [
      | in-Some+else-place-least w ↦ left ∙ (rise_found order rest c.name-item.result least w.in-Some.place (sym w.in-Some.is ∙ c.get_index_of.ensures.index) w.if-place-least.false ∙ ap (λ m. rise_from m order rest) (sym w.least-is))
      | in_default w ↦ left ∙ (rise_missed order rest c.name-item.result least (sym w.in_default.is ∙ c.get_index_of.ensures.index) ∙ ap (λ m. rise_from m order rest) (sym w.least-is))
    ]

pub returns : goal.returns
returns c =
    let order = c.after.inside.names.keys in
    let items = c.as_slice-name-items.result.now in
    kept_order items c.self.inside.names.keys c.args.self.now order c.args.after.now c.as_slice-name-items.ensures.keys c.self.view_is c.after.view_is c.as_slice-name-items.ensures.unique true (c.loop-name.invariant ∙ rise_end order items c.loop-name.name-index c.loop-name.least c.loop-name-test.false)
