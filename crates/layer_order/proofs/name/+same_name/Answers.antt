use Rattle.std.proofs.Common.{sym, ap, ◌∙◌}
use Rattle.layer_order.specs.Chain.{part_of}
use Rattle.layer_order.specs.LinkView.{parts}
use Rattle.layer_order.proofs.Chains.{false_from_keys, by_outer, by_part, longer_than_none}
use Rattle.layer_order.proofs.name.+same_name.Goals as goal

pub LayerName::is-returns-then-key : goal.LayerName::is-returns-then-key
LayerName::is-returns-then-key t c =
    false_from_keys _ _ (λ e. c.if-key.true (c.key.ensures ∙ (e ∙ sym c.key-2.ensures)))

pub LayerName::is-returns-in_default-2 : goal.LayerName::is-returns-in_default-2
LayerName::is-returns-in_default-2 t c =
    longer_than_none _ _ _ _ (sym (ap parts c.in_default.is-0) ∙ c.self.view_is) (sym (ap parts c.in_default.is-1) ∙ c.other.view_is)

pub NameLink::is-returns-then-is : goal.NameLink::is-returns-then-is
NameLink::is-returns-then-is t c =
    let link = c.args.self.now in
    let other = c.args.other.now in
    by_outer link.outer other.outer (part_of link.part) (part_of other.part) _ _ c.is.ensures c.if-is.true c.is-then-is.ensures

pub NameLink::is-returns-else-is : goal.NameLink::is-returns-else-is
NameLink::is-returns-else-is t c =
    let link = c.args.self.now in
    let other = c.args.other.now in
    by_part link.outer other.outer (part_of link.part) (part_of other.part) _ c.is.ensures c.if-is.false
