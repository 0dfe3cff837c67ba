use Rattle.std.proofs.Common.{ap, ◌∙◌, ◌+◌}
use Rattle.layer_order.specs.Chain.{part_of}
use Rattle.layer_order.specs.Key.{key_after}
use Rattle.layer_order.proofs.Chains.{Keeps-within}
use Rattle.layer_order.proofs.name.LayerName.within.Goals as goal

pub invariant_of-result : goal.invariant_of-result
invariant_of-result c =
    let link = c.in_ok-new.ensures.ok in
    Keeps-within _ c.args.self.now (part_of c.args.part) (ap (λ l. l.outer) link ∙ c.in_ok-share.ensures) (ap (λ l. part_of l.part) link) (ap (λ l. l.depth) link ∙ ap (λ n. n + 1) c.len.ensures.count) c.requires (ap (λ l. l.key) link ∙ (c.key_after.ensures ∙ ap (λ k. key_after k (part_of c.args.part)) c.key.ensures))
