use Rattle.std.proofs.Common.{◌==◌, length, refl, ap, ◌∙◌}
use Rattle.invalidation_map.specs.Members.{Members}
use Rattle.invalidation_map.proofs.SetLemmas.{used}
use Rattle.invalidation_map.proofs.element_set.ElementSet.is_empty.Goals as goal

pub returns : goal.returns
returns c =
    let self = c.self.inside in
    ap (λ n. n == 0) (used self.flags.items self.list.items self.list.items self.count c.self.invariant refl)
    ∙ ap (λ (m : Members). length m.items == 0) c.self.view_is
