use Rattle.std.proofs.Common.{◌∙◌}
use Rattle.stylo_base.proofs.NameLemmas.{seen-clones}
use Rattle.stylo_base.proofs.names.Names.copy.Goals as goal

pub invariant_of-result : goal.invariant_of-result
invariant_of-result c =
    let texts = seen-clones _ _ c.in_ok-clone.ensures.cases in
    let keys = c.in_ok-from_slice.ensures.items ∙ c.deref.ensures.value in
    rw (texts, keys) c.self.invariant

pub returns : goal.returns
returns c = seen-clones _ _ c.in_ok-clone.ensures.cases ∙ c.self.view_is
