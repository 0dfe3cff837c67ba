use Rattle.std.proofs.Common.{◌<◌, ◌∷◌, [], ap, sym, subst, ◌∙◌}
use Rattle.selector_model.specs.Selector.{descendant}
use Rattle.invalidation_map.specs.Members.{Members}
use Rattle.invalidation_map.specs.Steps.{AreElements}
use Rattle.invalidation_map.proofs.BelowLemmas.{below_added}
use Rattle.invalidation_map.proofs.PathLemmas.{step_elements}
use Rattle.invalidation_map.proofs.SetLemmas.{one_added}
use Rattle.invalidation_map.proofs.StepLemmas.{below_all, can_cleared}
use Rattle.invalidation_map.proofs.edit_sets.add_below.Goals as goal

pub add_descendants-requires-clause-can : goal.add_descendants-requires-clause-can
add_descendants-requires-clause-can c =
    can_cleared c.args.doc.now.elements (c.args.x ∷ []) c.args.next.now c.clear.new.self (ap (λ (m : Members). m.room) c.clear.ensures)
    (record { elements = (c.requires.element, tt); room = c.requires.room })

pub add_all-requires : goal.add_all-requires
add_all-requires c =
    let doc = c.args.doc.now.elements in
    let empty = ap (λ (m : Members). m.items) c.clear.ensures in
    let reached = step_elements doc (c.args.x ∷ []) c.add_descendants.ensures.valid descendant c.clear.new.self c.add_descendants.new.into empty c.add_descendants.ensures.led in
    below_all doc c.add.new.self.room c.as_slice.result.now
    (λ y there. subst (λ n. y < n) (sym (ap (λ (m : Members). m.room) c.add.ensures ∙ (one_added c.args.into.now c.args.x).room)) (c.requires.into y there))
    (subst (AreElements doc) (sym c.as_slice.ensures.items) reached)

pub returns-clause-below : goal.returns-clause-below
returns-clause-below c =
    below_added c.args.doc.now.elements c.args.x c.clear.new.self c.add_descendants.new.into c.args.into.now c.add.new.self c.add_all.new.self c.as_slice.result.now
    (ap (λ (m : Members). m.items) c.clear.ensures) c.add_descendants.ensures.led c.as_slice.ensures.items c.add.ensures c.add_all.ensures
