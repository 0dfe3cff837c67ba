use Rattle.std.proofs.Common.{nat_eq, ap, sym, subst, ◌∙◌}
use Rattle.std.specs.List.{IsDistinct}
use Rattle.invalidation_map.specs.EditMembers.{EditMembers}
use Rattle.invalidation_map.specs.RowView.{rows_in}
use Rattle.invalidation_map.specs.Steps.{HasRoom}
use Rattle.invalidation_map.proofs.EditLemmas.{list_marked}
use Rattle.invalidation_map.proofs.edit_marks.marked_by.Goals as goal

pub mark-requires : goal.mark-requires
mark-requires c = subst (HasRoom c.args.invalidator.now.doc.now.elements) (sym (ap (λ (sets : EditMembers). sets.room) c.in_ok-sets.ensures)) c.requires

pub returns : goal.returns
returns c =
    let lent = c.args.invalidator.now in
    let same = c.in_ok-found.ensures.items ∙ c.marked.ensures.items in
    list_marked lent.doc.now.elements lent.touched.now (rows_in lent.map.now) c.in_ok-sets.sets c.mark.new.sets c.in_ok-found.field-0.items
    (ap (λ (sets : EditMembers). sets.marked) c.in_ok-sets.ensures) c.mark.ensures same
    (subst (IsDistinct nat_eq) (sym c.in_ok-found.ensures.items) c.marked.ensures.once)
