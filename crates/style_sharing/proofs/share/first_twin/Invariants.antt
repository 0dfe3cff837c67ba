use Rattle.std.proofs.Common.{◌≡◌, find}
use Rattle.std.specs.Arc.{arc_value}
use Rattle.sharing_model.specs.Twin.{is_twin}
use Rattle.style_sharing.specs.Entries.{seen}
use Rattle.style_sharing.proofs.share.first_twin.Given as goal

-- the first twin among those that are left is the first of all
abbrev pub invariant-loop-element : goal.invariant-loop-element
invariant-loop-element l =
    (goal.iterator-loop-element).can_next l.element-iterator ×
    (goal.iterator-loop-element).is_finite l.element-iterator ×
    (find (λ e. is_twin l.doc.elements e.0 l.x) (seen arc_value l.element-iterator)
    ≡ find (λ e. is_twin l.doc.elements e.0 l.x) (seen arc_value l.cache.entries))
