use Rattle.std.proofs.Common.{◌≡◌, ap, arith, length, refl, subst, sym, ◌∙◌, Some}
use Rattle.scene_model.specs.Lookups.{children, parent_of}
use Rattle.change_model.specs.ChildLists.{CanRemove}
use Rattle.change_model.specs.Sound.{without}
use Rattle.change_model.proofs.Removed.{children-without, its_parent}
use Rattle.dom_edits.proofs.ListEdits.{count_left}
use Rattle.dom_edits.proofs.refusals.count_without.Goals as goal

pub overflow_sub-result : goal.overflow_sub-result
overflow_sub-result c =
    let can : CanRemove c.args.doc.now c.args.x c.args.from = record { sound = c.requires.sound; parent = c.requires.hung } in
    omega (arith, count_left can, ap (λ p. length (children c.args.doc.now.elements p)) c.if-from-parent.true, ap length c.children-count.ensures.children)

pub returns-then-from-parent : goal.returns-then-from-parent
returns-then-from-parent c =
    let can : CanRemove c.args.doc.now c.args.x c.args.from = record { sound = c.requires.sound; parent = c.requires.hung } in
    omega (
      arith,
      count_left can,
      ap (λ p. length (children c.args.doc.now.elements p)) c.if-from-parent.true,
      ap (λ p. length (children (without c.args.doc.now.elements c.args.x) p)) c.if-from-parent.true,
      ap length c.children-count.ensures.children,
    )

pub returns-else-from-parent : goal.returns-else-from-parent
returns-else-from-parent c =
    let can : CanRemove c.args.doc.now c.args.x c.args.from = record { sound = c.requires.sound; parent = c.requires.hung } in
    ap length (c.children-count.ensures.children ∙ sym (children-without (its_parent can) c.args.parent c.requires.apart (λ e. c.if-from-parent.false (sym e))))
