use Rattle.std.proofs.Common.{◌≡◌, ℕ, ◌∷◌, ap, ◌∙◌}
use Rattle.value_model.specs.Table.{PropertyRow, font_size_property}
use Rattle.property_table.specs.PropertySet.{without_row}
use Rattle.property_table.specs.View.{property_of, row_of, value_seen}
use Rattle.cascade_model.specs.Ending.{ending}
use Rattle.cascade_core.specs.CascadedValue.{cascaded_seen}
use Rattle.cascade_core.proofs.FilledLemmas.{IsPartly, Sources, own, partly_all, partly_first, partly_next, sources, the_sizes}
use Rattle.cascade_core.proofs.TakenLemmas.{IsPartlyTold, taken_at, told_all, told_first, told_next}
use Rattle.cascade_core.proofs.cascaded_style.set_values.Goals as goal
use Rattle.cascade_core.proofs.cascaded_style.set_values.Goals.{then-is_root, else-is_root}

pub loop-id-init : goal.loop-id-init
loop-id-init c =
    let s : Sources = sources c.args.custom.now c.args.is_root c.args.parent.now c.args.root_size c.args.winners.now in
    let font = c.font_of-font.ensures in
    let size : c.in_ok-own.own ≡ own s = rw (font.size, font.weight) at c.in_ok-own.ensures in
    let first = partly_first s font.all c.declared.result.now (c.declared.ensures s.custom) in
    let rest : c.into_iter-id-iterator.result ≡ without_row font_size_property c.declared.result.now =
    c.into_iter-id-iterator.ensures.into_iter_gives
    ∙ (c.remove.ensures ∙ ap (without_row font_size_property) c.iter-rest.ensures) in (
      rw (c.set.ensures, c.requires, size, rest) first,
      rw (c.set.ensures, c.requires),
      rw c.over-longhands.ensures,
      rw rest (told_first s c.declared.result.now (c.declared.ensures s.custom)),
    )

pub loop-id-preserved : goal.loop-id-preserved
loop-id-preserved c =
    let s : Sources = sources c.args.custom.now c.args.is_root c.args.parent.now c.args.root_size c.args.winners.now in
    let font = c.font_of-font.ensures in
    let q : ℕ = property_of c.in-Some.id in
    let before : IsPartly s c.loop-id.draft.values (q ∷ c.next.new.self) =
    rw c.in-Some.ensures.steps at c.loop-id.invariant.0 in
    let size : c.in_ok-own.own ≡ own s = rw (font.size, font.weight) at c.in_ok-own.ensures in
    let root : c.if-is_root.sizes ≡ (the_sizes s).root = elim c.if-is_root.branch [
      | then-is_root w ↦ rw (w.sizes-is, size, w.if-is_root.true)
      | else-is_root w ↦ rw (w.sizes-is, w.if-is_root.false)
    ] in
    let ends : cascaded_seen value_seen c.in_ok-cascaded.cascaded ≡ ending s.custom q s.ds = rw (c.read_as.ensures, c.loop-id.invariant.2) at c.in_ok-cascaded.ensures.value in
    let value = rw (c.of-row.ensures.row, font.size, font.weight, size, root, ends) at c.value_at.ensures in
    let next = partly_next s font.all c.loop-id.draft.values q c.next.new.self before (row_of c.in-Some.id) (value_seen c.value-value.result) c.of-row.ensures.found c.value-value.ensures.value in
    let so_far : IsPartlyTold s c.loop-id.takes (q ∷ c.next.new.self) = rw c.in-Some.ensures.steps at c.loop-id.invariant.3 in
    let told = told_next s c.loop-id.takes q c.next.new.self so_far (row_of c.in-Some.id) c.of-row.ensures.found in
    let taken : c.is_taken.result ≡ taken_at s q (row_of c.in-Some.id) = rw (ap (λ (r : PropertyRow). r.inherited) c.of-row.ensures.row, ends) at c.is_taken.ensures in (
      rw (c.set-in-loop-id.ensures, value) next,
      rw c.set-in-loop-id.ensures c.loop-id.invariant.1,
      rw (c.cascaded_value.ensures.same, c.read_as.ensures) c.loop-id.invariant.2,
      rw taken told,
    )

pub returns-clause-style : goal.returns-clause-style
returns-clause-style c =
    let s : Sources = sources c.args.custom.now c.args.is_root c.args.parent.now c.args.root_size c.args.winners.now in
    let values = partly_all s c.font_of-font.ensures.all c.loop-id.draft.values c.loop-id.id-iterator c.loop-id.invariant.0 c.in-None.ensures.steps.0 in
    λ i. record { values = values i; custom = c.loop-id.invariant.1 i }

pub returns-clause-takes : goal.returns-clause-takes
returns-clause-takes c =
    let s : Sources = sources c.args.custom.now c.args.is_root c.args.parent.now c.args.root_size c.args.winners.now in
    told_all s c.loop-id.takes c.loop-id.id-iterator c.loop-id.invariant.3 c.in-None.ensures.steps.0
