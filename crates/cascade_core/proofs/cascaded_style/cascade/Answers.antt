use Rattle.std.proofs.Common.{◌≡◌, ◌++◌, IfOk, flat_map, subst, ap, ◌∙◌}
use Rattle.std.proofs.lemmas.Grind.{flat_map-append}
use Rattle.value_model.specs.Style.{Style}
use Rattle.cascade_model.specs.Cascade.{cascaded}
use Rattle.cascade_core.specs.View.{lent_of, matched_of}
use Rattle.cascade_core.proofs.cascaded_style.cascade.Goals as goal

pub returns : goal.returns
returns c =
    let rules : flat_map lent_of c.deref.result.now ≡ flat_map matched_of c.args.matched.now = rw c.deref.ensures.value c.in_ok-matched.ensures in
    let own : flat_map lent_of c.deref-2.result.now ≡ flat_map matched_of c.args.attached.now = rw c.deref-2.ensures.value c.in_ok-attached.ensures in
    let lists : flat_map lent_of (c.deref.result.now ++ c.deref-2.result.now) ≡ flat_map matched_of (c.args.matched.now ++ c.args.attached.now) =
    rw (flat_map-append lent_of c.deref.result.now c.deref-2.result.now, flat_map-append matched_of c.args.matched.now c.args.attached.now, rules, own) in
    let style = c.in_ok-cascaded.ensures.style ∙ ap (cascaded c.args.is_root c.args.parent.now c.args.root_size) lists in
    subst (λ (draft : Style). IfOk c.finish.result (λ s. s ≡ draft)) style c.finish.ensures
