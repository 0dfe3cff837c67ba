use Rattle.std.proofs.Common.{◌∙◌, ap, sym, subst, nat_eq}
use Rattle.std.specs.List.{IsDistinct}
use Rattle.base_model.proofs.Lists.{each-take}
use Rattle.scene_model.specs.Lookups.{IsElement}
use Rattle.scene_model.specs.Numbers.{is_in}
use Rattle.invalidation_map.specs.Members.{AreBelow}
use Rattle.invalidation_map.specs.Steps.{IsClosed}
use Rattle.invalidation_map.proofs.OnwardLemmas.{distinct_right}
use Rattle.invalidation_map.proofs.LeadLemmas.{after_are, distinct_siblings, later_led}
use Rattle.invalidation_map.proofs.StepLemmas.{below_all, closed_now, each_get, led_next}
use Rattle.invalidation_map.proofs.steps.add_later_siblings.Goals as goal

pub add_until_met-requires-clause-below : goal.add_until_met-requires-clause-below
add_until_met-requires-clause-below c =
    subst (λ room. AreBelow room c.right_siblings.result.now) (sym c.loop-x.invariant.led.room)
    (subst (AreBelow c.args.into.now.room) (sym c.right_siblings.ensures.siblings) (below_all _ _ _ c.requires.can.room (after_are _ c.right_siblings.ensures.valid _)))

pub add_until_met-requires-clause-once : goal.add_until_met-requires-clause-once
add_until_met-requires-clause-once c =
    subst (IsDistinct nat_eq) (sym c.right_siblings.ensures.siblings) (distinct_right _ _ (distinct_siblings _ c.right_siblings.ensures.valid _))

pub add_until_met-requires-clause-closed : goal.add_until_met-requires-clause-closed
add_until_met-requires-clause-closed c =
    subst (λ l. IsClosed l c.loop-x.into.items) (sym c.right_siblings.ensures.siblings)
    (closed_now _ c.right_siblings.ensures.valid _ _ _ _ (each-take (IsElement c.args.doc.now.elements) c.loop-x.x-index _ c.requires.can.elements) c.requires.empty c.loop-x.invariant.led)

pub loop-x-preserved : goal.loop-x-preserved
loop-x-preserved c = record {
  led =
      led_next _ _ _ _ _ _ _ c.loop-x-test.true c.loop-x.invariant.led c.add_until_met.ensures
      (λ x. ap (λ l. is_in x l) c.right_siblings.ensures.siblings ∙ later_led _ c.right_siblings.ensures.valid _ x (each_get _ _ _ c.requires.can.elements c.loop-x-test.true));
  valid = λ some. c.right_siblings.ensures.valid;
}
