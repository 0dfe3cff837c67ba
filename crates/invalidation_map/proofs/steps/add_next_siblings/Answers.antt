use Rattle.std.proofs.Common.{◌∙◌, ap, sym, subst}
use Rattle.scene_model.specs.Numbers.{is_in}
use Rattle.invalidation_map.specs.Members.{AreBelow}
use Rattle.invalidation_map.proofs.LeadLemmas.{next_led, next_are}
use Rattle.invalidation_map.proofs.StepLemmas.{below_all, each_get, led_next}
use Rattle.invalidation_map.proofs.steps.add_next_siblings.Goals as goal

pub add_all-requires : goal.add_all-requires
add_all-requires c =
    subst (λ room. AreBelow room c.next_siblings.result.now) (sym c.loop-x.invariant.led.room)
    (subst (AreBelow c.args.into.now.room) (sym c.next_siblings.ensures.siblings) (below_all _ _ _ c.requires.room (next_are _ c.next_siblings.ensures.valid _)))

pub loop-x-preserved : goal.loop-x-preserved
loop-x-preserved c = record {
  led =
      led_next _ _ _ _ _ _ _ c.loop-x-test.true c.loop-x.invariant.led c.add_all.ensures
      (λ x. ap (λ l. is_in x l) c.next_siblings.ensures.siblings ∙ next_led _ c.next_siblings.ensures.valid _ x (each_get _ _ _ c.requires.elements c.loop-x-test.true));
  valid = λ some. c.next_siblings.ensures.valid;
}
