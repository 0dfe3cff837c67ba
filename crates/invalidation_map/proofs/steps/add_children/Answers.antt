use Rattle.std.proofs.Common.{◌∙◌, ap, sym, subst}
use Rattle.scene_model.specs.Numbers.{is_in}
use Rattle.invalidation_map.specs.Members.{AreBelow}
use Rattle.edit_model.proofs.Forward.{child_leads}
use Rattle.invalidation_map.proofs.LeadLemmas.{children_are}
use Rattle.invalidation_map.proofs.StepLemmas.{below_all, led_next}
use Rattle.invalidation_map.proofs.steps.add_children.Goals as goal

pub add_all-requires : goal.add_all-requires
add_all-requires c =
    subst (λ room. AreBelow room c.children.result.now) (sym c.loop-x.invariant.led.room)
    (subst (AreBelow c.args.into.now.room) (sym c.children.ensures.children) (below_all _ _ _ c.requires.room (children_are _ c.children.ensures.valid _)))

pub loop-x-preserved : goal.loop-x-preserved
loop-x-preserved c = record {
  led =
      led_next _ _ _ _ _ _ _ c.loop-x-test.true c.loop-x.invariant.led c.add_all.ensures
      (λ x. ap (λ l. is_in x l) c.children.ensures.children ∙ sym (child_leads _ c.children.ensures.valid _ x));
  valid = λ some. c.children.ensures.valid;
}
