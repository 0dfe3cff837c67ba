use Rattle.std.proofs.Common.{◌+◌, ap, arith, sym, subst}
use Rattle.selector_types.specs.declared.complex.Combinator.TheVariants.{Descendant}
use Rattle.dependency_map.specs.declared.dep.PathStep.TheVariants.{Forwards}
use Rattle.invalidation_map.specs.Members.{Members}
use Rattle.invalidation_map.specs.Steps.{AreElements}
use Rattle.invalidation_map.proofs.PathLemmas.{path_next, path_walked}
use Rattle.invalidation_map.proofs.paths.walk.Goals as goal

pub take_step-requires : goal.take_step-requires
take_step-requires c = record {
  elements = subst (AreElements c.args.doc.now.elements) (sym c.as_slice.ensures.items) c.loop-step.invariant.elements;
  room = λ x there.
      let both = c.loop-step.invariant.room (x + 1) (omega (arith, c.requires.room x there), omega (arith, c.requires.can.room x there)) in
      omega (arith, both.1);
}

pub loop-step-preserved : goal.loop-step-preserved
loop-step-preserved c = record {
  ahead =
      path_next c.args.doc.now.elements c.args.path.now c.loop-step.step-index (Forwards Descendant) _ _ _ _ _ c.loop-step-test.true c.take_step.ensures.elements c.take_step.ensures.stepped
      c.as_slice.ensures.items (ap (λ (m : Members). m.items) c.swap.ensures.x_after) c.loop-step.invariant.ahead;
  elements = subst (λ (m : Members). AreElements c.args.doc.now.elements m.items) (sym c.swap.ensures.x_after) c.take_step.ensures.elements;
  room = λ room both.
      let now = c.loop-step.invariant.room room both in
      (omega (arith, now.1, ap (λ (m : Members). m.room) c.swap.ensures.x_after, c.take_step.ensures.room), omega (arith, now.0, ap (λ (m : Members). m.room) c.swap.ensures.y_after));
}

pub returns : goal.returns
returns c = record {
  reached = path_walked _ _ _ _ _ c.loop-step-test.false c.loop-step.invariant.ahead;
  elements = c.loop-step.invariant.elements;
  room = c.loop-step.invariant.room;
}
