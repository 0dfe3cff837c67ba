use Rattle.std.proofs.Common.{◌≡◌, ◌∷◌, ◌+◌, take, length, Some, None, cond, ap, sym, subst, ◌∙◌, arith}
use Rattle.std.proofs.lemmas.List.{take_all}
use Rattle.scene_model.specs.Lookups.{numbers}
use Rattle.session_model.specs.Standing.{style_in}
use Rattle.style_session.specs.FirstWalking.{AreKept}
use Rattle.style_session.specs.Lent.{scene_lent}
use Rattle.style_session.proofs.FirstWalkLemmas.{all-made, kept-none}
use Rattle.style_session.proofs.WalkLemmas.{next-below, next-child, next-front, next-there}
use Rattle.style_session.proofs.first_restyle.restyle_first.Goals as goal

pub returns-in_err-walk-clause-fits : goal.returns-in_err-walk-clause-fits
returns-in_err-walk-clause-fits g c =
    c.begin.ensures.fits

pub returns-in_default-clause-fits : goal.returns-in_default-clause-fits
returns-in_default-clause-fits g c =
    c.begin.ensures.fits

pub returns-in_default-clause-styles : goal.returns-in_default-clause-styles
returns-in_default-clause-styles g c =
    let scene = scene_lent c.args.inputs.now in
    let order = c.in_tree_order-order.result.now in
    let walk = c.in_ok-walk.walk in
    all-made scene walk order c.finish.result
    (subst (λ l. AreKept scene l walk.kept.items) c.in_tree_order-order.ensures.order (kept-none scene order walk c.in_ok-walk.ensures.empty c.in_default.ensures.cases))
    c.in_tree_order-order.ensures.order c.finish.ensures

pub style-requires-clause-next : goal.style-requires-clause-next
style-requires-clause-next g c =
    let inputs = c.args.inputs.now in
    let doc = inputs.doc.now.elements in
    let first = c.in-Some.first.now in
    let rest = c.in-Some.rest.now in
    let k = c.loop-number.number-index in
    let valid = c.in_tree_order-order.ensures.valid in
    let is : numbers doc ≡ first ∷ rest = sym c.in_tree_order-order.ensures.order ∙ c.in-Some.ensures.cases.0 in
    let below = c.loop-number-test.true in
    record {
      sound = c.in_tree_order-order.ensures.sound;
      there = next-there doc first rest k is below;
      child = next-child doc first rest k is below valid;
      walk = c.loop-number.invariant.to.walk;
      parent = λ p at. c.loop-number.invariant.to.kept p
          ∙ ap (λ b. cond b (Some (style_in (scene_lent inputs) p)) None) (next-below doc first rest k is below valid p at);
    }

pub loop-number-preserved : goal.loop-number-preserved
loop-number-preserved g c =
    let scene = scene_lent c.args.inputs.now in
    let doc = c.args.inputs.now.doc.now.elements in
    let k = c.loop-number.number-index in
    let on = c.in_ok-style.ensures.ok in
    record {
      to = record {
        walk = on.walk;
        kept = subst (λ l. AreKept scene l c.style.new.self.kept.items)
            (next-front doc c.in-Some.first.now c.in-Some.rest.now k (sym c.in_tree_order-order.ensures.order ∙ c.in-Some.ensures.cases.0) c.loop-number-test.true)
            (on.kept (take (k + 1) (numbers doc)) c.loop-number.invariant.to.kept);
      };
      serves = c.in_ok-style.ensures.serves;
    }

pub returns-clause-styles : goal.returns-clause-styles
returns-clause-styles g c =
    let scene = scene_lent c.args.inputs.now in
    let walk = c.loop-number.walk in
    let k = c.loop-number.number-index in
    let all = numbers c.args.inputs.now.doc.now.elements in
    let is : all ≡ c.in-Some.first.now ∷ c.in-Some.rest.now = sym c.in_tree_order-order.ensures.order ∙ c.in-Some.ensures.cases.0 in
    all-made scene walk c.in_tree_order-order.result.now c.finish-2.result
    (subst (λ l. AreKept scene l walk.kept.items) (take_all (k + 1) all (omega (arith, ap length is, c.loop-number-test.false))) c.loop-number.invariant.to.kept)
    c.in_tree_order-order.ensures.order c.finish-2.ensures

pub returns-clause-fits : goal.returns-clause-fits
returns-clause-fits g c = c.loop-number.invariant.serves.fits
