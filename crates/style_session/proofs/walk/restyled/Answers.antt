use Rattle.std.proofs.Common.{◌≡◌, [], ◌∷◌, ◌+◌, map, take, get_or, sym, ap, ◌∙◌}
use Rattle.scene_model.specs.Lookups.{numbers}
use Rattle.scene_model.specs.Numbers.{is_in}
use Rattle.scene_model.proofs.Any.{in_middle}
use Rattle.scene_model.proofs.Found.{is_element-numbers}
use Rattle.style_session.specs.Answers.{styled_seen}
use Rattle.style_session.specs.Lent.{lent}
use Rattle.style_session.proofs.WalkLemmas.{due-cascaded, met-order, met-passed, next-child, next-met, next-parent, next-there, no-results, walk-same}
use Rattle.style_session.proofs.WalkLentLemmas.{kept-own, lent-results}
use Rattle.style_session.proofs.walk.restyled.Goals as goal

pub is_matched-requires : goal.is_matched-requires
is_matched-requires g c =
    let doc = c.args.lists.now.inputs.now.doc.now.elements in
    is_element-numbers doc c.in-Some.first.now
    ∙ (ap (is_in c.in-Some.first.now) (sym c.in_tree_order-order.ensures.order ∙ c.in-Some.ensures.cases.0) ∙ in_middle c.in-Some.first.now [] c.in-Some.rest.now)

pub returns-in_default-clause-styled : goal.returns-in_default-clause-styled
returns-in_default-clause-styled g c =
    let lists = c.args.lists.now in
    ap (map styled_seen) c.new.ensures.items
    ∙ no-results (lent lists) c.in_tree_order-order.result.now (lent-results lists) c.in_tree_order-order.ensures.order c.in_default.ensures.cases

pub returns-in_default-clause-fits : goal.returns-in_default-clause-fits
returns-in_default-clause-fits g c =
    c.begin.ensures.fits

pub returns-in_err-walk-clause-fits : goal.returns-in_err-walk-clause-fits
returns-in_err-walk-clause-fits g c =
    c.begin.ensures.fits

pub loop-number-preserved-then-not-contains : goal.loop-number-preserved-then-not-contains
loop-number-preserved-then-not-contains g c =
    let lists = c.args.lists.now in
    let st = lent lists in
    let doc = lists.inputs.now.doc.now.elements in
    let first = c.in-Some.first.now in
    let rest = c.in-Some.rest.now in
    let k = c.loop-number.number-index in
    let walk = c.loop-number.walk in
    let valid = c.in_tree_order-order.ensures.valid in
    let is : numbers doc ≡ first ∷ rest = sym c.in_tree_order-order.ensures.order ∙ c.in-Some.ensures.cases.0 in
    let below = c.loop-number-test.true in
    let there = next-there doc first rest k is below in
    let to = c.loop-number.invariant.to in
    let told = c.contains.ensures ∙ due-cascaded st c.loop-number.cache walk (get_or rest k 0) there to.walk (next-parent st walk first rest k valid is below to.met) in
    let calm = sym told ∙ c.if-not-contains.true in
    record {
      to = record {
        walk = to.walk;
        met = next-met st walk first rest k is below
            (met-passed st (take (k + 1) (numbers doc)) (get_or rest k 0) walk there (kept-own lists (get_or rest k 0) there calm) calm to.met);
      };
      serves = c.loop-number.invariant.serves;
    }

pub cascade-requires-clause-next : goal.cascade-requires-clause-next
cascade-requires-clause-next g c =
    let lists = c.args.lists.now in
    let st = lent lists in
    let doc = lists.inputs.now.doc.now.elements in
    let first = c.in-Some.first.now in
    let rest = c.in-Some.rest.now in
    let k = c.loop-number.number-index in
    let valid = c.in_tree_order-order.ensures.valid in
    let is : numbers doc ≡ first ∷ rest = sym c.in_tree_order-order.ensures.order ∙ c.in-Some.ensures.cases.0 in
    let below = c.loop-number-test.true in
    let to = c.loop-number.invariant.to in
    let there = next-there doc first rest k is below in
    let parent = next-parent st c.loop-number.walk first rest k valid is below to.met in
    record {
      there = there;
      child = next-child doc first rest k is below valid;
      cascaded = sym (c.contains.ensures ∙ due-cascaded st c.loop-number.cache c.loop-number.walk (get_or rest k 0) there to.walk parent) ∙ c.if-not-contains.false;
      parent = parent;
    }

pub cascade-requires-clause-walk : goal.cascade-requires-clause-walk
cascade-requires-clause-walk g c =
    walk-same (lent c.args.lists.now) c.loop-number.cache c.filter_if.new.self c.loop-number.walk c.filter_if.ensures.kept c.loop-number.invariant.to.walk

pub loop-number-preserved : goal.loop-number-preserved
loop-number-preserved g c =
    let lists = c.args.lists.now in
    let st = lent lists in
    let doc = lists.inputs.now.doc.now.elements in
    let k = c.loop-number.number-index in
    let on = c.in_ok-cascade.ensures.ok in
    record {
      to = record {
        walk = on.walk;
        met = next-met st c.cascade.new.self c.in-Some.first.now c.in-Some.rest.now k (sym c.in_tree_order-order.ensures.order ∙ c.in-Some.ensures.cases.0) c.loop-number-test.true
            (on.met (take (k + 1) (numbers doc)) c.loop-number.invariant.to.met);
      };
      serves = c.in_ok-cascade.ensures.serves;
    }

pub returns-clause-styled : goal.returns-clause-styled
returns-clause-styled g c =
    let lists = c.args.lists.now in
    met-order (lent lists) c.loop-number.walk c.in-Some.first.now c.in-Some.rest.now c.loop-number.number-index (lent-results lists)
    (sym c.in_tree_order-order.ensures.order ∙ c.in-Some.ensures.cases.0) c.loop-number-test.false c.loop-number.invariant.to.met

pub returns-clause-fits : goal.returns-clause-fits
returns-clause-fits g c = c.loop-number.invariant.serves.fits
