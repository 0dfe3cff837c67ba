use Rattle.std.proofs.Common.{rules, ◌≡◌, ℕ, ◌+◌, length, take, ap, sym, ◌∙◌, subst, refl, ⊎_elim}
use Rattle.std.specs.List.{list_any}
use Rattle.std.proofs.lemmas.List.{nil_from_length}
use Rattle.std.proofs.lemmas.Option.{slice_get_read}
use Rattle.scene_model.proofs.Climbing.{ancestors-root}
use Rattle.selector_model.specs.Selector.{child, descendant, next_sibling, later_sibling}
use Rattle.selector_model.specs.Holds.{holds, holds_some, meets, nearest, test_holds}
use Rattle.selector_model.proofs.Leftwards.{nearest_element}
use Rattle.selector_types.specs.ComplexView.{combinator_of, complex_of, complexes_of, compound_of, test_of}
use Rattle.selector_types.specs.declared.complex.Test.TheViews.{out-Complex}
use Rattle.selector_types.specs.declared.complex.Test.TheFolds.{the_lemmas}
use Rattle.selector_match.specs.declared.match_result.MatchResult.TheVariants.{RestartFromSibling}
use Rattle.selector_match.specs.Results.{Tells}
use Rattle.selector_match.proofs.JoinedLemmas.{told_match, told_further, told_same, complex_fails, meets_fails, none_told, some_member, some_next}
use Rattle.selector_match.proofs.ResultLemmas.{is_match, child_none, child_told, child_kept, above_none, above_told, above_passed, nearest_told, before_none, before_told, before_element}
use Rattle.selector_match.proofs.TriedLemmas.{tried_combined}
use Rattle.selector_match.proofs.matching.+matches.Goals as goal

pub at_parent-returns-in_default-clause-told : goal.at_parent-returns-in_default-clause-told
at_parent-returns-in_default-clause-told t c =
    child_none c.args.doc.now.elements c.parent.ensures.valid (holds c.args.doc.now.elements (complex_of c.args.rest.now)) c.args.x (sym c.parent.ensures.parent ∙ c.in_default.is)

pub at_parent-returns-in-RestartFromSibling-clause-told : goal.at_parent-returns-in-RestartFromSibling-clause-told
at_parent-returns-in-RestartFromSibling-clause-told t c =
    child_told c.args.doc.now.elements c.parent.ensures.valid (holds c.args.doc.now.elements (complex_of c.args.rest.now)) c.args.x c.in-Some.parent RestartFromSibling (sym c.parent.ensures.parent ∙ c.in-Some.is) c.in-RestartFromSibling.ensures

pub at_parent-returns-in_default-tried : goal.at_parent-returns-in_default-tried
at_parent-returns-in_default-tried t c = record {
  told = child_kept c.args.doc.now.elements c.parent.ensures.valid (holds c.args.doc.now.elements (complex_of c.args.rest.now)) c.args.x c.in-Some.parent c.tried.result (sym c.parent.ensures.parent ∙ c.in-Some.is) c.in_default-tried.not-RestartFromSibling c.tried.ensures;
  valid = c.parent.ensures.valid;
}

pub at_ancestors-loop-parent-preserved : goal.at_ancestors-loop-parent-preserved
at_ancestors-loop-parent-preserved t c =
    let parent = sym c.parent.ensures.parent ∙ c.in-Some.is in
    record {
      element = (c.parent.ensures.valid.parents _ _ parent).0;
      left = above_passed c.args.doc.now.elements c.parent.ensures.valid (holds c.args.doc.now.elements (complex_of c.args.rest.now)) c.args.x c.loop-parent.at c.in-Some.parent c.tried.result parent c.loop-parent.invariant.left (⊎_elim (λ e. ap is_match e) (λ e. ap is_match e) c.in-RestartFromSibling.is) c.tried.ensures;
    }

pub at_ancestors-returns-in_default-tried-clause-told : goal.at_ancestors-returns-in_default-tried-clause-told
at_ancestors-returns-in_default-tried-clause-told t c =
    above_told c.args.doc.now.elements c.parent.ensures.valid (holds c.args.doc.now.elements (complex_of c.args.rest.now)) c.args.x c.loop-parent.at c.in-Some.parent c.tried.result (sym c.parent.ensures.parent ∙ c.in-Some.is) c.loop-parent.invariant.left c.in_default-tried.not-RestartFromSibling c.in_default-tried.not-RestartFromDescendant c.tried.ensures

pub at_ancestors-returns-clause-told : goal.at_ancestors-returns-clause-told
at_ancestors-returns-clause-told t c =
    let test = holds c.args.doc.now.elements (complex_of c.args.rest.now) in
    above_none c.args.doc.now.elements c.parent.ensures.valid test c.args.x (sym c.loop-parent.invariant.left ∙ ap (list_any test) (ancestors-root c.args.doc.now.elements c.parent.ensures.valid c.loop-parent.at (sym c.parent.ensures.parent ∙ c.in_default.is)))

pub at_nearest-tried-requires : goal.at_nearest-tried-requires
at_nearest-tried-requires t c = (
  search (rules, the_lemmas),
  nearest_element c.args.doc.now.elements c.left_siblings.ensures.valid c.args.x c.in-Some.nearest.now (ap nearest (sym c.left_siblings.ensures.siblings) ∙ sym c.in-Some.ensures.value),
)

pub at_nearest-returns-in-Some-clause-told : goal.at_nearest-returns-in-Some-clause-told
at_nearest-returns-in-Some-clause-told t c =
    nearest_told c.args.doc.now.elements c.left_siblings.ensures.valid (holds c.args.doc.now.elements (complex_of c.args.rest.now)) c.args.x c.in-Some.nearest.now c.tried.result (ap nearest (sym c.left_siblings.ensures.siblings) ∙ sym c.in-Some.ensures.value) c.tried.ensures

pub at_siblings-tried-requires : goal.at_siblings-tried-requires
at_siblings-tried-requires t c = (
  search (rules, the_lemmas),
  before_element c.args.doc.now.elements c.left_siblings-before.ensures.valid c.args.x c.in-Some.nearest.now c.loop-nearest.before.now c.in-Some.farther.now c.loop-nearest.invariant.front.0 c.loop-nearest.invariant.front.1 c.in-Some.ensures.cases.0,
)

pub at_siblings-returns-in_default-tried : goal.at_siblings-returns-in_default-tried
at_siblings-returns-in_default-tried t c = record {
  told = before_told c.args.doc.now.elements c.left_siblings-before.ensures.valid (holds c.args.doc.now.elements (complex_of c.args.rest.now)) c.args.x c.in-Some.nearest.now c.loop-nearest.before.now c.in-Some.farther.now c.loop-nearest.invariant.front.0 c.tried.result c.loop-nearest.invariant.front.1 c.in-Some.ensures.cases.0 c.loop-nearest.invariant.left c.in_default-tried.not-RestartFromSibling c.tried.ensures;
  valid = c.left_siblings-before.ensures.valid;
}

pub at_siblings-returns-clause-told : goal.at_siblings-returns-clause-told
at_siblings-returns-clause-told t c =
    let test = holds c.args.doc.now.elements (complex_of c.args.rest.now) in
    before_none c.args.doc.now.elements c.left_siblings-before.ensures.valid test c.args.x (sym c.loop-nearest.invariant.left ∙ ap (list_any test) (nil_from_length c.loop-nearest.before.now c.in_default.ensures.cases))

pub tried-returns-in-Child : goal.tried-returns-in-Child
tried-returns-in-Child t c =
    tried_combined c.args.doc.now.elements c.args.complex.now c.in-Some.left c.deref.result.now c.deref-in-Child.result.now child c.args.x c.at_parent.result c.at_parent.ensures.valid c.in-Some.is c.deref.ensures c.deref-in-Child.ensures (ap combinator_of c.in-Child.is) (told_match c.args.doc.now.elements (meets c.args.doc.now.elements (compound_of (out-Complex c.args.complex.now).subject)) c.args.x c.meets.result c.in-Matched.is c.meets.ensures) c.at_parent.ensures.told

pub tried-returns-in-Descendant : goal.tried-returns-in-Descendant
tried-returns-in-Descendant t c =
    tried_combined c.args.doc.now.elements c.args.complex.now c.in-Some.left c.deref.result.now c.deref-in-Descendant.result.now descendant c.args.x c.at_ancestors.result c.at_ancestors.ensures.valid c.in-Some.is c.deref.ensures c.deref-in-Descendant.ensures (ap combinator_of c.in-Descendant.is) (told_match c.args.doc.now.elements (meets c.args.doc.now.elements (compound_of (out-Complex c.args.complex.now).subject)) c.args.x c.meets.result c.in-Matched.is c.meets.ensures) c.at_ancestors.ensures.told

pub tried-returns-in-NextSibling : goal.tried-returns-in-NextSibling
tried-returns-in-NextSibling t c =
    tried_combined c.args.doc.now.elements c.args.complex.now c.in-Some.left c.deref.result.now c.deref-in-NextSibling.result.now next_sibling c.args.x c.at_nearest.result c.at_nearest.ensures.valid c.in-Some.is c.deref.ensures c.deref-in-NextSibling.ensures (ap combinator_of c.in-NextSibling.is) (told_match c.args.doc.now.elements (meets c.args.doc.now.elements (compound_of (out-Complex c.args.complex.now).subject)) c.args.x c.meets.result c.in-Matched.is c.meets.ensures) c.at_nearest.ensures.told

pub tried-returns-in-LaterSibling : goal.tried-returns-in-LaterSibling
tried-returns-in-LaterSibling t c =
    tried_combined c.args.doc.now.elements c.args.complex.now c.in-Some.left c.deref.result.now c.deref-in-LaterSibling.result.now later_sibling c.args.x c.at_siblings.result c.at_siblings.ensures.valid c.in-Some.is c.deref.ensures c.deref-in-LaterSibling.ensures (ap combinator_of c.in-LaterSibling.is) (told_match c.args.doc.now.elements (meets c.args.doc.now.elements (compound_of (out-Complex c.args.complex.now).subject)) c.args.x c.meets.result c.in-Matched.is c.meets.ensures) c.at_siblings.ensures.told

pub tried-returns-in_default : goal.tried-returns-in_default
tried-returns-in_default t c =
    told_further c.args.doc.now.elements (meets c.args.doc.now.elements (compound_of (out-Complex c.args.complex.now).subject)) (holds c.args.doc.now.elements (complex_of c.args.complex.now)) (λ y h. complex_fails c.args.doc.now.elements c.args.complex.now y (out-Complex c.args.complex.now).left refl h) c.args.x c.meets.result c.in_default.not-Matched c.meets.ensures

pub meets-returns-in_default : goal.meets-returns-in_default
meets-returns-in_default t c =
    let at = slice_get_read c.deref-test-items.result.now (length c.deref-test-items.result.now) c.loop-test.test-index c.test-item.result refl c.loop-test-test.true c.test-item.is in
    told_further c.args.doc.now.elements (test_holds c.args.doc.now.elements (test_of c.test-item.result)) (meets c.args.doc.now.elements (compound_of c.args.compound.now)) (λ y h. ap (λ k. meets c.args.doc.now.elements k y) c.loop-test.invariant.whole ∙ meets_fails c.args.doc.now.elements y c.deref-test-items.result.now c.loop-test.test-index c.test-item.result at h) c.args.x c.test_holds.result c.in_default.not-Matched c.test_holds.ensures

pub test_holds-returns-in-Is : goal.test_holds-returns-in-Is
test_holds-returns-in-Is t c =
    let same : (y : ℕ) → holds_some c.args.doc.now.elements (complexes_of c.deref-in-Is.result.now) y ≡ test_holds c.args.doc.now.elements (test_of c.args.test.now) y = λ y. search (rules, the_lemmas) in
    told_same c.args.doc.now.elements (holds_some c.args.doc.now.elements (complexes_of c.deref-in-Is.result.now)) (test_holds c.args.doc.now.elements (test_of c.args.test.now)) same c.args.x c.holds_some-in-Is.result c.holds_some-in-Is.ensures

pub holds_some-loop-complex-init : goal.holds_some-loop-complex-init
holds_some-loop-complex-init t c = none_told c.args.doc.now.elements c.args.x

pub holds_some-returns-in-Matched : goal.holds_some-returns-in-Matched
holds_some-returns-in-Matched t c =
    some_member c.args.doc.now.elements c.args.list.now c.loop-complex.complex-index c.complex-item.result c.args.x c.loop-complex-test.true c.complex-item.is (told_match c.args.doc.now.elements (holds c.args.doc.now.elements (complex_of c.complex-item.result)) c.args.x c.tried.result c.in-Matched.is c.tried.ensures)

pub holds_some-loop-complex-preserved : goal.holds_some-loop-complex-preserved
holds_some-loop-complex-preserved t c =
    subst (Tells c.args.doc.now.elements (holds_some c.args.doc.now.elements (complexes_of (take (c.loop-complex.complex-index + 1) c.args.list.now))) c.args.x) (sym c.weakest-told.ensures) (some_next c.args.doc.now.elements c.args.list.now c.loop-complex.complex-index c.complex-item.result c.args.x c.loop-complex.told c.tried.result c.loop-complex-test.true c.complex-item.is c.loop-complex.invariant c.tried.ensures)
