use Rattle.std.proofs.Common.{ℕ, List, map, sym, ap, ◌∙◌, subst}
use Rattle.std.proofs.lemmas.List.{map-append}
use Rattle.ancestor_filter.specs.Names.{slot}
use Rattle.ancestor_model.specs.Above.{names_in, names_of_test}
use Rattle.selector_types.specs.ComplexView.{compound_of, test_of}
use Rattle.rule_maps.proofs.SlotLemmas.{SoFar, so_far_none, so_far_next, so_far_all}
use Rattle.rule_maps.proofs.NameLemmas.{names_from, names_off, names_of_tests, no_names_left}
use Rattle.rule_maps.proofs.ancestor_slots.FoundSlots.push_compound.Goals as goal

pub loop-test-init : goal.loop-test-init
loop-test-init c names h =
    let all = map slot (names_in (compound_of c.args.compound.now)) in
    let whole = ap (λ tests. names_from tests 0) c.deref-test-items.ensures.value ∙ names_of_tests c.args.compound.now in
    subst (λ (left : List ℕ). SoFar c.args.self.now names left all) (ap (map slot) (sym whole)) (so_far_none c.args.self.now names all h)

pub loop-test-preserved : goal.loop-test-preserved
loop-test-preserved c names h =
    let tests = c.deref-test-items.result.now in
    let at = c.loop-test.test-index in
    let one = names_of_test (test_of c.test-item.result) in
    so_far_next c.loop-test.self c.push_test.new.self names (map slot one) (map slot (names_from tests _)) _ (map slot (names_from tests at))
    (ap (map slot) (names_off tests at c.test-item.result c.loop-test-test.true c.test-item.is) ∙ map-append slot one (names_from tests _))
    c.push_test.ensures (c.loop-test.invariant names h)

pub returns : goal.returns
returns c names h =
    let tests = c.deref-test-items.result.now in
    so_far_all c.loop-test.self names _ (map slot (names_from tests c.loop-test.test-index))
    (ap (map slot) (no_names_left tests c.loop-test.test-index c.loop-test-test.false)) (c.loop-test.invariant names h)
