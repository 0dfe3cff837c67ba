-- The steps of the walk of a selector.
use Rattle.std.proofs.Common.{◌≡◌, ℕ, ◌+◌, ◌≤◌, ◌<◌, min, Bool, false, ◌||◌, refl, sym, ap, subst, ◌∙◌, arith}
use Rattle.std.proofs.Math.Bool.{or-false, or_assoc}
use Rattle.base_model.specs.Specificity.{Specificity, nothing, plus, greater}
use Rattle.selector_model.specs.Compounds.{compounds_among, compounds_in, compounds_of, compounds_within}
use Rattle.selector_model.specs.Parts.{has_part, is_of_place, is_of_siblings, part_among, part_in, part_within}
use Rattle.selector_model.specs.Selector.{Combinator, Selector, subject, combined, Compound, any, with_test, Test, where_some, Selectors, no_more, more}
use Rattle.selector_model.specs.SpecificityOf.{specificity_of, specificity_of_compound, specificity_of_test, greatest}
use Rattle.selector_types.specs.Counts.{test_count, tests_among, tests_in, tests_of, total}
use Rattle.selector_types.specs.Measured.{IsOfCompound, IsOfList, IsOfSelector, IsOfTest, both, capped, capped_plus, most}
use Rattle.selector_types.specs.declared.measure.Measure.{Measure}
use Rattle.base_model.proofs.Specificities.{same_counts}
use Rattle.selector_types.proofs.WeightLemmas.{plus_assoc, total_compound, total_selector, total_test}

-- counts that are kept as far as they can be
cap_plus : (a b m : ℕ) → min (min a m + min b m) m ≡ min (a + b) m
cap_plus a b m = omega arith

cap_one : (a m : ℕ) → min (min a m + 1) m ≡ min (1 + a) m
cap_one a m = omega arith

cap_next : (sum a left all next m : ℕ) → min (sum + left) m ≡ min all m → left ≡ a + next → min (min (sum + min a m) m + next) m ≡ min all m
cap_next sum a left all next m so_far is = omega arith

cap_small : (n m : ℕ) → n ≤ m → min n m ≡ n
cap_small n m h = omega arith

together : (a b x y : ℕ) → a ≡ capped x → b ≡ capped y → capped (a + b) ≡ capped (x + y)
together a b x y p q =
    ap (λ n. capped (n + b)) p ∙ (ap (λ n. capped (capped x + n)) q ∙ cap_plus x y most)

plus_small : (a b : Specificity) → total a + total b ≤ most → capped_plus a b ≡ plus a b
plus_small a b h =
    same_counts _ _ (cap_small (a.ids + b.ids) most (omega arith)) (cap_small (a.classes + b.classes) most (omega arith)) (cap_small (a.types + b.types) most (omega arith))

weights_together : (a b x y : Specificity) → a ≡ x → b ≡ y → total x + total y ≤ most → capped_plus a b ≡ plus x y
weights_together a b x y p q fits =
    ap (λ w. capped_plus w b) p ∙ (ap (capped_plus x) q ∙ plus_small x y fits)

-- a selector of one compound
pub of_subject : (selector : Selector) (compound : Compound) (inside whole : Measure) → selector ≡ subject compound → IsOfCompound inside compound → whole ≡ record inside { compounds = capped (inside.compounds + 1) } → IsOfSelector whole selector
of_subject selector compound inside whole e of is =
    subst (IsOfSelector whole) (sym e) (record {
      tests_are = ap (λ w. w.tests) is ∙ of.tests_are;
      compounds_are = ap (λ w. w.compounds) is ∙ (ap (λ n. capped (n + 1)) of.compounds_are ∙ cap_one (compounds_within compound) most);
      weight_is = λ few. ap (λ w. w.weight) is ∙ of.weight_is few;
      by_place_is = ap (λ w. w.by_place) is ∙ of.by_place_is;
    })

-- and one with another to its left
pub of_combined : (selector rest : Selector) (compound : Compound) (combinator : Combinator) (inside first left together_are whole : Measure) → selector ≡ combined compound combinator rest → IsOfCompound inside compound
    → first ≡ record inside { compounds = capped (inside.compounds + 1) } → IsOfSelector left rest → together_are ≡ both first left → whole ≡ record together_are { by_place = together_are.by_place || is_of_siblings combinator } → IsOfSelector whole selector
of_combined selector rest compound combinator inside first left together_are whole e of first_is beyond with_left is =
    let one : IsOfSelector first (subject compound) = of_subject (subject compound) compound inside first refl of first_is in
    subst (IsOfSelector whole) (sym e) (record {
      tests_are = ap (λ w. w.tests) is ∙ (ap (λ w. w.tests) with_left ∙ together first.tests left.tests (tests_in compound) (test_count rest) one.tests_are beyond.tests_are);
      compounds_are = ap (λ w. w.compounds) is ∙ (ap (λ w. w.compounds) with_left ∙ together first.compounds left.compounds (1 + compounds_within compound) (compounds_in rest) one.compounds_are beyond.compounds_are);
      weight_is = λ few. ap (λ w. w.weight) is ∙ (ap (λ w. w.weight) with_left ∙ weights_together first.weight left.weight (specificity_of_compound compound) (specificity_of rest) (one.weight_is (omega (arith, few))) (beyond.weight_is (omega (arith, few))) (omega (arith, few, total_compound compound, total_selector rest)));
      by_place_is = ap (λ w. w.by_place) is ∙ (ap (λ w. w.by_place || is_of_siblings combinator) with_left
          ∙ (ap (λ b. (b || left.by_place) || is_of_siblings combinator) one.by_place_is ∙ ap (λ b. (part_within is_of_place is_of_siblings compound || b) || is_of_siblings combinator) beyond.by_place_is));
    })

-- `:where` weighs nothing
pub of_where : (test : Test) (selectors : Selectors) (inside whole : Measure) → test ≡ where_some selectors → IsOfList inside selectors → whole ≡ record inside { weight = nothing } → IsOfTest whole test
of_where test selectors inside whole e of is =
    subst (IsOfTest whole) (sym e) (record {
      tests_are = ap (λ w. w.tests) is ∙ of.tests_are;
      compounds_are = ap (λ w. w.compounds) is ∙ of.compounds_are;
      weight_is = λ few. ap (λ w. w.weight) is;
      by_place_is = ap (λ w. w.by_place) is ∙ of.by_place_is;
    })

-- what was found so far, and what is left, are the whole
pub record IsSoFar (sum : Measure) (tests compounds : ℕ) (by_place : Bool) (all_tests all_compounds : ℕ) (all_by_place : Bool) : Type 0 where
  pub tests_left : capped (sum.tests + tests) ≡ capped all_tests
  pub tests_fit : sum.tests ≤ most
  pub compounds_left : capped (sum.compounds + compounds) ≡ capped all_compounds
  pub compounds_fit : sum.compounds ≤ most
  pub by_place_left : (sum.by_place || by_place) ≡ all_by_place

module _ (all_tests all_compounds : ℕ) (all_by_place : Bool) where
  abbrev SoFar : Measure → ℕ → ℕ → Bool → Type 0
  SoFar sum tests compounds by_place = IsSoFar sum tests compounds by_place all_tests all_compounds all_by_place

  so_far_first : (sum : Measure) → sum ≡ record { tests = 0; compounds = 0; weight = nothing; by_place = false } → SoFar sum all_tests all_compounds all_by_place
  so_far_first sum is = record {
    tests_left = omega (arith, ap (λ m. m.tests) is);
    tests_fit = omega (arith, ap (λ m. m.tests) is);
    compounds_left = omega (arith, ap (λ m. m.compounds) is);
    compounds_fit = omega (arith, ap (λ m. m.compounds) is);
    by_place_left = ap (λ m. m.by_place || all_by_place) is;
  }

  -- one more was found
  so_far_more : (sum found new : Measure) (tests compounds : ℕ) (by_place : Bool) (one_tests one_compounds : ℕ) (one_by_place : Bool) (rest_tests rest_compounds : ℕ) (rest_by_place : Bool)
      → tests ≡ one_tests + rest_tests → compounds ≡ one_compounds + rest_compounds → by_place ≡ (one_by_place || rest_by_place)
      → found.tests ≡ capped one_tests → found.compounds ≡ capped one_compounds → found.by_place ≡ one_by_place
      → new.tests ≡ capped (sum.tests + found.tests) → new.compounds ≡ capped (sum.compounds + found.compounds) → new.by_place ≡ (sum.by_place || found.by_place)
      → SoFar sum tests compounds by_place → SoFar new rest_tests rest_compounds rest_by_place
  so_far_more sum found new tests compounds by_place t k b rest_tests rest_compounds rest_by_place t_split k_split b_split t_is k_is b_is t_new k_new b_new before = record {
    tests_left = ap (λ n. capped (n + rest_tests)) t_new ∙ (ap (λ n. capped (capped (sum.tests + n) + rest_tests)) t_is ∙ cap_next sum.tests t tests all_tests rest_tests most before.tests_left t_split);
    tests_fit = omega (arith, t_new);
    compounds_left = ap (λ n. capped (n + rest_compounds)) k_new ∙ (ap (λ n. capped (capped (sum.compounds + n) + rest_compounds)) k_is ∙ cap_next sum.compounds k compounds all_compounds rest_compounds most before.compounds_left k_split);
    compounds_fit = omega (arith, k_new);
    by_place_left = ap (λ x. x || rest_by_place) b_new ∙ (ap (λ x. (sum.by_place || x) || rest_by_place) b_is ∙ (or_assoc sum.by_place b rest_by_place ∙ (ap (λ x. sum.by_place || x) (sym b_split) ∙ before.by_place_left)));
  }

  tests_all : (sum : Measure) → SoFar sum 0 0 false → sum.tests ≡ capped all_tests
  tests_all sum before = omega (arith, before.tests_left, before.tests_fit)

  compounds_all : (sum : Measure) → SoFar sum 0 0 false → sum.compounds ≡ capped all_compounds
  compounds_all sum before = omega (arith, before.compounds_left, before.compounds_fit)

  by_place_all : (sum : Measure) → SoFar sum 0 0 false → sum.by_place ≡ all_by_place
  by_place_all sum before = sym (or-false sum.by_place) ∙ before.by_place_left

-- the tests of a compound, one after another
pub record IsSum (sum : Measure) (left whole : Compound) : Type 0 where
  pub so_far : IsSoFar sum (tests_in left) (compounds_within left) (part_within is_of_place is_of_siblings left) (tests_in whole) (compounds_within whole) (part_within is_of_place is_of_siblings whole)
  pub weight : tests_in whole < most → plus sum.weight (specificity_of_compound left) ≡ specificity_of_compound whole
  pub fits : tests_in whole < most → total sum.weight + tests_in left < most

nothing_plus : (w : Specificity) → plus nothing w ≡ w
nothing_plus w = same_counts _ _ (omega arith) (omega arith) (omega arith)

plus_nothing : (w : Specificity) → plus w nothing ≡ w
plus_nothing w = same_counts _ _ (omega arith) (omega arith) (omega arith)

pub sum_first : (whole : Compound) (sum : Measure) → sum ≡ record { tests = 0; compounds = 0; weight = nothing; by_place = false } → IsSum sum whole whole
sum_first whole sum is = record {
  so_far = so_far_first (tests_in whole) (compounds_within whole) (part_within is_of_place is_of_siblings whole) sum is;
  weight = λ few. ap (λ m. plus m.weight (specificity_of_compound whole)) is ∙ nothing_plus (specificity_of_compound whole);
  fits = λ few. omega (arith, few, ap (λ m. total m.weight) is);
}

pub sum_more : (whole left rest : Compound) (test : Test) (sum found new : Measure) → left ≡ with_test test rest → IsOfTest found test → new ≡ both sum found → IsSum sum left whole → IsSum new rest whole
sum_more whole left rest test sum found new e of is before = record {
  so_far = so_far_more (tests_in whole) (compounds_within whole) (part_within is_of_place is_of_siblings whole) sum found new _ _ _ (tests_of test) (compounds_of test) (part_in is_of_place is_of_siblings test) (tests_in rest) (compounds_within rest) (part_within is_of_place is_of_siblings rest)
      (ap tests_in e) (ap compounds_within e) (ap (part_within is_of_place is_of_siblings) e) of.tests_are of.compounds_are of.by_place_is (ap (λ m. m.tests) is) (ap (λ m. m.compounds) is) (ap (λ m. m.by_place) is) before.so_far;
  weight = λ few. ap (λ w. plus w (specificity_of_compound rest)) (added few)
      ∙ (plus_assoc sum.weight (specificity_of_test test) (specificity_of_compound rest) ∙ (ap (λ l. plus sum.weight (specificity_of_compound l)) (sym e) ∙ before.weight few));
  fits = λ few. omega (arith, before.fits few, ap tests_in e, ap total (added few), total_test test);
}
  where
    added : tests_in whole < most → new.weight ≡ plus sum.weight (specificity_of_test test)
    added few =
        ap (λ m. m.weight) is
        ∙ weights_together sum.weight found.weight sum.weight (specificity_of_test test) refl (of.weight_is (omega (arith, before.fits few, ap tests_in e))) (omega (arith, before.fits few, ap tests_in e, total_test test))

pub sum_all : (whole left : Compound) (sum : Measure) → left ≡ any → IsSum sum left whole → IsOfCompound sum whole
sum_all whole left sum e before =
    let last : IsSum sum any whole = subst (λ l. IsSum sum l whole) e before in record {
      tests_are = tests_all (tests_in whole) (compounds_within whole) (part_within is_of_place is_of_siblings whole) sum last.so_far;
      compounds_are = compounds_all (tests_in whole) (compounds_within whole) (part_within is_of_place is_of_siblings whole) sum last.so_far;
      weight_is = λ few. sym (plus_nothing sum.weight) ∙ last.weight few;
      by_place_is = by_place_all (tests_in whole) (compounds_within whole) (part_within is_of_place is_of_siblings whole) sum last.so_far;
    }

-- the members of a list, one after another: the most specific weighs
pub record IsGreatest (sum : Measure) (left whole : Selectors) : Type 0 where
  pub so_far : IsSoFar sum (tests_among left) (compounds_among left) (part_among is_of_place is_of_siblings left) (tests_among whole) (compounds_among whole) (part_among is_of_place is_of_siblings whole)
  pub weight : tests_among whole < most → greatest sum.weight left ≡ greatest nothing whole

pub greatest_first : (whole : Selectors) (sum : Measure) → sum ≡ record { tests = 0; compounds = 0; weight = nothing; by_place = false } → IsGreatest sum whole whole
greatest_first whole sum is = record {
  so_far = so_far_first (tests_among whole) (compounds_among whole) (part_among is_of_place is_of_siblings whole) sum is;
  weight = λ few. ap (λ m. greatest m.weight whole) is;
}

pub greatest_more : (whole left rest : Selectors) (selector : Selector) (sum found together_are new : Measure) (weight : Specificity) → left ≡ more selector rest → IsOfSelector found selector → weight ≡ greater sum.weight found.weight → together_are ≡ both sum found → new ≡ record together_are { weight = weight } → IsGreatest sum left whole → IsGreatest new rest whole
greatest_more whole left rest selector sum found together_are new weight e of chosen with_one is before = record {
  so_far = so_far_more (tests_among whole) (compounds_among whole) (part_among is_of_place is_of_siblings whole) sum found new _ _ _ (test_count selector) (compounds_in selector) (has_part is_of_place is_of_siblings selector) (tests_among rest) (compounds_among rest) (part_among is_of_place is_of_siblings rest)
      (ap tests_among e) (ap compounds_among e) (ap (part_among is_of_place is_of_siblings) e) of.tests_are of.compounds_are of.by_place_is (ap (λ m. m.tests) is ∙ ap (λ m. m.tests) with_one) (ap (λ m. m.compounds) is ∙ ap (λ m. m.compounds) with_one) (ap (λ m. m.by_place) is ∙ ap (λ m. m.by_place) with_one) before.so_far;
  weight = λ few. ap (λ m. greatest m.weight rest) is
      ∙ (ap (λ w. greatest w rest) chosen
      ∙ (ap (λ w. greatest (greater sum.weight w) rest) (of.weight_is (omega (arith, few, before.so_far.tests_left, ap tests_among e)))
      ∙ (ap (greatest sum.weight) (sym e) ∙ before.weight few)));
}

pub greatest_all : (whole left : Selectors) (sum : Measure) → left ≡ no_more → IsGreatest sum left whole → IsOfList sum whole
greatest_all whole left sum e before =
    let last : IsGreatest sum no_more whole = subst (λ l. IsGreatest sum l whole) e before in record {
      tests_are = tests_all (tests_among whole) (compounds_among whole) (part_among is_of_place is_of_siblings whole) sum last.so_far;
      compounds_are = compounds_all (tests_among whole) (compounds_among whole) (part_among is_of_place is_of_siblings whole) sum last.so_far;
      weight_is = last.weight;
      by_place_is = by_place_all (tests_among whole) (compounds_among whole) (part_among is_of_place is_of_siblings whole) sum last.so_far;
    }
