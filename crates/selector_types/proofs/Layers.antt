-- The view of a selector, from the views of its parts.
use Rattle.std.proofs.Common.{◌≡◌, ℕ, ◌+◌, ◌<◌, List, map, length, drop, get_or, Some, None, refl, sym, ap, ◌∙◌}
use Rattle.std.proofs.lemmas.List.{at_drop_more}
use Rattle.std.specs.Prelude.{Box}
use Rattle.std.specs.declared.alloc.Global.{Global}
use Rattle.selector_model.specs.Selector as model
use Rattle.selector_types.specs.declared.complex.Complex.{Complex}
use Rattle.selector_types.specs.declared.complex.Left.{Left}
use Rattle.selector_types.specs.declared.complex.Test.{Test}
use Rattle.selector_types.specs.declared.complex.Test.TheFolds.{fold_out-Complex, fold_out-Left}
use Rattle.selector_types.specs.declared.complex.Test.TheViews.{out-Complex, out-Left}
use Rattle.selector_types.specs.ComplexView.{Leftward, test_step, complex_step, compound_step, left_step, combinator_of, tested, test_of, complex_of, compound_of, left_of}

pub left_out : (l : Left) → left_of l ≡ record { combinator = combinator_of (out-Left l).combinator; rest = complex_of (out-Left l).rest }
left_out l = fold_out-Left model.Test model.Selector model.Compound Leftward test_step complex_step compound_step left_step l

-- a compound with something to the left of it
pub complex_out-some : (c : Complex) (l : Box Left Global) → (out-Complex c).left ≡ Some l → complex_of c ≡ model.combined (compound_of (out-Complex c).subject) (combinator_of (out-Left l.value).combinator) (complex_of (out-Left l.value).rest)
complex_out-some c l is =
    fold_out-Complex model.Test model.Selector model.Compound Leftward test_step complex_step compound_step left_step c ∙ (rw is (ap (λ (v : Leftward). model.combined (compound_of (out-Complex c).subject) v.combinator v.rest) (left_out l.value)))

-- a compound alone
pub complex_out-none : (c : Complex) → (out-Complex c).left ≡ None → complex_of c ≡ model.subject (compound_of (out-Complex c).subject)
complex_out-none c is =
    fold_out-Complex model.Test model.Selector model.Compound Leftward test_step complex_step compound_step left_step c ∙ (rw is refl)

-- the test at an index, and those after it
pub tests_off : (tests : List Test) (i : ℕ) (test : Test) → i < length tests → test ≡ get_or tests i test → tested (map test_of (drop i tests)) ≡ model.with_test (test_of test) (tested (map test_of (drop (i + 1) tests)))
tests_off tests i test l is =
    at_drop_more (λ ts. tested (map test_of ts)) tests i test l ∙ ap (λ (t : Test). model.with_test (test_of t) (tested (map test_of (drop (i + 1) tests)))) (sym is)
