-- For `asks_ancestors` and `slots_of`: the ancestor names of a selector, compound by compound.
use Rattle.std.proofs.Common.{◌≡◌, ℕ, ◌+◌, ◌<◌, ◌≤◌, List, [], ◌∷◌, ◌++◌, length, map}
use Rattle.std.proofs.Common.{drop, get_or, true, false, ◌||◌, Some, None, refl, sym, ap, ap₂, ◌∙◌}
use Rattle.std.specs.Prelude.{Box}
use Rattle.std.specs.declared.alloc.Global.{Global}
use Rattle.std.proofs.lemmas.List.{drop_all, map-append}
use Rattle.base_model.specs.Text.{Characters}
use Rattle.ancestor_filter.specs.Names.{slot}
use Rattle.ancestor_model.specs.Above.{ancestor_names, names_in, names_left, names_of_test}
use Rattle.selector_types.specs.declared.complex.Test.{Test}
use Rattle.selector_model.specs.Selector as model
use Rattle.selector_types.specs.declared.complex.Complex.{Complex}
use Rattle.selector_types.specs.declared.complex.Compound.{Compound}
use Rattle.selector_types.specs.declared.complex.Left.{Left}
use Rattle.selector_types.specs.declared.complex.Test.TheFolds.{fold_out-Compound}
use Rattle.selector_types.specs.declared.complex.Test.TheViews.{out-Complex, out-Compound, out-Left}
use Rattle.selector_types.specs.ComplexView.{Leftward, test_step, complex_step, compound_step, left_step, test_of, tested, complex_of, compound_of, left_of}
use Rattle.selector_types.proofs.Layers.{complex_out-none, complex_out-some, left_out, tests_off}
use Rattle.rule_maps.specs.Asking.{has_some}

pub some_either : (one other : List Characters) → has_some (one ++ other) ≡ (has_some one || has_some other)
some_either [] other = refl
some_either (name ∷ one) other = refl

-- the names of the tests from an index on
abbrev pub names_from : List Test → ℕ → List Characters
names_from tests i = names_in (tested (map test_of (drop i tests)))

pub names_off : (tests : List Test) (i : ℕ) (test : Test) → i < length tests → test ≡ get_or tests i test
    → names_from tests i ≡ names_of_test (test_of test) ++ names_from tests (i + 1)
names_off tests i test l is = ap names_in (tests_off tests i test l is)

pub some_here : (tests : List Test) (i : ℕ) (test : Test) → i < length tests → test ≡ get_or tests i test
    → has_some (names_of_test (test_of test)) ≡ true → has_some (names_from tests i) ≡ true
some_here tests i test l is h =
    ap has_some (names_off tests i test l is)
    ∙ (some_either (names_of_test (test_of test)) (names_from tests (i + 1)) ∙ ap (λ b. b || has_some (names_from tests (i + 1))) h)

pub none_here : (tests : List Test) (i : ℕ) (test : Test) → i < length tests → test ≡ get_or tests i test
    → has_some (names_of_test (test_of test)) ≡ false → has_some (names_from tests i) ≡ has_some (names_from tests (i + 1))
none_here tests i test l is h =
    ap has_some (names_off tests i test l is)
    ∙ (some_either (names_of_test (test_of test)) (names_from tests (i + 1)) ∙ ap (λ b. b || has_some (names_from tests (i + 1))) h)

-- the names of all tests of a compound are those of the compound
pub names_of_tests : (c : Compound) → names_from (out-Compound c).tests.items 0 ≡ names_in (compound_of c)
names_of_tests c =
    sym (ap names_in (fold_out-Compound model.Test model.Selector model.Compound Leftward test_step complex_step compound_step left_step c))

pub no_names_left : (tests : List Test) (i : ℕ) → length tests ≤ i → names_from tests i ≡ []
no_names_left tests i h = ap (λ l. names_in (tested (map test_of l))) (drop_all i tests h)

-- the names of a selector, of which that is to the left
pub names_leftwards : (c : Complex) (l : Box Left Global) → (out-Complex c).left ≡ Some l
    → ancestor_names (complex_of c) ≡ names_left (left_of l.value).combinator (left_of l.value).rest ++ ancestor_names (complex_of (out-Left l.value).rest)
names_leftwards c l is =
    ap ancestor_names (complex_out-some c l is)
    ∙ ap (λ (v : Leftward). names_left v.combinator v.rest ++ ancestor_names (complex_of (out-Left l.value).rest)) (sym (left_out l.value))

pub no_names_leftwards : (c : Complex) → (out-Complex c).left ≡ None → ancestor_names (complex_of c) ≡ []
no_names_leftwards c is = ap ancestor_names (complex_out-none c is)

-- and their slots
pub slots_leftwards : (c : Complex) (l : Box Left Global) (a b : Left) → (out-Complex c).left ≡ Some l → a ≡ l.value → b ≡ l.value
    → map slot (ancestor_names (complex_of c)) ≡ map slot (names_left (left_of a).combinator (left_of a).rest) ++ map slot (ancestor_names (complex_of (out-Left b).rest))
slots_leftwards c l a b is e f =
    ap (map slot) (names_leftwards c l is)
    ∙ (map-append slot (names_left (left_of l.value).combinator (left_of l.value).rest) (ancestor_names (complex_of (out-Left l.value).rest))
    ∙ ap₂ (λ (p q : Left). map slot (names_left (left_of p).combinator (left_of p).rest) ++ map slot (ancestor_names (complex_of (out-Left q).rest))) (sym e) (sym f))
