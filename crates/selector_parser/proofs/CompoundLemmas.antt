-- The tests of a compound, as they are read: those so far, before those of what is left.
use Rattle.std.proofs.Common.{◌≡◌, ℕ, zero, suc, ◌<◌, ◌≤◌, List, [], ◌∷◌, ◌++◌, length, Option, Some, None, refl, sym, ap, ◌∙◌, arith}
use Rattle.syntax_model.specs.Token.{Token}
use Rattle.selector_model.specs.Selector.{Compound, any, with_test, Test}
use Rattle.selector_types.specs.ComplexView.{tested}
use Rattle.sheet_model.specs.SelectorsIn.{Reader, before, compound_at, first_at, test_at, tests_within}

before-any : (tests : List Test) → before tests any ≡ tested tests
before-any [] = refl
before-any (test ∷ tests) = ap (with_test test) (before-any tests)

before-push : (tests : List Test) (test : Test) (rest : Compound) → before tests (with_test test rest) ≡ before (tests ++ test ∷ []) rest
before-push [] test rest = refl
before-push (first ∷ tests) test rest = ap (with_test first) (before-push tests test rest)

-- the tests so far and those of what is left are the whole, where no more of them may follow than that
pub record AreTestsSoFar (reader : Reader) (whole : Option (Compound × List Token)) (tests : List Test) (rest : List Token) : Type 0 where
  pub most : ℕ
  pub room : length rest ≤ most
  pub same : whole ≡ Some (before tests (tests_within reader most rest).0, (tests_within reader most rest).1)

pub tests_first : (reader : Reader) (tokens : List Token) (tests : List Test) (rest : List Token) → Some (tests, rest) ≡ first_at reader tokens → AreTestsSoFar reader (compound_at reader tokens) tests rest
tests_first reader tokens tests rest e = record { most = length rest; room = omega arith; same = rw (← e) refl }

pub tests_more : (reader : Reader) (whole : Option (Compound × List Token)) (tests : List Test) (rest after : List Token) (test : Test) → AreTestsSoFar reader whole tests rest → Some (test, after) ≡ test_at reader rest → length after < length rest → AreTestsSoFar reader whole (tests ++ test ∷ []) after
tests_more reader whole tests rest after test h e shorter = from h.most h.room h.same
  where
    from : (most : ℕ) → length rest ≤ most → whole ≡ Some (before tests (tests_within reader most rest).0, (tests_within reader most rest).1) → AreTestsSoFar reader whole (tests ++ test ∷ []) after
    from zero room same = absurd (omega (arith, room, shorter))
    from (suc most) room same = record {
      most = most;
      room = omega (arith, room, shorter);
      same = same ∙ rw (tests_within, ← e) (ap (λ (c : Compound). Some (c, (tests_within reader most after).1)) (before-push tests test (tests_within reader most after).0));
    }

pub tests_all : (reader : Reader) (whole : Option (Compound × List Token)) (tests : List Test) (rest : List Token) → AreTestsSoFar reader whole tests rest → None ≡ test_at reader rest → Some (tested tests, rest) ≡ whole
tests_all reader whole tests rest h e = from h.most h.same
  where
    from : (most : ℕ) → whole ≡ Some (before tests (tests_within reader most rest).0, (tests_within reader most rest).1) → Some (tested tests, rest) ≡ whole
    from zero same = sym (same ∙ ap (λ (c : Compound). Some (c, rest)) (before-any tests))
    from (suc most) same = sym (same ∙ rw (tests_within, ← e) (ap (λ (c : Compound). Some (c, rest)) (before-any tests)))
