-- An+B computed on small texts.
use Rattle.std.proofs.Common.{◌≡◌, ℤ, pos, List, [], ◌∷◌, map, Some, None, refl}
use Rattle.std.specs.Prelude.{codes, neg_ℤ}
use Rattle.base_model.specs.Text.{Characters}
use Rattle.syntax_model.specs.TokensIn.{tokens_in}
use Rattle.sheet_model.specs.AnPlusB.{an_plus_b_in, formula}

-- each text is these two numbers
abbrev AreRead : List (Characters × (ℤ × ℤ)) → Type 0
AreRead rows = map (λ row. an_plus_b_in (tokens_in row.0)) rows ≡ map (λ row. Some (formula row.1.0 row.1.1)) rows

accepted : AreRead (
    (codes "odd", (pos 2, pos 1))
    ∷ (codes "even", (pos 2, pos 0))
    ∷ (codes "ODD", (pos 2, pos 1))
    ∷ (codes " Even ", (pos 2, pos 0))
    ∷ (codes "3", (pos 0, pos 3))
    ∷ (codes "+3", (pos 0, pos 3))
    ∷ (codes "-3", (pos 0, neg_ℤ (pos 3)))
    ∷ (codes "0", (pos 0, pos 0))
    ∷ (codes "007", (pos 0, pos 7))
    ∷ (codes " 5 ", (pos 0, pos 5))
    ∷ (codes "n", (pos 1, pos 0))
    ∷ (codes "N", (pos 1, pos 0))
    ∷ (codes "-n", (neg_ℤ (pos 1), pos 0))
    ∷ (codes "+n", (pos 1, pos 0))
    ∷ (codes "2n", (pos 2, pos 0))
    ∷ (codes "-2n", (neg_ℤ (pos 2), pos 0))
    ∷ (codes "+2N", (pos 2, pos 0))
    ∷ (codes "0n", (pos 0, pos 0))
    ∷ (codes "n+1", (pos 1, pos 1))
    ∷ (codes "n-1", (pos 1, neg_ℤ (pos 1)))
    ∷ (codes "2n+1", (pos 2, pos 1))
    ∷ (codes "2n-1", (pos 2, neg_ℤ (pos 1)))
    ∷ (codes "2n +1", (pos 2, pos 1))
    ∷ (codes "2n + 1", (pos 2, pos 1))
    ∷ (codes "2n - 1", (pos 2, neg_ℤ (pos 1)))
    ∷ (codes "2n- 1", (pos 2, neg_ℤ (pos 1)))
    ∷ (codes "2n -1", (pos 2, neg_ℤ (pos 1)))
    ∷ (codes "-n+3", (neg_ℤ (pos 1), pos 3))
    ∷ (codes "-n-3", (neg_ℤ (pos 1), neg_ℤ (pos 3)))
    ∷ (codes "-n- 3", (neg_ℤ (pos 1), neg_ℤ (pos 3)))
    ∷ (codes "+n- 3", (pos 1, neg_ℤ (pos 3)))
    ∷ (codes "+n-3", (pos 1, neg_ℤ (pos 3)))
    ∷ (codes "n- 0", (pos 1, pos 0))
    ∷ (codes "3N-04", (pos 3, neg_ℤ (pos 4)))
    ∷ (codes "-0n-0", (pos 0, pos 0))
    ∷ (codes "2n/**/+/**/1", (pos 2, pos 1))
    ∷ (codes "99999999999n+99999999999", (pos 2147483647, pos 2147483647))
    ∷ (codes "-99999999999n - 99999999999", (neg_ℤ (pos 2147483647), neg_ℤ (pos 2147483647)))
    ∷ (codes "2147483648", (pos 0, pos 2147483647))
    ∷ [])
unfolding an_plus_b_in tokens_in
accepted = refl

-- each text is none
abbrev AreRefused : List Characters → Type 0
AreRefused texts = map (λ text. an_plus_b_in (tokens_in text)) texts ≡ map (λ text. None) texts

refused : AreRefused (
    ([])
    ∷ (codes "+")
    ∷ (codes "-")
    ∷ (codes "+ 3")
    ∷ (codes "- 3")
    ∷ (codes "+ n")
    ∷ (codes "- n")
    ∷ (codes "+-n")
    ∷ (codes "--n")
    ∷ (codes "2 n")
    ∷ (codes "2.0")
    ∷ (codes "2.0n")
    ∷ (codes "1e0")
    ∷ (codes "1e0n")
    ∷ (codes "2n+ -1")
    ∷ (codes "2n + +1")
    ∷ (codes "2n - -1")
    ∷ (codes "2n+-1")
    ∷ (codes "2n+ +1")
    ∷ (codes "2n 1")
    ∷ (codes "n1")
    ∷ (codes "2n1")
    ∷ (codes "n-a")
    ∷ (codes "n--1")
    ∷ (codes "2n-1 1")
    ∷ (codes "odd even")
    ∷ (codes "2n + ")
    ∷ (codes "n of p")
    ∷ (codes "3px")
    ∷ (codes "3%")
    ∷ [])
unfolding an_plus_b_in tokens_in
refused = refl
