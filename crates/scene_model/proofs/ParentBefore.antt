-- A parent is before its child.
use Rattle.std.proofs.Common.{◌≡◌, ℕ, ◌+◌, ◌≤◌, ◌==◌, Bool, true, false, not, cond, ◌||◌, List, [], ◌∷◌, ◌++◌, length, Some, sym, ap, ◌∙◌, arith, subst}
use Rattle.std.proofs.lemmas.Bool.{true_from_ne_false}
use Rattle.scene_model.specs.Element.{Element}
use Rattle.scene_model.specs.Lookups.{numbers, parent_of}
use Rattle.scene_model.specs.Valid.{IsValid}
use Rattle.scene_model.proofs.Numbers.{is_in, index_in, same_number}
use Rattle.scene_model.proofs.Found.{position_of-numbers}

first_bound : (b : Bool) (n m : ℕ) → n ≤ m → cond (not b) (1 + n) 0 ≤ m + 1
first_bound true n m h = omega arith
first_bound false n m h = omega arith

-- it is first no later than anywhere else
index_in-le : (x : ℕ) (before after : List ℕ) → index_in (before ++ x ∷ after) x ≤ length before
index_in-le x [] after = subst (λ b. cond (not b) (1 + index_in after x) 0 ≤ 0) (sym (same_number x)) (omega arith)
index_in-le x (y ∷ before) after =
    let step = first_bound (y == x) (index_in (before ++ x ∷ after) x) (length before) (index_in-le x before after) in omega arith

absent_bound : (b rest : Bool) (n m : ℕ) → (b || rest) ≡ false → (rest ≡ false → m ≤ n) → m + 1 ≤ cond (not b) (1 + n) 0
absent_bound true rest n m none h = cc
absent_bound false rest n m none h = let here = h none in omega arith

-- what is not in the first part of a list is after it
index_in-ge : (x : ℕ) (before after : List ℕ) → is_in x before ≡ false → length before ≤ index_in (before ++ after) x
index_in-ge x [] after none = omega arith
index_in-ge x (y ∷ before) after none =
    let step = absent_bound (y == x) (is_in x before) (index_in (before ++ after) x) (length before) none (index_in-ge x before after) in omega arith

-- in a document the parent of an element is one of the elements before it
pub parent_before : (doc : List Element) (before : List ℕ) (x : ℕ) (after : List ℕ) (p : ℕ) → IsValid doc → numbers doc ≡ before ++ x ∷ after → parent_of doc x ≡ Some p → is_in p before ≡ true
parent_before doc before x after p valid e parent =
    true_from_ne_false (is_in p before) (λ none.
    let at_parent = position_of-numbers doc p ∙ ap (λ l. index_in l p) e in
    let at_child = position_of-numbers doc x ∙ ap (λ l. index_in l x) e in
    let far = index_in-ge p before (x ∷ after) none in
    let near = index_in-le x before after in
    let earlier = (valid.parents x p parent).1 in
    omega arith)
