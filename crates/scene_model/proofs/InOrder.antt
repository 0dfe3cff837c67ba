-- The elements and their parents by their place in tree order.
use Rattle.std.proofs.Common.{◌≡◌, ℕ, ◌+◌, ◌<◌, true, List, ◌∷◌, ◌++◌, length, take, drop, get_or, Some, sym, ap, ◌∙◌, take-append-drop, add-one}
use Rattle.std.proofs.Math.Seq.{drop-cons}
use Rattle.scene_model.specs.Element.{Element}
use Rattle.scene_model.specs.Lookups.{numbers, parent_of, IsElement}
use Rattle.scene_model.specs.Valid.{IsValid}
use Rattle.scene_model.proofs.Any.{in_middle}
use Rattle.scene_model.proofs.Found.{is_element-numbers}
use Rattle.scene_model.proofs.Numbers.{is_in}
use Rattle.scene_model.proofs.ParentBefore.{parent_before}

split_order : (doc : List Element) (order : List ℕ) (k : ℕ) → order ≡ numbers doc → k < length order → numbers doc ≡ take k order ++ get_or order k 0 ∷ drop (k + 1) order
split_order doc order k e below =
    sym e ∙ sym (take-append-drop k order) ∙ ap (λ l. take k order ++ l) (drop-cons order k 0 below ∙ ap (λ m. get_or order k 0 ∷ drop m order) (sym (add-one k)))

pub element_in_order : (doc : List Element) (order : List ℕ) (k : ℕ) → order ≡ numbers doc → k < length order → IsElement doc (get_or order k 0)
element_in_order doc order k e below =
    is_element-numbers doc (get_or order k 0) ∙ ap (is_in (get_or order k 0)) (split_order doc order k e below) ∙ in_middle (get_or order k 0) (take k order) (drop (k + 1) order)

pub parent_in_order : (doc : List Element) (order : List ℕ) (k p : ℕ) → IsValid doc → order ≡ numbers doc → k < length order → parent_of doc (get_or order k 0) ≡ Some p → is_in p (take k order) ≡ true
parent_in_order doc order k p valid e below parent =
    parent_before doc (take k order) (get_or order k 0) (drop (k + 1) order) p valid (split_order doc order k e below) parent
