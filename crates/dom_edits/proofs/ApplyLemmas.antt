-- What an accepted edit touches, as a list in any order.
use Rattle.std.proofs.Common.{◌≡◌, ◌&&◌, ◌==◌, ℕ, Bool, false, true, List, [], ◌∷◌, Option, Some, None, refl, sym, ap, ◌∙◌, subst}
use Rattle.std.specs.Prelude.{codes}
use Rattle.std.specs.List.{AllByRecursion, list_any}
use Rattle.std.specs.List.Sorted.{IsPermutation}
use Rattle.std.specs.Option.{option_map_or}
use Rattle.std.proofs.lemmas.Bool.{and_from, and_parts, false≢true, or_left, or_right}
use Rattle.std.proofs.lemmas.List.Sorted.{list_any-IsPermutation}
use Rattle.std.proofs.lemmas.Map.Keys.{IsDistinct-IsPermutation}
use Rattle.base_model.proofs.Lists.{each_weaker}
use Rattle.scene_model.specs.Document.{Document}
use Rattle.scene_model.specs.Element.{Element}
use Rattle.scene_model.specs.Lookups.{IsElement, is_element, parent_of}
use Rattle.scene_model.proofs.Found.{parent_of-element}
use Rattle.scene_model.proofs.Numbers.{same_number}
use Rattle.change_model.specs.Sound.{IsSound}
use Rattle.edit_model.specs.Apply.{after, refusal}
use Rattle.edit_model.specs.Edit.{DocEdit, IsShaped}
use Rattle.edit_model.specs.Touched.{Touch, attribute, id, class, state, positional, sibling, empty, attribute_changed, in_both, is_touched, list_changed}
use Rattle.edit_model.specs.TouchedBy.{AreTouched, is_listed, same_pair, same_touch, touch_code}
use Rattle.edit_model.specs.TouchedPairs.{touched_pairs}
use Rattle.edit_model.proofs.Lists.{equal_turned}
use Rattle.edit_model.proofs.TouchedPairLemmas.{text_turned, touched-pairs}
use Rattle.dom_edits.proofs.TouchLemmas.{same_self}

same_pair-turned : (p q : Touch × ℕ) → same_pair p q ≡ same_pair q p
same_pair-turned p q =
    λ i. (equal_turned (touch_code p.0).0 (touch_code q.0).0 i && text_turned (touch_code p.0).1 (touch_code q.0).1 i) && equal_turned p.1 q.1 i

-- the pairs in another order
touched-moved : (before now : List Element) (pairs others : List (Touch × ℕ)) → AreTouched before now pairs → IsPermutation pairs others → AreTouched before now others
touched-moved before now pairs others are moved = record {
  exact = λ touch y. sym (list_any-IsPermutation (same_pair (touch, y)) pairs others moved) ∙ are.exact touch y;
  once = IsDistinct-IsPermutation same_pair same_pair-turned pairs others moved are.once;
}

-- what is touched is an element

each_listed : (all rest : List (Touch × ℕ)) → ((touch : Touch) (y : ℕ) → is_listed rest touch y ≡ true → is_listed all touch y ≡ true) → AllByRecursion (λ pair. is_listed all pair.0 pair.1 ≡ true) rest
each_listed all [] h = tt
each_listed all (pair ∷ rest) h =
    (h pair.0 pair.1 (or_left (same_pair (pair.0, pair.1) pair) (is_listed rest pair.0 pair.1) (and_from (same_touch pair.0 pair.0) (pair.1 == pair.1) (same_self pair.0) (same_number pair.1))), each_listed all rest (λ touch y i. h touch y (or_right (same_pair (touch, y) pair) (is_listed rest touch y) i)))

pub touched_at : (before now : List Element) (pairs : List (Touch × ℕ)) → AreTouched before now pairs → AllByRecursion (λ (pair : Touch × ℕ). IsElement now pair.1) pairs
touched_at before now pairs are =
    each_weaker (λ pair. is_listed pairs pair.0 pair.1 ≡ true) (λ pair. IsElement now pair.1) (λ pair h. element pair.0 pair.1 (sym (are.exact pair.0 pair.1) ∙ h)) pairs (each_listed pairs pairs (λ touch y i. i))
  where
    under : (y : ℕ) (o : Option ℕ) → parent_of now y ≡ o → option_map_or (list_changed before now) o false ≡ true → IsElement now y
    under y None e h = absurd (false≢true h)
    under y (Some p) e h = parent_of-element now y p e

    both : (y : ℕ) (differs : Bool) → (in_both before now y && differs) ≡ true → IsElement now y
    both y differs h = (and_parts (is_element before y) (is_element now y) (and_parts (in_both before now y) differs h).0).1

    element : (touch : Touch) (y : ℕ) → is_touched before now touch y ≡ true → IsElement now y
    element (attribute name) y h = both y _ h
    element (id name) y h = both y _ (and_parts (attribute_changed before now (codes "id") y) _ h).0
    element (class name) y h = both y _ h
    element (state s) y h = both y _ h
    element positional y h = under y (parent_of now y) refl h
    element sibling y h = under y (parent_of now y) refl h
    element empty y h = both y _ h

-- what is told of an edit: its pairs, all at elements
abbrev pub IsTold : List Element → List Element → List (Touch × ℕ) → Type 0
IsTold before now told = AreTouched before now told × AllByRecursion (λ (pair : Touch × ℕ). IsElement now pair.1) told

pub told-edit : (d now : Document) (edit : DocEdit) (told : List (Touch × ℕ)) → IsSound d → IsShaped edit → refusal d edit ≡ None → now ≡ after d edit → IsPermutation (touched_pairs d edit) told → IsTold d.elements now.elements told
told-edit d now edit told sound shaped accepts e moved =
    let are = touched-moved d.elements (after d edit).elements (touched_pairs d edit) told (touched-pairs d sound edit shaped accepts) moved in
    subst (λ (n : Document). IsTold d.elements n.elements told) (sym e) (are, touched_at d.elements (after d edit).elements told are)
