-- The names of an element, by their index.
use Rattle.std.proofs.Common.{◌≡◌, ℕ, zero, suc, ◌-◌, ◌≤◌, List, ◌∷◌, map, Option, Some, None, option_map, slice_get, sym, ap, ◌∙◌, arith}
use Rattle.std.proofs.lemmas.Option.{slice_get-map}
use Rattle.scene_model.specs.Element.{Characters}
use Rattle.dom_tree.specs.declared.element_names.NameKind.TheVariants.{Class}
use Rattle.dom_tree.specs.ElementNames.{ElementName, named_as, names_with}
use Rattle.dom_tree.specs.Kept.{text_of}

after_one : {X : Type 0} (x : X) (xs : List X) (i : ℕ) → 1 ≤ i → slice_get (x ∷ xs) i ≡ slice_get xs (i - 1)
after_one x xs zero h = absurd (omega arith)
after_one x xs (suc i) h = let same : i ≡ suc i - 1 = omega arith in ap (slice_get xs) same

after_two : {X : Type 0} (x y : X) (xs : List X) (i : ℕ) → 2 ≤ i → slice_get (x ∷ y ∷ xs) i ≡ slice_get xs (i - 2)
after_two x y xs zero h = absurd (omega arith)
after_two x y xs (suc zero) h = absurd (omega arith)
after_two x y xs (suc (suc i)) h = let same : i ≡ suc (suc i) - 2 = omega arith in ap (slice_get xs) same

-- the classes come after the tag, and after the id where there is one
module _ (tag : Characters) (names : List Characters) (id : Option ℕ) (classes : List Characters) {now : List ElementName} (view : names_with tag (option_map (text_of names) id) classes ≡ now) where
  with_id : (i : ℕ) (o : Option ℕ) → id ≡ o → slice_get now i ≡ slice_get (names_with tag (option_map (text_of names) o) classes) i
  with_id i o e =
      ap (λ l. slice_get l i) (sym view) ∙ ap (λ p. slice_get (names_with tag (option_map (text_of names) p) classes) i) e

  mapped : (i : ℕ) {class : Characters} → slice_get classes i ≡ Some class → slice_get (map (named_as Class) classes) i ≡ Some (named_as Class class)
  mapped i h = slice_get-map (named_as Class) classes i ∙ ap (option_map (named_as Class)) h

  pub class_after_id : (i : ℕ) {name : ℕ} {class : Characters} → id ≡ Some name → 2 ≤ i → slice_get classes (i - 2) ≡ Some class → slice_get now i ≡ Some (named_as Class class)
  class_after_id i {name} e l h = with_id i (Some name) e ∙ (after_two _ _ (map (named_as Class) classes) i l ∙ mapped (i - 2) h)

  pub class_after_tag : (i : ℕ) {class : Characters} → id ≡ None → 1 ≤ i → slice_get classes (i - 1) ≡ Some class → slice_get now i ≡ Some (named_as Class class)
  class_after_tag i e l h = with_id i None e ∙ (after_one _ (map (named_as Class) classes) i l ∙ mapped (i - 1) h)
