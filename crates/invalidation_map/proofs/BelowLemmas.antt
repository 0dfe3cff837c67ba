-- An element and all below it, added to a set.
use Rattle.std.proofs.Common.{◌≡◌, ℕ, ◌==◌, ◌||◌, Bool, true, false, List, [], ◌∷◌, refl, sym, ap, ◌∙◌, subst}
use Rattle.scene_model.specs.Element.{Element}
use Rattle.scene_model.specs.Ancestors.{ancestors}
use Rattle.scene_model.specs.Numbers.{is_in}
use Rattle.change_model.specs.Sound.{is_below}
use Rattle.selector_model.specs.Holds.{is_in_relation}
use Rattle.selector_model.specs.Selector.{descendant}
use Rattle.edit_model.proofs.Lists.{equal_turned}
use Rattle.invalidation_map.specs.Marks.{IsGrown}
use Rattle.invalidation_map.specs.Members.{Members, AreAdded, added}
use Rattle.invalidation_map.specs.Steps.{AreLed}
use Rattle.invalidation_map.proofs.SetLemmas.{one_added}

or_parted : (a b c : Bool) → ((a || (b || false)) || (c || false)) ≡ (a || (b || c))
or_parted true b c = refl
or_parted false true c = refl
or_parted false false true = refl
or_parted false false false = refl

pub below_added : (doc : List Element) (n : ℕ) (empty reached old mid new : Members) (shown : List ℕ) → empty.items ≡ [] → AreLed (is_in_relation doc descendant) (n ∷ []) empty reached
    → shown ≡ reached.items → mid ≡ added old n → AreAdded shown mid new → IsGrown (is_below doc n) old new
below_added doc n empty reached old mid new shown none led same one more = record {
  room = more.room ∙ first.room;
  each = λ x.
      more.each x
      ∙ (ap (λ b. b || is_in x shown) (first.each x)
      ∙ (ap (λ l. (is_in x old.items || ((n == x) || false)) || is_in x l) same
      ∙ (ap (λ b. (is_in x old.items || ((n == x) || false)) || b) (led.each x ∙ ap (λ l. is_in x l || (is_in_relation doc descendant n x || false)) none)
      ∙ (or_parted (is_in x old.items) (n == x) (is_in n (ancestors doc x))
      ∙ ap (λ b. is_in x old.items || (b || is_in n (ancestors doc x))) (equal_turned n x)))));
}
  where
    first : AreAdded (n ∷ []) old mid
    first = subst (AreAdded (n ∷ []) old) (sym one) (one_added old n)
