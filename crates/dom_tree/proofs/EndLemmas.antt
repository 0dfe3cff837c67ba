-- Where a subtree ends, one step up: at the next sibling, or else where the parent's ends.
use Rattle.std.proofs.Common.{◌≡◌, ℕ, suc, ◌+◌, ◌≤◌, ◌==◌, false, nat_lt, List, [], ◌∷◌, ◌++◌, length, take, drop, Some, slice_get, sym, ap, ◌∙◌, refl, arith, append_assoc, length-append}
use Rattle.std.specs.List.{position_or_len}
use Rattle.std.proofs.Math.Seq.{take-append-add}
use Rattle.std.proofs.lemmas.Bool.Decides.{nat_tests}
use Rattle.scene_model.specs.Ancestors.{position_of}
use Rattle.scene_model.specs.Document.{Document}
use Rattle.scene_model.specs.Element.{Element}
use Rattle.scene_model.specs.Lookups.{children, numbers, parent_of, place_of}
use Rattle.scene_model.proofs.Found.{position_of-numbers}
use Rattle.scene_model.proofs.Lists.{split_at}
use Rattle.scene_model.proofs.Numbers.{split_in}
use Rattle.change_model.specs.Sound.{IsSound, subtree_of}
use Rattle.change_model.proofs.Ends.{child_in, end-last, end-next}
use Rattle.change_model.proofs.Stays.{place_of-split}

-- a position that was searched for among the numbers
pub position_found : (doc : List Element) (x : ℕ) {order : List ℕ} {place : ℕ} → order ≡ numbers doc → place ≡ position_or_len (λ y. y == x) order → place ≡ position_of doc x
position_found doc x same found = found ∙ (ap (position_or_len (λ y. y == x)) same ∙ sym (position_of-numbers doc x))

pub past_last : (i n : ℕ) → nat_lt i n ≡ false → n ≤ i
past_last i n e = grind (arith, nat_tests)

abbrev pub end : List Element → ℕ → ℕ
end doc x = position_of doc x + length (subtree_of doc x)

nothing : (xs ys : List ℕ) (x : ℕ) → length (xs ++ x ∷ ys) ≤ length xs + 1 → ys ≡ []
nothing xs [] x h = refl
nothing xs (y ∷ ys) x h = absurd (omega (arith, h, length-append xs (x ∷ y ∷ ys)))

module _ {d : Document} (sound : IsSound d) (x : ℕ) {p place : ℕ} {list : List ℕ} (above : parent_of d.elements x ≡ Some p) (at : place ≡ place_of d.elements x)
    (kids : list ≡ children d.elements p) where
  split : (xs : List ℕ) × (ys : List ℕ) × (children d.elements p ≡ xs ++ x ∷ ys)
  split = split_in x (children d.elements p) (child_in d.elements sound.valid p x above)

  place_is : (xs ys : List ℕ) → children d.elements p ≡ xs ++ x ∷ ys → place ≡ length xs
  place_is xs ys is = at ∙ place_of-split (record { valid = sound.valid; parent = above }) sound.runs xs ys is

  pub end_next : (next : ℕ) → slice_get list (place + 1) ≡ Some next → position_of d.elements next ≡ end d.elements x
  end_next next e =
      let (xs, ys, is) = split in
      let front : take (place + 1) list ≡ xs ++ x ∷ [] = (λ i. take (place_is xs ys is i + 1) ((kids ∙ is) i)) ∙ take-append-add xs (x ∷ ys) 1 in
      let rest : List ℕ = next ∷ drop (suc (place + 1)) list in
      let split_again = split_at list (place + 1) next e ∙ (ap (λ l. l ++ rest) front ∙ append_assoc xs (x ∷ []) rest) in
      end-next d.elements sound.valid sound.runs p x next xs (drop (suc (place + 1)) list) (sym kids ∙ split_again)

  pub end_up : length list ≤ place + 1 → end d.elements x ≡ end d.elements p
  end_up l =
      let (xs, ys, is) = split in
      let none = nothing xs ys x (omega (arith, l, ap length (kids ∙ is), place_is xs ys is)) in
      end-last d.elements sound.valid sound.runs p x xs (is ∙ ap (λ l. xs ++ x ∷ l) none)
