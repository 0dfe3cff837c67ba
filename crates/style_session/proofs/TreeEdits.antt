-- For `make`: what insertions, removals and moves take away.
use Rattle.std.proofs.Common.{◌≡◌, ℕ, List, Bool, true, false, not, ◌&&◌, ◌||◌, None, refl, sym, ap, subst, ◌∙◌, inl, inr}
use Rattle.std.proofs.lemmas.Bool.{false≢true, or_left, or_right}
use Rattle.scene_model.specs.Document.{Document}
use Rattle.scene_model.specs.Lookups.{is_element, IsElement}
use Rattle.scene_model.specs.Nodes.{Node, IsNodeList}
use Rattle.scene_model.specs.Numbers.{is_in}
use Rattle.scene_model.proofs.Found.{parent_of-element}
use Rattle.change_model.specs.Sound.{is_below, without, IsSound}
use Rattle.change_model.proofs.Below.{below_cases}
use Rattle.change_model.proofs.Inserted.{is_element-inserted}
use Rattle.change_model.proofs.Moved.{is_element-moved}
use Rattle.change_model.proofs.Removed.{is_element-without, its_parent}
use Rattle.edit_model.specs.Apply.{after, refusal}
use Rattle.edit_model.specs.Edit.{insert, remove, move}
use Rattle.edit_model.proofs.Accepted.{of_insert, of_move, of_remove}
use Rattle.style_session.specs.Edits.{AreGoneToo}

-- where each element stays nothing is gone
pub gone-same : (old new : Document) (gone : List ℕ) → ((x : ℕ) → IsElement old.elements x → IsElement new.elements x) → AreGoneToo old new gone gone
gone-same old new gone stay = record {
  stays = λ x there. there;
  removed = λ x there out. absurd (false≢true (sym out ∙ stay x there));
  of_old = λ x there none. absurd (false≢true (sym none ∙ there));
}

module _ (d : Document) (s : IsSound d) where
  -- what is below an element is one
  pub below_there : (n x : ℕ) → IsElement d.elements n → is_below d.elements n x ≡ true → IsElement d.elements x
  below_there n x there h = elim (below_cases d.elements s.valid n x h) [
    | inl same ↦ subst (IsElement d.elements) same there
    | inr (q, e, k) ↦ parent_of-element d.elements x q e
  ]

  -- an insertion takes nothing away
  module _ (p index : ℕ) (nodes : List Node) (w : IsNodeList nodes) (h : refusal d (insert p index nodes) ≡ None) where
    pub gone-inserted : (gone : List ℕ) → AreGoneToo d (after d (insert p index nodes)) gone gone
    gone-inserted gone =
        gone-same d (after d (insert p index nodes)) gone (λ x there. is_element-inserted (of_insert d s p index nodes w h) index x (s.given x there).1 ∙ there)

  -- a removal takes an element away, and all below it
  module _ (n : ℕ) (h : refusal d (remove n) ≡ None) where
    taken : (x : ℕ) → IsElement d.elements x → is_element (without d.elements n) x ≡ false → is_below d.elements n x ≡ true
    taken x there out = by (is_below d.elements n x) refl
      where
        by : (b : Bool) → is_below d.elements n x ≡ b → is_below d.elements n x ≡ true
        by true e = e
        by false e =
            let (o, can) = of_remove d s n h in
            absurd (false≢true (sym out ∙ (is_element-without (its_parent can) x ∙ (ap (λ b. not b && is_element d.elements x) e ∙ there))))

    pub gone-removed : (gone now : List ℕ) → ((x : ℕ) → is_in x now ≡ (is_in x gone || is_below d.elements n x)) → AreGoneToo d (after d (remove n)) gone now
    gone-removed gone now grown =
        let (o, can) = of_remove d s n h in
        record {
          stays = λ x there. grown x ∙ or_left (is_in x gone) (is_below d.elements n x) there;
          removed = λ x there out. grown x ∙ or_right (is_in x gone) (is_below d.elements n x) (taken x there out);
          of_old = λ x there none. below_there n x (parent_of-element d.elements n o can.parent) (sym (ap (λ b. b || is_below d.elements n x) none) ∙ (sym (grown x) ∙ there));
        }

  -- nor does a move
  module _ (n p index : ℕ) (h : refusal d (move n p index) ≡ None) where
    pub gone-moved : (gone : List ℕ) → AreGoneToo d (after d (move n p index)) gone gone
    gone-moved gone =
        let (o, can) = of_move d s n p index h in
        gone-same d (after d (move n p index)) gone (λ x there. is_element-moved can index x ∙ there)
