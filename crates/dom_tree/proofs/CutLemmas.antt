-- The lists that were cut for values: more names, more lists, and one more that was cut.
use Rattle.std.proofs.Common.{◌≡◌, ℕ, ◌<◌, ◌≤◌, List, [], ◌∷◌, ◌++◌, length, get_or, Option, Some, None, IfSome, slice_get, slice_set, sym, ap, ◌∙◌, subst, arith, inl, inr}
use Rattle.std.proofs.lemmas.Bool.{cases_eq}
use Rattle.std.proofs.lemmas.List.{length-set}
use Rattle.std.proofs.lemmas.Option.{IfSome_then, slice_get_within}
use Rattle.base_model.proofs.Lists.{get_push_below, get_push_last}
use Rattle.scene_model.specs.Element.{Characters}
use Rattle.dom_tree.specs.Classes.{distinct_words}
use Rattle.dom_tree.specs.Kept.{KeepsTexts, text_of}
use Rattle.dom_tree.specs.Labels.{AreCuts, IsCut, KeepsLists}
use Rattle.dom_tree.proofs.NameLemmas.{below_more_names, text_is, text_kept}
use Rattle.dom_tree.proofs.Parts.{Lists, Cuts}
use Rattle.dom_tree.proofs.Places.{at_some, get_set_same, get_set_other, if_some, read_at}

-- more lists

pub KeepsLists-push : (old new : Lists) (list : List Characters) → new ≡ old ++ list ∷ [] → KeepsLists old new
KeepsLists-push old new list e k other h = ap (λ l. slice_get l k) e ∙ (get_push_below old k list (slice_get_within old k other h) ∙ h)

-- the list of a value, which is the last
pub list_pushed : (names : List Characters) (old : Lists) {new : Lists} (v : ℕ) {k : ℕ} {text : Characters} → slice_get names v ≡ Some text
    → new ≡ old ++ distinct_words text ∷ [] → k ≡ length old → slice_get new k ≡ Some (distinct_words (text_of names v))
list_pushed names old v {k} {text} at e l =
    ap (λ lists. slice_get lists k) e ∙ (get_push_last old k (distinct_words text) l ∙ ap (λ t. Some (distinct_words t)) (sym (text_is names v text at)))

cut_kept : (old new : Lists) (value : Characters) (o : Option ℕ) → KeepsLists old new → IsCut old value o → IsCut new value o
cut_kept old new value None kept h = tt
cut_kept old new value (Some k) kept h = kept k (distinct_words value) h

-- more names and more lists
pub cuts_more : {names more : List Characters} {lists longer : Lists} {cuts : Cuts}
    → KeepsTexts names more → KeepsLists lists longer → AreCuts names lists cuts → AreCuts more longer cuts
cuts_more {names} {more} {lists} {longer} {cuts} kept also are = record {
  count = within cuts are.count;
  each = λ v l. IfSome_then (slice_get cuts v) (are.each v l) (λ o h. cut_kept lists longer (text_of more v) o also
      (subst (λ t. IsCut lists t o) (sym (text_kept names more v kept (omega (arith, l, are.count)))) h));
}
  where
    within : (cuts : Cuts) → length cuts ≤ length names → length cuts ≤ length more
    within [] h = omega arith
    within (c ∷ cuts) h = below_more_names names more (length cuts) kept h

-- the cut of a value, which was read or is written
module _ {names : List Characters} {lists : Lists} {cuts : Cuts} (are : AreCuts names lists cuts) {v i : ℕ} (at : i ≡ v) where
  pub cut_read : {k : ℕ} {o : Option ℕ} → v < length cuts → o ≡ get_or cuts i o → o ≡ Some k → slice_get lists k ≡ Some (distinct_words (text_of names v))
  cut_read {o = o} l e f =
      subst (IsCut lists (text_of names v)) f (at_some (IsCut lists (text_of names v)) (read_at cuts l (e ∙ ap (λ j. get_or cuts j o) at)) (are.each v l))

  pub cuts_set : (k : ℕ) → slice_get lists k ≡ Some (distinct_words (text_of names v)) → AreCuts names lists (slice_set cuts i (Some k))
  cuts_set k cut = record {
    count = omega (arith, length-set cuts i (Some k), are.count);
    each = λ w l. (let m : w < length cuts = omega (arith, l, length-set cuts i (Some k)) in elim (cases_eq w i) [
      | inl e ↦ if_some (IsCut lists (text_of names w)) (ap (slice_get (slice_set cuts i (Some k))) e ∙ get_set_same cuts i (Some k) (omega (arith, m, e)))
          (cut ∙ ap (λ n. Some (distinct_words (text_of names n))) (sym (e ∙ at)))
      | inr n ↦ subst (λ o. IfSome o (IsCut lists (text_of names w))) (sym (get_set_other cuts i w (Some k) (λ e. n (sym e)))) (are.each w m)
    ]);
  }
