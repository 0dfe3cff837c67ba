-- What holds of the tags of a document's elements, and of those of nodes that come, holds of the tags after a change.
use Rattle.std.proofs.Common.{◌≡◌, ℕ, List, [], ◌∷◌, ◌++◌, take, drop, eqb, sym, refl, subst}
use Rattle.std.specs.Prelude.{not}
use Rattle.std.proofs.lemmas.Bool.{cond_both}
use Rattle.base_model.proofs.Lists.{each-append, each-drop, each-map, each-take}
use Rattle.scene_model.specs.Element.{Characters, Element}
use Rattle.scene_model.specs.Document.{Document}
use Rattle.scene_model.specs.Nodes.{Node, scene_of}
use Rattle.scene_model.proofs.Lists.{each-filter}
use Rattle.scene_model.proofs.TagLemmas.{NodeTagsHold, TagsHold, scene_of_holds}
use Rattle.change_model.specs.ChildLists.{hung, inserted, moved, numbered, put, removed, renumbered, spot, under}
use Rattle.change_model.specs.InPlace.{changed_at}
use Rattle.change_model.specs.Sound.{is_below, subtree_of, without}

module _ (P : Characters → Type 0) where
  abbrev TagHolds : Element → Type 0
  TagHolds e = P e.tag

  -- elements that are changed and keep their tags
  pub changed_holds : (x : ℕ) (f : Element → Element) → ((e : Element) → (f e).tag ≡ e.tag) → (doc : List Element) → TagsHold P doc → TagsHold P (changed_at x f doc)
  changed_holds x f keeps [] h = tt
  changed_holds x f keeps (e ∷ doc) h = (
    cond_both (eqb e.number x) _ _ TagHolds (λ _. subst P (sym (keeps e)) h.0) (λ _. h.0),
    changed_holds x f keeps doc h.1,
  )

  put_holds : (doc : List Element) (at : ℕ) (run : List Element) → TagsHold P doc → TagsHold P run → TagsHold P (put doc at run)
  put_holds doc at run h k =
      each-append TagHolds (take at doc) (run ++ drop at doc) (each-take TagHolds at doc h)
      (each-append TagHolds run (drop at doc) k (each-drop TagHolds at doc h))

  without_holds : (doc : List Element) (n : ℕ) → TagsHold P doc → TagsHold P (without doc n)
  without_holds doc n h = each-filter TagHolds TagHolds (λ e. not (is_below doc n e.number)) (λ e _ k. k) doc h

  -- children that come, go and move

  pub inserted_holds : (d : Document) (p index : ℕ) (nodes : List Node) → TagsHold P d.elements → NodeTagsHold P nodes → TagsHold P (inserted d p index nodes).elements
  inserted_holds d p index nodes h k =
      put_holds d.elements (spot d.elements p index) (numbered d.last p nodes) h
      (each-map TagHolds (renumbered d.last p) (scene_of nodes) (scene_of_holds P nodes k))

  pub removed_holds : (d : Document) (n : ℕ) → TagsHold P d.elements → TagsHold P (removed d n).elements
  removed_holds d n h = without_holds d.elements n h

  pub moved_holds : (d : Document) (n p index : ℕ) → TagsHold P d.elements → TagsHold P (moved d n p index).elements
  moved_holds d n p index h =
      let rest = without d.elements n in
      put_holds rest (spot rest p index) (hung d.elements n p) (without_holds d.elements n h)
      (changed_holds n (under p) (λ e. refl) (subtree_of d.elements n)
      (each-filter TagHolds TagHolds (λ e. is_below d.elements n e.number) (λ e _ k. k) d.elements h))
