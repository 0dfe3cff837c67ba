-- What holds of the tag of each node holds of the tag of each element.
use Rattle.std.proofs.Common.{◌≡◌, ℕ, ◌+◌, List, [], ◌∷◌, Option, Some, None, option_map, filter_map, unwrap_or, refl}
use Rattle.std.specs.List.{AllByRecursion, cons_option}
use Rattle.base_model.proofs.Lists.{found_holds}
use Rattle.scene_model.specs.Element.{Characters, Element}
use Rattle.scene_model.specs.Lookups.{element_at, has_number, tag_of}
use Rattle.scene_model.specs.Nodes.{Node, listed, listed_from, scene_of, tree_order}

module _ (P : Characters → Type 0) where
  abbrev pub TagsHold : List Element → Type 0
  TagsHold doc = AllByRecursion (λ (e : Element). P e.tag) doc

  abbrev pub NodeTagsHold : List Node → Type 0
  NodeTagsHold nodes = AllByRecursion (λ (node : Node). P node.tag) nodes

  -- where there is no such element, its tag is empty
  pub tag_of_holds : P [] → (doc : List Element) (x : ℕ) → TagsHold doc → P (tag_of doc x)
  tag_of_holds none doc x h = by (element_at doc x) refl where
    by : (o : Option Element) → element_at doc x ≡ o → P (unwrap_or (option_map (λ (e : Element). e.tag) o) [])
    by None is = none
    by (Some e) is = found_holds (λ (e : Element). P e.tag) (has_number x) doc e h is

  listed_holds : (k : ℕ) (nodes : List Node) → NodeTagsHold nodes → TagsHold (listed_from k nodes)
  listed_holds k [] h = tt
  listed_holds k (node ∷ nodes) h = (h.0, listed_holds (k + 1) nodes h.1)

  rows_hold : (list : List Element) (xs : List ℕ) → TagsHold list → TagsHold (filter_map (element_at list) xs)
  rows_hold list [] h = tt
  rows_hold list (x ∷ xs) h = by (element_at list x) refl (rows_hold list xs h) where
    by : (o : Option Element) → element_at list x ≡ o → TagsHold (filter_map (element_at list) xs) → TagsHold (cons_option o (filter_map (element_at list) xs))
    by None is rest = rest
    by (Some e) is rest = (found_holds (λ (e : Element). P e.tag) (has_number x) list e h is, rest)

  pub scene_of_holds : (nodes : List Node) → NodeTagsHold nodes → TagsHold (scene_of nodes)
  unfolding scene_of
  scene_of_holds nodes h = rows_hold (listed nodes) (tree_order nodes) (listed_holds 0 nodes h)
