-- After an edit: the places of elements whose siblings it leaves, and those of the children of one parent more.
use Rattle.std.proofs.Common.{◌≡◌, ℕ, ◌<◌, ◌≤◌, ◌==◌, ◌||◌, Bool, false, cond, List, [], length, Option, Some, None, sym, ap, ◌∙◌, subst, refl}
use Rattle.std.specs.List.{AllByRecursion}
use Rattle.std.specs.Option.{option_map_or}
use Rattle.scene_model.specs.Element.{Element}
use Rattle.scene_model.specs.Lookups.{IsElement, beside, children, parent_of, place_of, place_of_type, tag_of}
use Rattle.scene_model.specs.Nodes.{listed}
use Rattle.scene_model.specs.Valid.{IsValid}
use Rattle.scene_model.proofs.Found.{parent_of-element}
use Rattle.scene_model.proofs.Numbers.{differs}
use Rattle.change_model.proofs.Ends.{in_child}
use Rattle.change_model.proofs.GraftChildren.{each_of}
use Rattle.change_model.proofs.SameSiblings.{place_of_same, place_of_type_same}
use Rattle.dom_tree.specs.Kept.{Table}
use Rattle.dom_tree.specs.SiblingPlaces.{ArePlaces, AreSettled, AreWritten, index_among, type_place}
use Rattle.dom_tree.proofs.SettleLemmas.{all_settled, index_is, settled, type_place_is}

-- these parents are pending, and one more
abbrev pub or_is : (ℕ → Bool) → ℕ → ℕ → Bool
or_is pending p q = pending q || (q == p)

-- what an edit leaves of a, but for the children of the parents that are pending
pub record Leaves (a b : List Element) (pending : ℕ → Bool) : Type 0 where
  pub there : (x : ℕ) → IsElement b x → option_map_or pending (parent_of b x) false ≡ false → IsElement a x × (parent_of a x ≡ parent_of b x)
  pub lists : (q : ℕ) → IsElement b q → pending q ≡ false → children a q ≡ children b q
  pub tags : (x : ℕ) → IsElement b x → IsElement a x → tag_of a x ≡ tag_of b x

module _ {a b : List Element} {pending : ℕ → Bool} (v : IsValid b) (leaves : Leaves a b pending) (x : ℕ) (is : IsElement b x) (quiet : option_map_or pending (parent_of b x) false ≡ false) where
  was : IsElement a x
  was = (leaves.there x is quiet).0

  not_pending : (q : ℕ) → parent_of b x ≡ Some q → pending q ≡ false
  not_pending q e = subst (λ o. option_map_or pending o false ≡ false) e quiet

  same_list : (q : ℕ) → parent_of b x ≡ Some q → children a q ≡ children b q
  same_list q e = leaves.lists q (v.parents x q e).0 (not_pending q e)

  index_left : place_of a x ≡ place_of b x
  index_left = place_of_same a b x (was ∙ sym is) (leaves.there x is quiet).1 same_list

  -- its siblings are elements of both
  each_tag : (o : Option ℕ) → parent_of b x ≡ o → AllByRecursion (λ y. tag_of a y ≡ tag_of b y) (beside b x o)
  each_tag None e = (leaves.tags x is was, tt)
  each_tag (Some q) e = each_of (λ y. tag_of a y ≡ tag_of b y) (children b q) (λ y h. one y (in_child b v q y h))
    where
      one : (y : ℕ) → parent_of b y ≡ Some q → tag_of a y ≡ tag_of b y
      one y f =
          let here = parent_of-element b y q f in
          leaves.tags y here (leaves.there y here (subst (λ o. option_map_or pending o false ≡ false) (sym f) (not_pending q e))).0

  type_left : (from_last : Bool) → place_of_type a from_last x ≡ place_of_type b from_last x
  type_left from_last =
      place_of_type_same a b x (was ∙ sym is) (leaves.there x is quiet).1 same_list (leaves.tags x is was)
      (subst (AllByRecursion (λ y. tag_of a y ≡ tag_of b y)) (sym (ap (λ c. cond c (beside b x (parent_of b x)) []) is)) (each_tag (parent_of b x) refl)) from_last

module _ {last : ℕ} {a b : List Element} {pending : ℕ → Bool} (v : IsValid b) (leaves : Leaves a b pending) where
  places_left : (place : List Element → ℕ → ℕ) → ((x : ℕ) → IsElement b x → option_map_or pending (parent_of b x) false ≡ false → place a x ≡ place b x)
      → {places : List ℕ} → ArePlaces last a (place a) places → AreSettled last b pending (place b) places
  places_left place same are = record { count = are.count; each = λ x is quiet. are.each x (leaves.there x is quiet).0 ∙ ap Some (same x is quiet) }

  pub indexes_left : {places : List ℕ} → ArePlaces last a (place_of a) places → AreSettled last b pending (place_of b) places
  indexes_left are = places_left place_of (λ x is quiet. index_left v leaves x is quiet) are

  pub types_left : (from_last : Bool) {places : List ℕ} → ArePlaces last a (place_of_type a from_last) places → AreSettled last b pending (place_of_type b from_last) places
  types_left from_last are = places_left (λ doc. place_of_type doc from_last) (λ x is quiet. type_left v leaves x is quiet from_last) are

-- what is known of a document of the nodes of columns
pub record IsDocument (table : Table) (doc : List Element) : Type 0 where
  pub valid : IsValid doc
  pub given : (x : ℕ) → IsElement doc x → (0 < x) × (x ≤ length table.nodes)
  pub tags : (x : ℕ) → IsElement doc x → tag_of (listed table.nodes) x ≡ tag_of doc x

module _ {table : Table} {doc : List Element} (is : IsDocument table doc) where
  fewer : (rest : ℕ → Bool) (p q : ℕ) → rest q ≡ false → (q ≡ p → ⊥) → or_is rest p q ≡ false
  fewer rest p q h other = ap (λ c. c || (q == p)) h ∙ differs q p other

  -- the children of one parent more
  module _ (rest : ℕ → Bool) (p : ℕ) {list : List ℕ} (same : list ≡ children doc p) where
    pub index_more : {old new : List ℕ} → AreSettled (length table.nodes) doc (or_is rest p) (place_of doc) old → AreWritten (index_among list) list old new
        → AreSettled (length table.nodes) doc rest (place_of doc) new
    index_more are written = settled is.valid (λ x h. (is.given x h).0) are rest p (index_among list) same written (index_is doc is.valid p same) (fewer rest p)

    pub type_more : (from_last : Bool) {old new : List ℕ} → AreSettled (length table.nodes) doc (or_is rest p) (place_of_type doc from_last) old
        → AreWritten (type_place (listed table.nodes) from_last list) list old new → AreSettled (length table.nodes) doc rest (place_of_type doc from_last) new
    type_more from_last are written =
        settled is.valid (λ x h. (is.given x h).0) are rest p (type_place (listed table.nodes) from_last list) same written (type_place_is doc
        (listed table.nodes) is.valid is.tags from_last p same) (fewer rest p)

  pub none_left : {place : ℕ → ℕ} {places : List ℕ} → AreSettled (length table.nodes) doc (λ _. false) place places → ArePlaces (length table.nodes) doc place places
  none_left are = all_settled are (λ p h. refl) is.valid
