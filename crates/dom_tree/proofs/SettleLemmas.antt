-- The places of elements, once those of the children of one parent after the other are written.
use Rattle.std.proofs.Common.{◌≡◌, ℕ, ◌+◌, ◌-◌, ◌<◌, ◌≤◌, ◌||◌, ◌==◌, nat_lt, Bool, true, false, cond, List, [], ◌∷◌, length, Option, Some, None, option_map, unwrap_or, slice_get, sym, ap, ◌∙◌, subst}
use Rattle.std.proofs.Common.{refl, arith}
use Rattle.std.specs.List.{AllByRecursion}
use Rattle.std.specs.Option.{option_map_or}
use Rattle.std.proofs.Math.ListN.{replicate}
use Rattle.std.proofs.lemmas.Bool.{cond-true, false≢true}
use Rattle.std.proofs.lemmas.Bool.Decides.{nat_tests}
use Rattle.std.proofs.lemmas.List.{length-replicate}
use Rattle.std.proofs.lemmas.Option.{same_Some}
use Rattle.base_model.specs.Text.{same_text}
use Rattle.base_model.proofs.Lists.{slice_get_some}
use Rattle.scene_model.specs.Element.{Element, Characters}
use Rattle.scene_model.specs.Lookups.{IsElement, beside, children, counted, is_element, left_of, parent_of, place_of, place_of_type, right_of, same_type, tag_of}
use Rattle.scene_model.specs.Nodes.{Node, IsNodeList, listed, scene_of}
use Rattle.scene_model.specs.Valid.{IsValid}
use Rattle.scene_model.proofs.Found.{each_child-parent, parent_of-element, copies-children}
use Rattle.scene_model.proofs.Listed.{element_at-listed_some, is_element-listed}
use Rattle.scene_model.proofs.Lists.{each_weaker, filter_same}
use Rattle.scene_model.proofs.Numbers.{is_in, copies, each_is_in, in_copied, same_number}
use Rattle.scene_model.proofs.Siblings.{each-left, left_here, siblings-children}
use Rattle.scene_model.proofs.TreeOrder.{IsValid-scene_of, children-scene_of, tag_of-scene_of, within-scene_of}
use Rattle.change_model.proofs.SameSiblings.{each-right}
use Rattle.dom_tree.specs.ChildLists.{AreChildren}
use Rattle.dom_tree.specs.Kept.{Table}
use Rattle.dom_tree.specs.SiblingPlaces.{AreAllSiblings, ArePlaces, AreSettled, AreSiblings, AreWritten, AreZeros, HasNameBelow, HasTagBelow, IsListed, Settles, index_among, or_above, type_place}
use Rattle.dom_tree.proofs.Places.{each_at, if_some, replicate_at}

-- the places of all elements, once no parent of an element is pending
pub all_settled : {last : ℕ} {doc : List Element} {pending : ℕ → Bool} {place : ℕ → ℕ} {places : List ℕ} → AreSettled last doc pending place places
    → ((p : ℕ) → IsElement doc p → pending p ≡ false) → IsValid doc → ArePlaces last doc place places
all_settled {doc = doc} {pending = pending} are none v = record { count = are.count; each = λ x is. are.each x is (by x (parent_of doc x) refl) }
  where
    by : (x : ℕ) (o : Option ℕ) → parent_of doc x ≡ o → option_map_or pending o false ≡ false
    by x None e = refl
    by x (Some p) e = none p (v.parents x p e).0

module _ {last : ℕ} {doc : List Element} {pending : ℕ → Bool} {place : ℕ → ℕ} {places later : List ℕ} (v : IsValid doc) (below : (x : ℕ) → IsElement doc x → 0 < x)
    (are : AreSettled last doc pending place places) where
  -- the children of p are no longer pending
  pub settled : (still : ℕ → Bool) (p : ℕ) (value : ℕ → ℕ) {list : List ℕ} → list ≡ children doc p → AreWritten value list places later
      → ((x : ℕ) → parent_of doc x ≡ Some p → value x ≡ place x) → ((q : ℕ) → still q ≡ false → (q ≡ p → ⊥) → pending q ≡ false) → AreSettled last doc still place later
  settled still p value {list} same written told fewer = record { count = written.count ∙ are.count; each = λ x is quiet. written.each x (below x is) ∙ by x is quiet (is_in x list) refl }
    where
      in_list : (x : ℕ) → is_in x list ≡ true → parent_of doc x ≡ Some p
      in_list x h = each_is_in (λ y. parent_of doc y ≡ Some p) x (children doc p) (each_child-parent doc p v.distinct) (ap (is_in x) (sym same) ∙ h)

      not_in : (x : ℕ) → is_in x list ≡ false → parent_of doc x ≡ Some p → ⊥
      not_in x h e = false≢true (sym h ∙ (ap (is_in x) same ∙ in_copied x (children doc p) [] (copies-children doc p x v.distinct e)))

      other : (x : ℕ) (o : Option ℕ) → (o ≡ Some p → ⊥) → option_map_or still o false ≡ false → option_map_or pending o false ≡ false
      other x None never quiet = refl
      other x (Some q) never quiet = fewer q quiet (λ e. never (ap Some e))

      by : (x : ℕ) → IsElement doc x → option_map_or still (parent_of doc x) false ≡ false → (b : Bool) → is_in x list ≡ b → cond b (Some (value x)) (slice_get places (x - 1)) ≡ Some (place x)
      by x is quiet true h = ap Some (told x (in_list x h))
      by x is quiet false h = are.each x is (other x (parent_of doc x) (not_in x h) quiet)

-- what was written is the place

pub index_is : (doc : List Element) (v : IsValid doc) (p : ℕ) {list : List ℕ} → list ≡ children doc p → (x : ℕ) → parent_of doc x ≡ Some p → index_among list x ≡ place_of doc x
index_is doc v p same x e = ap (λ l. index_among l x) (same ∙ sym (siblings-children doc v x p (parent_of-element doc x p e) e))

-- among elements that have the same tags in two documents
type_place_alike : (a b : List Element) (from_last : Bool) (xs : List ℕ) (x : ℕ) → tag_of a x ≡ tag_of b x → AllByRecursion (λ y. tag_of a y ≡ tag_of b y) xs
    → type_place a from_last xs x ≡ type_place b from_last xs x
type_place_alike a b from_last xs x own all = by from_last
  where
    alike : (ys : List ℕ) → AllByRecursion (λ y. tag_of a y ≡ tag_of b y) ys → counted (same_type a x) ys ≡ counted (same_type b x) ys
    alike ys h =
        ap length (filter_same (same_type a x) (same_type b x) ys
        (each_weaker (λ y. tag_of a y ≡ tag_of b y) (λ y. same_type a x y ≡ same_type b x y) (λ y e. λ i. same_text (e i) (own i)) ys h))

    by : (c : Bool) → counted (same_type a x) (cond c (right_of x xs) (left_of x xs)) ≡ counted (same_type b x) (cond c (right_of x xs) (left_of x xs))
    by true = alike (right_of x xs) (each-right (λ y. tag_of a y ≡ tag_of b y) x xs all)
    by false = alike (left_of x xs) (each-left (λ y. tag_of a y ≡ tag_of b y) x xs all)

-- of the children of p, as told by a document with the same tags
pub type_place_is : (doc shown : List Element) (v : IsValid doc) → ((x : ℕ) → IsElement doc x → tag_of shown x ≡ tag_of doc x) → (from_last : Bool) (p : ℕ) {list : List ℕ} → list ≡ children doc p
    → (x : ℕ) → parent_of doc x ≡ Some p → type_place shown from_last list x ≡ place_of_type doc from_last x
type_place_is doc shown v tags from_last p same x e =
    let there = parent_of-element doc x p e in
    let alike = each_weaker (λ y. parent_of doc y ≡ Some p) (λ y. tag_of shown y ≡ tag_of doc y) (λ y h. tags y (parent_of-element doc y p h)) (children doc p) (each_child-parent doc p v.distinct) in
    ap (λ l. type_place shown from_last l x) same
    ∙ (type_place_alike shown doc from_last (children doc p) x (tags x there) alike ∙ ap (λ l. type_place doc from_last l x) (sym (siblings-children doc v x p there e)))

-- the children of a parent, as siblings
pub are_siblings : (table : Table) {room : ℕ} (doc : List Element) → IsValid doc → ((x : ℕ) → IsElement doc x → (0 < x) × (x ≤ length table.nodes))
    → ((x : ℕ) → IsElement doc x → HasTagBelow (listed table.nodes) table.names room x) → (p : ℕ) {list : List ℕ} → list ≡ children doc p
    → AreSiblings (length table.nodes) (listed table.nodes) table.names room list
are_siblings table {room} doc v given named p same = subst (AreSiblings (length table.nodes) (listed table.nodes) table.names room) (sym same) (record { each = one })
  where
    one : (x : ℕ) → is_in x (children doc p) ≡ true → ((0 < x) × (x ≤ length table.nodes)) × (copies x (children doc p) ≡ x ∷ []) × HasTagBelow (listed table.nodes) table.names room x
    one x h =
        let above = each_is_in (λ y. parent_of doc y ≡ Some p) x (children doc p) (each_child-parent doc p v.distinct) h in
        let there = parent_of-element doc x p above in
        (given x there, copies-children doc p x v.distinct above, named x there)

-- of one parent after the other

above_next : (rest : ℕ → Bool) (k q : ℕ) → or_above rest (k + 1) q ≡ false → (q ≡ k + 1 → ⊥) → or_above rest k q ≡ false
above_next rest k q h other = by (rest q) h
  where
    by : (b : Bool) → (b || nat_lt (k + 1) q) ≡ false → (b || nat_lt k q) ≡ false
    by true e = absurd (cc)
    by false e = grind (arith, nat_tests)

pub none_above : (k q : ℕ) → q ≤ k → or_above (λ _. false) k q ≡ false
none_above k q l = grind (arith, nat_tests)

module _ {table : Table} {from : ℕ} {lists : List (List ℕ)} {place : List Element → ℕ → ℕ} where
  pub none_settled : (old : List ℕ) → Settles table from from lists place old old
  none_settled old = record { count = refl; each = λ doc pending is are. are }

  pub settled_to : {old new : List ℕ} {k to : ℕ} → Settles table from k lists place old new → k ≡ to → Settles table from to lists place old new
  settled_to {old} {new} so_far e = subst (λ n. Settles table from n lists place old new) e so_far

  pub next_settled : {old now later : List ℕ} {k : ℕ} {list : List ℕ} (value : ℕ → ℕ) → Settles table from k lists place old now → from ≤ k → slice_get lists (k + 1 - 1) ≡ Some list
      → AreWritten value list now later
      → ((doc : List Element) → IsListed table from (k + 1) lists doc → list ≡ children doc (k + 1) → (x : ℕ) → parent_of doc x ≡ Some (k + 1) → value x ≡ place doc x)
      → Settles table from (k + 1) lists place old later
  next_settled {k = k} {list} value so_far l at written told = record {
    count = written.count ∙ so_far.count;
    each = λ doc pending is are.
        (let fewer : IsListed table from k lists doc = record { valid = is.valid; given = is.given; tags = is.tags; lists_are = λ q low high. is.lists_are q low (omega (arith, high)) } in
        let same = same_Some list (children doc (k + 1)) (sym at ∙ is.lists_are (k + 1) (omega (arith, l)) (omega arith)) in
        settled is.valid (λ x h. (is.given x h).0) (so_far.each doc pending fewer are) (or_above pending (k + 1)) (k + 1) value same written (told doc is same) (above_next pending k));
  }

pub index_settled : {table : Table} {from to : ℕ} {lists : List (List ℕ)} (doc : List Element) → IsListed table from to lists doc → (p : ℕ) {list : List ℕ} → list ≡ children doc p
    → (x : ℕ) → parent_of doc x ≡ Some p → index_among list x ≡ place_of doc x
index_settled doc is p same x e = index_is doc is.valid p same x e

pub type_settled : {table : Table} {from to : ℕ} {lists : List (List ℕ)} (from_last : Bool) (doc : List Element) → IsListed table from to lists doc → (p : ℕ) {list : List ℕ} → list ≡ children doc p
    → (x : ℕ) → parent_of doc x ≡ Some p → type_place (listed table.nodes) from_last list x ≡ place_of_type doc from_last x
type_settled {table} from_last doc is p same x e = type_place_is doc (listed table.nodes) is.valid is.tags from_last p same x e

pub all_siblings : {table : Table} {room from to : ℕ} {lists : List (List ℕ)} (doc : List Element) → IsListed table from to lists doc
    → ((x : ℕ) → IsElement doc x → HasTagBelow (listed table.nodes) table.names room x) → AreAllSiblings table room from to lists
all_siblings {table} {room} doc is named q low high =
    if_some (AreSiblings (length table.nodes) (listed table.nodes) table.names room) (is.lists_are q low high) (are_siblings table doc is.valid is.given named q refl)

-- of the nodes of a list

-- the root has no siblings but itself
alone : (from_last : Bool) (x : ℕ) (b : Bool) → cond from_last (right_of x (cond b (x ∷ []) [])) (left_of x (cond b (x ∷ []) [])) ≡ []
alone true x true = cond-true (x == x) [] (right_of x []) (same_number x)
alone false x true = left_here x x [] (same_number x)
alone true x false = refl
alone false x false = refl

pub root_index : (doc : List Element) (x : ℕ) → parent_of doc x ≡ None → place_of doc x ≡ 0
root_index doc x e = ap (λ o. length (left_of x (cond (is_element doc x) (beside doc x o) []))) e ∙ ap length (alone false x (is_element doc x))

pub root_first : (from_last : Bool) (doc : List Element) (x : ℕ) → parent_of doc x ≡ None → place_of_type doc from_last x ≡ 0
root_first from_last doc x e =
    ap (λ o. counted (same_type doc x) (cond from_last (right_of x (cond (is_element doc x) (beside doc x o) [])) (left_of x (cond (is_element doc x) (beside doc x o) [])))) e
    ∙ ap (counted (same_type doc x)) (alone from_last x (is_element doc x))

abbrev pub zeros : ℕ → List ℕ
zeros n = replicate n 0

pub zeros_tallied : {names : List Characters} {counts : List ℕ} {n : ℕ} → counts ≡ zeros n → n ≤ length names → AreZeros names counts
zeros_tallied {names} {counts} {n} all l = record {
  count = refl;
  few = omega (arith, l, ap length all, length-replicate {A = ℕ} n 0);
  each = λ name h. ap (λ list. slice_get list name) all ∙ replicate_at n name 0 (omega (arith, h, ap length all, length-replicate {A = ℕ} n 0));
}

pub zeros_room : {counts : List ℕ} {n m : ℕ} → counts ≡ zeros n → n ≡ m → length counts ≡ m
zeros_room {n = n} all e = ap length all ∙ (length-replicate {A = ℕ} n 0 ∙ e)

module _ (table : Table) (v : IsNodeList table.nodes) {lists : List (List ℕ)} (are : AreChildren (length table.nodes) (listed table.nodes) lists) {to : ℕ} (all : to ≡ length table.nodes) where
  abbrev scene : List Element
  scene = scene_of table.nodes

  listed_scene : IsListed table 0 to lists scene
  listed_scene = record {
    valid = IsValid-scene_of table.nodes v;
    given = within-scene_of table.nodes v;
    tags = λ x is. sym (tag_of-scene_of table.nodes v x);
    lists_are = λ q low high. are.each q (is_element-listed table.nodes q low (omega (arith, high, all))) ∙ ap Some (sym (children-scene_of table.nodes v q));
  }

  module _ (room : ℕ) (tags : AllByRecursion (λ node. HasNameBelow table.names room node.tag) table.nodes) where
    tag_named : (x : ℕ) → IsElement scene x → HasTagBelow (listed table.nodes) table.names room x
    tag_named x is =
        let within = within-scene_of table.nodes v x is in
        let (node, here) = slice_get_some table.nodes (x - 1) (omega (arith, within)) in
        let back : x - 1 + 1 ≡ x = omega (arith, within) in
        let found : tag_of (listed table.nodes) x ≡ node.tag =
        ap (tag_of (listed table.nodes)) (sym back) ∙ ap (λ o. unwrap_or (option_map (λ (e : Element). e.tag) o) []) (element_at-listed_some table.nodes (x - 1) node here) in
        subst (HasNameBelow table.names room) (sym found) (each_at (λ (node : Node). HasNameBelow table.names room node.tag) table.nodes (x - 1) node tags here)

    pub scene_siblings : AreAllSiblings table room 0 to lists
    scene_siblings = all_siblings scene listed_scene tag_named

    pub scene_tags : (x : ℕ) → IsElement scene x → HasTagBelow scene table.names room x
    scene_tags x is = subst (HasNameBelow table.names room) (sym (tag_of-scene_of table.nodes v x)) (tag_named x is)

  module _ {place : List Element → ℕ → ℕ} (root : (doc : List Element) (x : ℕ) → parent_of doc x ≡ None → place doc x ≡ 0) where
    none_yet : AreSettled (length table.nodes) scene (or_above (λ _. false) 0) (place scene) (zeros (length table.nodes))
    none_yet = record { count = length-replicate (length table.nodes) 0; each = λ x is quiet. by x is (parent_of scene x) refl quiet }
      where
        by : (x : ℕ) → IsElement scene x → (o : Option ℕ) → parent_of scene x ≡ o → option_map_or (or_above (λ _. false) 0) o false ≡ false
            → slice_get (zeros (length table.nodes)) (x - 1) ≡ Some (place scene x)
        by x is None e quiet =
            let within = within-scene_of table.nodes v x is in
            replicate_at (length table.nodes) (x - 1) 0 (omega (arith, within)) ∙ ap Some (sym (root scene x e))
        by x is (Some p) e quiet =
            let low : 0 < p = (within-scene_of table.nodes v p (listed_scene.valid.parents x p e).0).0 in
            absurd (grind (arith, nat_tests))

    pub scene_places : {old new : List ℕ} → old ≡ zeros (length table.nodes) → Settles table 0 to lists place old new → ArePlaces (length table.nodes) scene (place scene) new
    scene_places {old} e settles =
        all_settled (settles.each scene (λ _. false) listed_scene (subst (AreSettled (length table.nodes) scene (or_above (λ _. false) 0) (place scene)) (sym e) none_yet))
        (λ p is. none_above to p (omega (arith, all, within-scene_of table.nodes v p is))) listed_scene.valid
