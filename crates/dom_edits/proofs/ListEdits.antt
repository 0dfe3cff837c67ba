-- What is asked of the document by an edit of lists of children that nothing refuses, and what it touches.
use Rattle.std.proofs.Common.{◌≡◌, ◌≢◌, ℕ, ◌+◌, ◌<◌, ◌≤◌, ◌==◌, Bool, true, false, cond, not, List, [], ◌∷◌, ◌++◌, filter, length, take, drop, nat_le, Option, Some, None, is_some, option_to_list, refl, sym, ap, ◌∙◌, subst, arith, append-nil, length-append}
use Rattle.std.specs.List.{flat_map}
use Rattle.std.specs.List.Sorted.{IsPermutation}
use Rattle.std.proofs.Math.Seq.{take-append_seam, drop-append-add}
use Rattle.std.proofs.lemmas.Bool.{false≢true, false_from_ne_true, leb-true, eqb-true}
use Rattle.std.proofs.lemmas.List.{length-map, length-take-le}
use Rattle.std.proofs.lemmas.List.Sorted.{IsPermutation-refl}
use Rattle.std.proofs.lemmas.Option.{same_Some}
use Rattle.base_model.specs.Limits.{element_limit, number_limit}
use Rattle.scene_model.specs.Document.{Document}
use Rattle.scene_model.specs.Element.{Element}
use Rattle.scene_model.specs.Lookups.{IsElement, children, parent_of, place_of}
use Rattle.scene_model.specs.Nodes.{Node, IsNodeList, scene_of}
use Rattle.scene_model.proofs.Found.{parent_of-element}
use Rattle.scene_model.proofs.Numbers.{differs, same_number, split_in}
use Rattle.scene_model.proofs.Siblings.{place_of-inside}
use Rattle.scene_model.proofs.TreeOrder.{length-tree_order, numbers-scene_of}
use Rattle.change_model.specs.ChildLists.{CanInsert, CanMove, CanRemove, inserted, moved, numbered, renumbered, spot}
use Rattle.change_model.specs.Fresh.{is_still}
use Rattle.change_model.specs.Sound.{IsSound, is_below, without}
use Rattle.change_model.proofs.Ends.{child_in}
use Rattle.change_model.proofs.Inserted.{children-inserted_parent}
use Rattle.change_model.proofs.Moved.{children-moved_from, children-moved_to, parent_of-moved_top}
use Rattle.change_model.proofs.Orders.{is_still-moved}
use Rattle.change_model.proofs.Removed.{HasParent, children-without, children-without_parent, its_parent}
use Rattle.change_model.proofs.Stays.{children-without_split, moved_in_place, place_of-split}
use Rattle.edit_model.specs.Apply.{depth_past, misplaced, nodes_past, refusal, unknown}
use Rattle.edit_model.specs.Edit.{insert, move, remove}
use Rattle.edit_model.specs.Refusal.{LimitKind, element_count, number_count, past}
use Rattle.edit_model.specs.Touched as model
use Rattle.edit_model.specs.TouchedBy.{changed_parents}
use Rattle.edit_model.specs.TouchedPairs.{parent_pairs, touched_pairs}
use Rattle.edit_model.proofs.Accepted.{index_of_move, none_parts, of_insert, of_move, of_remove, passes_from}
use Rattle.edit_model.proofs.LimitCases.{length-put}
use Rattle.dom_edits.specs.TouchedView.{list_pairs}
use Rattle.dom_edits.proofs.TouchedLists.{lists_told}

-- a limit that is not passed
pub at_most : (kind : LimitKind) (most amount : ℕ) → past kind most amount ≡ None → amount ≤ most
at_most kind most amount h = leb-true amount most (passes_from (nat_le amount most) _ h)

-- an insertion

pub length_inserted : (d : Document) (p index : ℕ) (nodes : List Node) → IsNodeList nodes → length (inserted d p index nodes).elements ≡ length d.elements + length nodes
length_inserted d p index nodes w =
    length-put d.elements (spot d.elements p index) (numbered d.last p nodes)
    ∙ ap (λ n. length d.elements + n) (length-map (scene_of nodes) (renumbered d.last p)
    ∙ (sym (length-map (scene_of nodes) (λ (e : Element). e.number)) ∙ (ap length (numbers-scene_of nodes w) ∙ length-tree_order nodes w)))

module _ {d : Document} (sound : IsSound d) (p index : ℕ) (nodes : List Node) (w : IsNodeList nodes) (accepted : refusal d (insert p index nodes) ≡ None) where
  pub insertion : CanInsert d p nodes
  insertion = of_insert d sound p index nodes w accepted

  not_twice : (b : Bool) → not (not b) ≡ true → b ≡ true
  not_twice true h = refl
  not_twice false h = absurd (cc)

  pub index_inserted : index ≤ length (children d.elements p)
  index_inserted =
      leb-true index (length (children d.elements p))
      (not_twice (nat_le index (length (children d.elements p))) (passes_from _ _ (none_parts _ _ (none_parts _ _ accepted).1).0))

  counts : (length (inserted d p index nodes).elements ≤ element_limit) × ((inserted d p index nodes).last ≤ number_limit)
  counts =
      let new : Document = inserted d p index nodes in
      let limits = (none_parts (misplaced d (insert p index nodes)) _ (none_parts (unknown d (insert p index nodes)) _ accepted).1).1 in
      let more = none_parts (past element_count element_limit (length new.elements)) _ (none_parts (nodes_past nodes) _ limits).1 in
      (at_most element_count element_limit (length new.elements) more.0, at_most number_count number_limit new.last (none_parts _ (depth_past new.elements (d.last + 1)) more.1).0)

  pub few_inserted : length d.elements + length nodes ≤ element_limit
  few_inserted = omega (arith, counts.0, length_inserted d p index nodes w)

  pub given_inserted : d.last + length nodes ≤ number_limit
  given_inserted = counts.1

  pub insertion_told : {parents kids : List ℕ} {told : List (model.Touch × ℕ)} → parents ≡ p ∷ [] → kids ≡ take index (children d.elements p) ++ (d.last + 1) ∷ drop index (children d.elements p) → told ≡ list_pairs parents kids
      → IsPermutation (touched_pairs d (insert p index nodes)) told
  insertion_told {parents} {kids} {told} one are is =
      lists_told (inserted d p index nodes).elements (p ∷ []) parents kids told (sym one)
      (are ∙ (sym (children-inserted_parent insertion index) ∙ sym (append-nil (children (inserted d p index nodes).elements p)))) is

-- a removal

left_of_parent : {d : Document} {n o : ℕ} → CanRemove d n o → {place : ℕ} → place ≡ place_of d.elements n → take place (children d.elements o) ++ drop (place + 1) (children d.elements o) ≡ children (without d.elements n) o
left_of_parent {d} {n} {o} can {place} at =
    let child = its_parent can in
    let (xs, ys, is) = split_in n (children d.elements o) (child_in d.elements can.sound.valid o n can.parent) in
    let before = at ∙ place_of-split child can.sound.runs xs ys is in
    (λ i. take (before i) (is i) ++ drop (before i + 1) (is i))
    ∙ ((λ i. take-append_seam xs (n ∷ ys) i ++ drop-append-add xs (n ∷ ys) 1 i) ∙ sym (children-without_split child can.sound.runs xs ys is))

pub count_left : {d : Document} {n o : ℕ} → CanRemove d n o → length (children (without d.elements n) o) + 1 ≡ length (children d.elements o)
count_left {d} {n} {o} can =
    let (xs, ys, is) = split_in n (children d.elements o) (child_in d.elements can.sound.valid o n can.parent) in
    omega (arith, ap length is, ap length (children-without_split (its_parent can) can.sound.runs xs ys is), length-append xs ys, length-append xs (n ∷ ys))

pub place_inside : {d : Document} {n o : ℕ} → CanRemove d n o → {place : ℕ} → place ≡ place_of d.elements n → place < length (children d.elements o)
place_inside {d} {n} {o} can at =
    omega (arith, at, place_of-inside d.elements can.sound.valid n o (parent_of-element d.elements n o can.parent) can.parent)

pub removal_told : {d : Document} {n o : ℕ} → CanRemove d n o → {place : ℕ} {parents kids : List ℕ} {told : List (model.Touch × ℕ)} → place ≡ place_of d.elements n → parents ≡ o ∷ []
    → kids ≡ take place (children d.elements o) ++ drop (place + 1) (children d.elements o) → told ≡ list_pairs parents kids → IsPermutation (touched_pairs d (remove n)) told
removal_told {d} {n} {o} can {place} {parents} {kids} {told} at one are is =
    lists_told (without d.elements n) (changed_parents d (remove n)) parents kids told (ap option_to_list can.parent ∙ sym one)
    (are ∙ (left_of_parent can at ∙ (sym (append-nil (children (without d.elements n) o)) ∙ ap (λ (a : Option ℕ). flat_map (children (without d.elements n)) (option_to_list a)) (sym can.parent)))) is

-- a move

module _ {d : Document} {n o p : ℕ} (can : CanMove d n o p) (index : ℕ) where
  abbrev now : List Element
  now = (moved d n p index).elements

  pub taken : CanRemove d n o
  taken = record { sound = can.sound; parent = can.parent }

  abbrev still : Bool
  still = is_still d.elements now n

  -- to where it is
  pub still_there : o ≡ p → index ≡ place_of d.elements n → still ≡ true
  still_there same at =
      (is_still-moved can index).1 ((λ i. moved d n (sym same i) (at i)) ∙ moved_in_place taken)

  pub still_told : {told : List (model.Touch × ℕ)} → o ≡ p → index ≡ place_of d.elements n → told ≡ [] → IsPermutation (touched_pairs d (move n p index)) told
  still_told {told} same at none =
      subst (λ (l : List (model.Touch × ℕ)). IsPermutation (touched_pairs d (move n p index)) l) (sym none)
      (subst (λ (b : Bool). IsPermutation (flat_map (parent_pairs now) (cond b [] (filter (λ q. not (q == p)) (option_to_list (parent_of d.elements n)) ++ p ∷ []))) []) (sym (still_there same at)) (IsPermutation-refl []))

  -- under another parent it is elsewhere
  leaves_parent : o ≢ p → moved d n p index ≡ d → ⊥
  leaves_parent other same =
      other (same_Some o p (sym can.parent ∙ (ap (λ (c : Document). parent_of c.elements n) (sym same) ∙ parent_of-moved_top can index)))

  -- elsewhere
  module _ (elsewhere : moved d n p index ≡ d → ⊥) where
    goes : still ≡ false
    goes = false_from_ne_true still (λ h. elsewhere ((is_still-moved can index).0 h))

    parents_are : changed_parents d (move n p index) ≡ filter (λ q. not (q == p)) (o ∷ []) ++ p ∷ []
    parents_are = λ i. cond (goes i) [] (filter (λ q. not (q == p)) (option_to_list (can.parent i)) ++ p ∷ [])

    pub move_told : {parents kids : List ℕ} {told : List (model.Touch × ℕ)} → filter (λ q. not (q == p)) (o ∷ []) ++ p ∷ [] ≡ parents → kids ≡ flat_map (children now) parents → told ≡ list_pairs parents kids
        → IsPermutation (touched_pairs d (move n p index)) told
    move_told {parents} {kids} {told} one are is =
        lists_told now (changed_parents d (move n p index)) parents kids told (parents_are ∙ one) (are ∙ ap (flat_map (children now)) (sym (parents_are ∙ one))) is

  module _ {place : ℕ} (at : place ≡ place_of d.elements n) where
    -- under another parent
    pub two_told : o ≢ p → {parents kids : List ℕ} {told : List (model.Touch × ℕ)} → parents ≡ o ∷ p ∷ []
        → kids ≡ (take place (children d.elements o) ++ drop (place + 1) (children d.elements o)) ++ (take index (children d.elements p) ++ n ∷ drop index (children d.elements p)) → told ≡ list_pairs parents kids
        → IsPermutation (touched_pairs d (move n p index)) told
    two_told other {parents} {kids} both are is =
        let from : take place (children d.elements o) ++ drop (place + 1) (children d.elements o) ≡ children now o =
        left_of_parent taken at ∙ (children-without_parent (its_parent taken) ∙ sym (children-moved_from can index other)) in
        let to : take index (children d.elements p) ++ n ∷ drop index (children d.elements p) ≡ children now p =
        ap (λ l. take index l ++ n ∷ drop index l) (sym (children-without (its_parent taken) p can.apart (λ e. other (sym e)))) ∙ sym (children-moved_to can index) in
        move_told (leaves_parent other) (ap (λ b. cond (not b) (o ∷ []) [] ++ p ∷ []) (differs o p other) ∙ sym both)
        (are ∙ ((λ i. from i ++ to i) ∙ ((ap (λ l. children now o ++ l) (sym (append-nil (children now p)))) ∙ ap (flat_map (children now)) (sym both)))) is

    pub index_two : o ≢ p → index ≤ length (children (without d.elements n) p) → index ≤ length (children d.elements p)
    index_two other within = omega (arith, within, ap length (children-without (its_parent taken) p can.apart (λ e. other (sym e))))

    pub rest_is : o ≡ p → {left : List ℕ} → left ≡ take place (children d.elements p) ++ drop (place + 1) (children d.elements p) → left ≡ children (without d.elements n) p
    rest_is same left_is =
        left_is ∙ (ap (λ q. take place (children d.elements q) ++ drop (place + 1) (children d.elements q)) (sym same) ∙ (left_of_parent taken at ∙ ap (children (without d.elements n)) same))

    -- under the same one, at another index, it is elsewhere
    leaves_place : o ≡ p → place ≢ index → index ≤ length (children (without d.elements n) p) → moved d n p index ≡ d → ⊥
    leaves_place same other within stays =
        let xs : List ℕ = take index (children (without d.elements n) p) in
        let ys : List ℕ = drop index (children (without d.elements n) p) in
        let is : children d.elements o ≡ xs ++ n ∷ ys = ap (children d.elements) same ∙ (ap (λ (c : Document). children c.elements p) (sym stays) ∙ children-moved_to can index) in
        other (at ∙ (place_of-split (its_parent taken) can.sound.runs xs ys is ∙ length-take-le index (children (without d.elements n) p) within))

    pub one_told : o ≡ p → place ≢ index → index ≤ length (children (without d.elements n) p) → {parents kids left : List ℕ} {told : List (model.Touch × ℕ)} → parents ≡ p ∷ []
        → left ≡ take place (children d.elements p) ++ drop (place + 1) (children d.elements p) → kids ≡ take index left ++ n ∷ drop index left → told ≡ list_pairs parents kids
        → IsPermutation (touched_pairs d (move n p index)) told
    one_told same other within {parents} {kids} {left} one left_is are is =
        let rest = rest_is same left_is in
        let to : kids ≡ children now p = are ∙ (ap (λ l. take index l ++ n ∷ drop index l) rest ∙ sym (children-moved_to can index)) in
        move_told (leaves_place same other within) (ap (λ b. cond (not b) (o ∷ []) [] ++ p ∷ []) (ap (λ q. q == p) same ∙ same_number p) ∙ sym one)
        (to ∙ (sym (append-nil (children now p)) ∙ ap (flat_map (children now)) (sym one))) is

    -- so whether it is where the move takes it
    pub still_is : o ≡ p → index ≤ length (children (without d.elements n) p) → (place == index) ≡ still
    still_is same within = by (place == index) refl
      where
        by : (b : Bool) → (place == index) ≡ b → b ≡ still
        by true e = sym (still_there same (sym (eqb-true place index e) ∙ at))
        by false e = sym (goes (leaves_place same (λ alike. false≢true (sym e ∙ (ap (λ k. place == k) (sym alike) ∙ same_number place))) within))

  pub still_other : o ≢ p → false ≡ still
  still_other other = sym (goes (leaves_parent other))

-- a move that nothing refuses, of a child of o
pub move_allowed : (d : Document) → IsSound d → (n p index o : ℕ) → refusal d (move n p index) ≡ None → parent_of d.elements n ≡ Some o → CanMove d n o p
move_allowed d sound n p index o accepted hangs =
    let (_, can) = of_move d sound n p index accepted in
    record { sound = sound; parent = hangs; there = can.there; apart = can.apart }
