-- What refuses an edit, from its parts: an unknown element first, then the place, then limits.
use Rattle.std.proofs.Common.{◌≡◌, ℕ, zero, suc, ◌+◌, ◌-◌, ◌<◌, ◌≤◌, ◌||◌, Bool, true, false, not, List, [], ◌∷◌, drop, length, nat_le, replicate, encode_utf8_all, Option, Some, None, IfSome, is_none, option_map, slice_get, refl, sym, ap, ◌∙◌, subst, arith}
use Rattle.std.specs.FinMap as finmap
use Rattle.std.specs.List.{list_all}
use Rattle.std.specs.Option.{option_or}
use Rattle.std.proofs.lemmas.Bool.{le-leb, lt-leb, leb-true, or_right}
use Rattle.base_model.specs.Limits.{attribute_limit, depth_limit, element_limit, number_limit, value_limit}
use Rattle.scene_model.specs.Ancestors.{depth_of}
use Rattle.scene_model.specs.Document.{Document}
use Rattle.scene_model.specs.Element.{Element, Characters}
use Rattle.scene_model.specs.Lookups.{IsElement, children, is_element, parent_of}
use Rattle.scene_model.specs.Nodes.{Node, IsNodeList}
use Rattle.change_model.specs.ChildLists.{CanInsert, inserted, moved}
use Rattle.change_model.specs.Sound.{is_below, without}
use Rattle.edit_model.specs.Apply.{depth_past, has_index, is_misplaced, limit_past, node_past, nodes_past, not_there, refusal, unknown, values_past}
use Rattle.edit_model.specs.Edit.{DocEdit, insert, move, remove, set, unset, set_state}
use Rattle.edit_model.specs.Refusal.{LimitKind, Refusal, attribute_count, bad_place, bytes_of, element_count, limit, number_count, past, tree_depth, unknown_node, unless, value_bytes}
use Rattle.edit_model.proofs.LimitCases.{over, within}
use Rattle.dom_edits.specs.EditView.{nodes_beyond, refused_by}
use Rattle.dom_edits.specs.declared.edits.NodeLimit.{NodeLimit}
use Rattle.dom_edits.specs.declared.edits.NodeLimit.TheVariants.{Attributes, Value}
use Rattle.dom_edits.proofs.ListEdits.{length_inserted}

-- the parts of a refusal

pub by_unknown : (d : Document) (edit : DocEdit) (why : Refusal) → unknown d edit ≡ Some why → refusal d edit ≡ Some why
by_unknown d edit why h = rw h refl

pub by_place : (d : Document) (edit : DocEdit) → unknown d edit ≡ None → is_misplaced d edit ≡ true → refusal d edit ≡ Some bad_place
by_place d edit known placed = rw (known, placed) refl

pub by_limits : (d : Document) (edit : DocEdit) → unknown d edit ≡ None → is_misplaced d edit ≡ false → refusal d edit ≡ limit_past d edit
by_limits d edit known placed = rw (known, placed) refl

pub there : (d : Document) (x : ℕ) → IsElement d.elements x → not_there d x ≡ None
there d x h = ap (λ b. unless b (unknown_node x)) h

pub absent : (d : Document) (x : ℕ) → is_element d.elements x ≡ false → not_there d x ≡ Some (unknown_node x)
absent d x h = ap (λ b. unless b (unknown_node x)) h

pub both_there : (d : Document) (x p : ℕ) → IsElement d.elements x → IsElement d.elements p → option_or (not_there d x) (not_there d p) ≡ None
both_there d x p h k = ap (λ o. option_or o (not_there d p)) (there d x h) ∙ there d p k

pub second_absent : (d : Document) (x p : ℕ) → IsElement d.elements x → is_element d.elements p ≡ false → option_or (not_there d x) (not_there d p) ≡ Some (unknown_node p)
second_absent d x p h k = ap (λ o. option_or o (not_there d p)) (there d x h) ∙ absent d p k

pub first_absent : (d : Document) (x p : ℕ) → is_element d.elements x ≡ false → option_or (not_there d x) (not_there d p) ≡ Some (unknown_node x)
first_absent d x p h = ap (λ o. option_or o (not_there d p)) (absent d x h)

-- places

pub index_past : (index count : ℕ) → count < index → not (nat_le index count) ≡ true
index_past index count h = ap not (lt-leb index count h)

pub index_fits : (index count : ℕ) → index ≤ count → not (nat_le index count) ≡ false
index_fits index count h = ap not (le-leb index count h)

pub root_misplaced : (d : Document) (n p index : ℕ) → parent_of d.elements n ≡ None → is_misplaced d (move n p index) ≡ true
root_misplaced d n p index h =
    ap (λ o. is_none o || (is_below d.elements n p || not (has_index (without d.elements n) p index))) h

pub below_misplaced : (d : Document) (n p index o : ℕ) → parent_of d.elements n ≡ Some o → is_below d.elements n p ≡ true → is_misplaced d (move n p index) ≡ true
below_misplaced d n p index o h k =
    ap (λ o. is_none o || (is_below d.elements n p || not (has_index (without d.elements n) p index))) h
    ∙ ap (λ b. b || not (has_index (without d.elements n) p index)) k

pub index_misplaced : (d : Document) (n p index o : ℕ) → parent_of d.elements n ≡ Some o → length (children (without d.elements n) p) < index → is_misplaced d (move n p index) ≡ true
index_misplaced d n p index o h k =
    ap (λ o. is_none o || (is_below d.elements n p || not (has_index (without d.elements n) p index))) h
    ∙ or_right (is_below d.elements n p) (not (has_index (without d.elements n) p index)) (index_past index (length (children (without d.elements n) p)) k)

pub well_placed : (d : Document) (n p index o : ℕ) → parent_of d.elements n ≡ Some o → is_below d.elements n p ≡ false → index ≤ length (children (without d.elements n) p) → is_misplaced d (move n p index) ≡ false
well_placed d n p index o h k l =
    ap (λ o. is_none o || (is_below d.elements n p || not (has_index (without d.elements n) p index))) h
    ∙ (ap (λ b. b || not (has_index (without d.elements n) p index)) k ∙ index_fits index (length (children (without d.elements n) p)) l)

-- nodes by themselves

pub node_by_count : (node : Node) (rest : List Node) {count : ℕ} → count ≡ finmap.len node.attrs → attribute_limit < count → nodes_past (node ∷ rest) ≡ Some (limit attribute_count attribute_limit)
node_by_count node rest is h =
    ap (λ o. option_or (option_or o (values_past node.attrs)) (nodes_past rest)) (over attribute_count attribute_limit (finmap.len node.attrs) (omega (arith, is, h)))

pub node_by_value : (node : Node) (rest : List Node) {count longest : ℕ} → count ≡ finmap.len node.attrs → count ≤ attribute_limit → nat_le longest value_limit ≡ list_all (λ text. nat_le (bytes_of text) value_limit) (finmap.values node.attrs)
    → value_limit < longest → nodes_past (node ∷ rest) ≡ Some (limit value_bytes value_limit)
node_by_value node rest {longest = longest} is h told k =
    ap (λ o. option_or (option_or o (values_past node.attrs)) (nodes_past rest)) (within attribute_count attribute_limit (finmap.len node.attrs) (omega (arith, is, h)))
    ∙ ap (λ b. option_or (unless b (limit value_bytes value_limit)) (nodes_past rest)) (sym told ∙ lt-leb longest value_limit k)

pub node_passed : (node : Node) (rest : List Node) {count longest : ℕ} → count ≡ finmap.len node.attrs → count ≤ attribute_limit → nat_le longest value_limit ≡ list_all (λ text. nat_le (bytes_of text) value_limit) (finmap.values node.attrs)
    → longest ≤ value_limit → nodes_past (node ∷ rest) ≡ nodes_past rest
node_passed node rest {longest = longest} is h told k =
    ap (λ o. option_or (option_or o (values_past node.attrs)) (nodes_past rest)) (within attribute_count attribute_limit (finmap.len node.attrs) (omega (arith, is, h)))
    ∙ ap (λ b. option_or (unless b (limit value_bytes value_limit)) (nodes_past rest)) (sym told ∙ le-leb longest value_limit k)

-- node by node

pub drop_at : {A : Type 0} (xs : List A) (i : ℕ) → i < length xs → (x : A) × (slice_get xs i ≡ Some x) × (drop i xs ≡ x ∷ drop (i + 1) xs)
drop_at [] i h = absurd (omega (arith, h))
drop_at (x ∷ xs) zero h = (x, refl, refl)
drop_at (x ∷ xs) (suc i) h =
    let (found, at, is) = drop_at xs i (omega (arith, h)) in
    let same : suc i + 1 ≡ suc (i + 1) = omega arith in
    (found, at, is ∙ ap (λ k. found ∷ drop k (x ∷ xs)) (sym same))

module _ (nodes : List Node) (i : ℕ) (l : i < length nodes) (so_far : nodes_past (drop i nodes) ≡ nodes_past nodes) (count : ℕ) (counted : IfSome (slice_get nodes i) (λ node. count ≡ finmap.len node.attrs)) where
  counts_at : (node : Node) → slice_get nodes i ≡ Some node → count ≡ finmap.len node.attrs
  counts_at node at = subst (λ (o : Option Node). IfSome o (λ node. count ≡ finmap.len node.attrs)) at counted

  pub count_met : attribute_limit < count → Some (limit attribute_count attribute_limit) ≡ nodes_past nodes
  count_met h =
      let (node, at, is) = drop_at nodes i l in
      sym (node_by_count node (drop (i + 1) nodes) (counts_at node at) h) ∙ (ap nodes_past (sym is) ∙ so_far)

  module _ (longest : ℕ) (told : (n : ℕ) → IfSome (slice_get nodes i) (λ node. nat_le longest n ≡ list_all (λ text. nat_le (length (encode_utf8_all text)) n) (finmap.values node.attrs))) (few : count ≤ attribute_limit) where
    tells : (node : Node) → slice_get nodes i ≡ Some node → nat_le longest value_limit ≡ list_all (λ text. nat_le (bytes_of text) value_limit) (finmap.values node.attrs)
    tells node at = subst (λ (o : Option Node). IfSome o (λ node. nat_le longest value_limit ≡ list_all (λ text. nat_le (bytes_of text) value_limit) (finmap.values node.attrs))) at (told value_limit)

    pub value_met : value_limit < longest → Some (limit value_bytes value_limit) ≡ nodes_past nodes
    value_met h =
        let (node, at, is) = drop_at nodes i l in
        sym (node_by_value node (drop (i + 1) nodes) (counts_at node at) few (tells node at) h) ∙ (ap nodes_past (sym is) ∙ so_far)

    pub node_met : longest ≤ value_limit → nodes_past (drop (i + 1) nodes) ≡ nodes_past nodes
    node_met h =
        let (node, at, is) = drop_at nodes i l in
        sym (node_passed node (drop (i + 1) nodes) (counts_at node at) few (tells node at) h) ∙ (ap nodes_past (sym is) ∙ so_far)

-- the limits of an insertion

module _ (d : Document) (p index : ℕ) (nodes : List Node) where
  abbrev later : Option Refusal
  later = limit_past d (insert p index nodes)

  pub past_nodes : (which : Refusal) → nodes_past nodes ≡ Some which → later ≡ Some which
  past_nodes which h =
      ap (λ o. option_or o (option_or (past element_count element_limit (length (inserted d p index nodes).elements)) (option_or (past number_count number_limit (inserted d p index nodes).last) (depth_past (inserted d p index nodes).elements (d.last + 1))))) h

  module _ (w : IsNodeList nodes) (none : nodes_past nodes ≡ None) where
    abbrev count : ℕ
    count = length (inserted d p index nodes).elements

    count_is : count ≡ length d.elements + length nodes
    count_is = length_inserted d p index nodes w

    abbrev by_parts : Option Refusal → Option Refusal → Option Refusal → Option Refusal → Option Refusal
    by_parts a b c e = option_or a (option_or b (option_or c e))

    pub past_elements : element_limit < length d.elements + length nodes → later ≡ Some (limit element_count element_limit)
    past_elements h =
        ap (λ o. by_parts o (past element_count element_limit count) (past number_count number_limit (inserted d p index nodes).last) (depth_past (inserted d p index nodes).elements (d.last + 1))) none
        ∙ ap (λ o. by_parts None o (past number_count number_limit (inserted d p index nodes).last) (depth_past (inserted d p index nodes).elements (d.last + 1))) (over element_count element_limit count (omega (arith, h, count_is)))

    module _ (few : length d.elements + length nodes ≤ element_limit) where
      pub past_numbers : number_limit < d.last + length nodes → later ≡ Some (limit number_count number_limit)
      past_numbers h =
          ap (λ o. by_parts o (past element_count element_limit count) (past number_count number_limit (inserted d p index nodes).last) (depth_past (inserted d p index nodes).elements (d.last + 1))) none
          ∙ (ap (λ o. by_parts None o (past number_count number_limit (inserted d p index nodes).last) (depth_past (inserted d p index nodes).elements (d.last + 1))) (within element_count element_limit count (omega (arith, few, count_is)))
          ∙ ap (λ o. by_parts None None o (depth_past (inserted d p index nodes).elements (d.last + 1))) (over number_count number_limit (d.last + length nodes) h))

      pub past_depth : d.last + length nodes ≤ number_limit → later ≡ depth_past (inserted d p index nodes).elements (d.last + 1)
      past_depth h =
          ap (λ o. by_parts o (past element_count element_limit count) (past number_count number_limit (inserted d p index nodes).last) (depth_past (inserted d p index nodes).elements (d.last + 1))) none
          ∙ (ap (λ o. by_parts None o (past number_count number_limit (inserted d p index nodes).last) (depth_past (inserted d p index nodes).elements (d.last + 1))) (within element_count element_limit count (omega (arith, few, count_is)))
          ∙ ap (λ o. by_parts None None o (depth_past (inserted d p index nodes).elements (d.last + 1))) (within number_count number_limit (d.last + length nodes) h))

-- a limit of depth that is passed, or not

pub deep : (b : Bool) → b ≡ false → unless b (limit tree_depth depth_limit) ≡ Some (limit tree_depth depth_limit)
deep b h = ap (λ c. unless c (limit tree_depth depth_limit)) h

pub not_deep : (b : Bool) → b ≡ true → unless b (limit tree_depth depth_limit) ≡ None
not_deep b h = ap (λ c. unless c (limit tree_depth depth_limit)) h
