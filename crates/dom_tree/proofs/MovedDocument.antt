-- What is kept of a document, once a subtree is moved.
use Rattle.std.proofs.Common.{◌≡◌, ◌≢◌, ℕ, suc, ◌+◌, ◌-◌, ◌<◌, ◌≤◌, ◌==◌, ◌||◌, ◌&&◌, Bool, true, false, not, cond, List, [], ◌∷◌, ◌++◌, take, drop, filter, length, slice_set}
use Rattle.std.proofs.Common.{Some, IfSome, option_map, unwrap_or, slice_get, sym, ap, ◌∙◌, subst, refl, inl, inr, arith, length-append}
use Rattle.std.specs.Option.{option_map_or}
use Rattle.std.proofs.Math.Seq.{drop-append_seam}
use Rattle.std.proofs.lemmas.Bool.{cases_eq, cases_lt, eqb-true, false≢true}
use Rattle.std.proofs.lemmas.List.{length-map, length-set}
use Rattle.std.proofs.lemmas.List.Filters.{length-filter_both}
use Rattle.std.proofs.lemmas.Option.{same_Some}
use Rattle.base_model.proofs.Lists.{slice_get_some}
use Rattle.scene_model.specs.Ancestors.{position_of}
use Rattle.scene_model.specs.Document.{Document}
use Rattle.scene_model.specs.Element.{Element}
use Rattle.scene_model.specs.Lookups.{IsElement, children, element_at, is_child_of, is_element, numbers, parent_of, place_of, place_of_type, tag_of}
use Rattle.scene_model.specs.Nodes.{Node, listed}
use Rattle.scene_model.proofs.Found.{parent_of-element}
use Rattle.scene_model.proofs.Listed.{element_at-listed_some}
use Rattle.scene_model.proofs.Numbers.{same_number, split_in}
use Rattle.scene_model.proofs.Siblings.{place_of-inside}
use Rattle.change_model.specs.ChildLists.{CanMove, moved, spot, under}
use Rattle.change_model.specs.Sound.{IsSound, is_below, subtree_of, without}
use Rattle.change_model.proofs.Below.{below_itself}
use Rattle.change_model.proofs.Columns.{element_at-set, get_left}
use Rattle.change_model.proofs.Ends.{child_in}
use Rattle.change_model.proofs.Moved.{IsSound-moved, children-moved, children-moved_from, children-moved_to, element_at-moved, is_element-moved, parent_of-moved, parent_of-moved_top, tag_of-moved}
use Rattle.change_model.proofs.Orders.{numbers-subtree, numbers-without, order-moved}
use Rattle.change_model.proofs.Removed.{AreRuns-without, HasParent, IsValid-without, children-without, children-without_parent, is_element-without}
use Rattle.change_model.proofs.Spots.{IsSpot-spot, subtree_ends, subtree_within}
use Rattle.change_model.proofs.SpotsLeft.{IsLowered, spot-without, spot_before}
use Rattle.change_model.proofs.Stays.{children-without_split, length-without, place_of-split}
use Rattle.dom_tree.specs.ChildLists.{AreChildren, AreParts, list_moved, list_with, list_without, lists_of}
use Rattle.dom_tree.specs.Kept.{Table, part_of, put_node, with_parent}
use Rattle.dom_tree.specs.Labels.{AreLabels}
use Rattle.dom_tree.specs.SiblingPlaces.{ArePlaces, AreSiblings, AreWritten, AreZeros, HasNameBelow, HasTagBelow, index_among, type_place}
use Rattle.dom_tree.specs.Turned.{turned}
use Rattle.dom_tree.specs.Whole.{IsKept, IsWhole, Parts, document, in_order}
use Rattle.dom_tree.proofs.AppendLemmas.{get_behind}
use Rattle.dom_tree.proofs.ChangeLemmas.{length-put, put_is}
use Rattle.dom_tree.proofs.KeptLemmas.{element_at-in_order}
use Rattle.dom_tree.proofs.KeptPlaces.{IsDocument, Leaves, index_more, indexes_left, none_left, or_is, type_more, types_left}
use Rattle.dom_tree.proofs.Parts.{AreSeenAs}
use Rattle.dom_tree.proofs.Places.{at_some, get_set_other, get_set_same, if_some}
use Rattle.dom_tree.proofs.RelabelLemmas.{labels_stay}
use Rattle.dom_tree.proofs.RemovedDocument.{in_order_is, own_list}
use Rattle.dom_tree.proofs.SettleLemmas.{are_siblings}
use Rattle.dom_tree.proofs.TurnLemmas.{length-turned, moved_earlier, moved_later}

-- what a move begins with: n, a child of o, is to be the child of h at an index
pub record IsMoving (p : Parts) (now : Document) (n o h index : ℕ) : Type 0 where
  pub whole : IsWhole p
  pub view : AreSeenAs p now
  pub hangs : parent_of now.elements n ≡ Some o
  pub there : IsElement now.elements h
  pub apart : is_below now.elements n h ≡ false

pub moving : {p : Parts} {now : Document} → IsWhole p → AreSeenAs p now → (n o h index : ℕ) → parent_of now.elements n ≡ Some o → IsElement now.elements h → is_below now.elements n h ≡ false
    → IsMoving p now n o h index
moving whole view n o h index hangs there apart = record { whole = whole; view = view; hangs = hangs; there = there; apart = apart }

module _ {p : Parts} {now : Document} {n o h index : ℕ} (m : IsMoving p now n o h index) where
  abbrev whole : IsWhole p
  whole = m.whole

  abbrev view : AreSeenAs p now
  view = m.view

  abbrev pub doc : List Element
  doc = in_order p.table.nodes p.order

  -- where it goes among the others, as a document says
  abbrev pub goes_to : Document → ℕ
  goes_to d = option_map_or (position_of d.elements) (slice_get (children (without d.elements n) h) index) (position_of d.elements h + length (subtree_of d.elements h))

  abbrev d : Document
  d = document p.table p.order

  abbrev pub after : List Element
  after = (moved d n h index).elements

  abbrev pub children_of_after : ℕ → List ℕ
  children_of_after q = children after q

  hangs : parent_of doc n ≡ Some o
  hangs = ap (λ (d : Document). parent_of d.elements n) view ∙ m.hangs

  h_there : IsElement doc h
  h_there = ap (λ (d : Document). is_element d.elements h) view ∙ m.there

  apart : is_below doc n h ≡ false
  apart = ap (λ (d : Document). is_below d.elements n h) view ∙ m.apart

  pub can : CanMove d n o h
  can = record { sound = whole.sound; parent = hangs; there = h_there; apart = apart }

  child : HasParent doc n o
  child = record { valid = whole.sound.valid; parent = hangs }

  n_there : IsElement doc n
  n_there = parent_of-element doc n o hangs

  o_there : IsElement doc o
  o_there = (whole.sound.valid.parents n o hangs).0

  pub sound_after : IsSound (moved d n h index)
  sound_after = IsSound-moved can index

  in_doc : (x : ℕ) → IsElement after x → IsElement doc x
  in_doc x is = sym (is_element-moved can index x) ∙ is

  pub in_after : (x : ℕ) → IsElement doc x → IsElement after x
  in_after x is = is_element-moved can index x ∙ is

  -- what it leaves

  abbrev pub pending : ℕ → Bool
  pending = or_is (or_is (λ _. false) h) o

  quiet_both : (q : ℕ) → pending q ≡ false → (q ≢ h) × (q ≢ o)
  quiet_both q e = by (q == h) (q == o) refl refl e
    where
      by : (a b : Bool) → (q == h) ≡ a → (q == o) ≡ b → (a || b) ≡ false → (q ≢ h) × (q ≢ o)
      by true b e f g = absurd (cc)
      by false true e f g = absurd (cc)
      by false false e f g = (λ s. false≢true (sym e ∙ (ap (λ r. r == h) s ∙ same_number h)), λ s. false≢true (sym f ∙ (ap (λ r. r == o) s ∙ same_number o)))

  other_than : (x : ℕ) → option_map_or pending (parent_of after x) false ≡ false → (x == n) ≡ false
  other_than x quiet = by (x == n) refl
    where
      by : (b : Bool) → (x == n) ≡ b → b ≡ false
      by false e = refl
      by true e =
          let top : parent_of after x ≡ Some h = ap (parent_of after) (eqb-true x n e) ∙ parent_of-moved_top can index in
          let busy : option_map_or pending (parent_of after x) false ≡ true = ap (λ a. option_map_or pending a false) top ∙ ap (λ b. b || (h == o)) (same_number h) in
          absurd (false≢true (sym quiet ∙ busy))

  leaves : Leaves doc after pending
  leaves = record {
    there = λ x is quiet. (in_doc x is, sym (parent_of-moved can index x (other_than x quiet)));
    lists = λ q is quiet. (let (other, too) = quiet_both q quiet in sym (children-moved can index q other too));
    tags = λ x is was. sym (tag_of-moved can index x);
  }

  -- the columns

  module _ {later : Table} (names : later.names ≡ p.table.names) (nodes : later.nodes ≡ put_node (n - 1) (with_parent (h - 1)) p.table.nodes) where
    pub so_many : length later.nodes ≡ length p.table.nodes
    so_many = ap length nodes ∙ length-put (with_parent (h - 1)) (n - 1) p.table.nodes

    found_after : (x : ℕ) → IsElement after x → element_at (listed later.nodes) x ≡ element_at after x
    found_after x is =
        let within = whole.sound.given n n_there in
        let (node, at) = slice_get_some p.table.nodes (n - 1) (omega (arith, within)) in
        let back : n - 1 + 1 ≡ n = omega (arith, within) in
        let up : h - 1 + 1 ≡ h = omega (arith, whole.sound.given h h_there) in
        let own : element_at doc n ≡ Some (record { number = n - 1 + 1; parent = option_map (λ q. q + 1) node.parent; tag = node.tag; attrs = node.attrs; states = node.states }) =
        element_at-in_order p.table.nodes p.order n n_there ∙ (ap (element_at (listed p.table.nodes)) (sym back) ∙ element_at-listed_some p.table.nodes (n - 1) node at) in
        ap (λ l. element_at (listed l) x) (nodes ∙ put_is (with_parent (h - 1)) (n - 1) p.table.nodes node at)
        ∙ (element_at-set p.table.nodes (n - 1) (with_parent (h - 1) node) (omega (arith, within)) x
        ∙ (ap (λ k. cond (x == k) (Some (record { number = n - 1 + 1; parent = Some (h - 1 + 1); tag = node.tag; attrs = node.attrs; states = node.states }))
        (element_at (listed p.table.nodes) x)) back
        ∙ (by x (x == n) refl (in_doc x is) node own up ∙ sym (element_at-moved can index x))))
      where
        by : (x : ℕ) (b : Bool) → (x == n) ≡ b → IsElement doc x → (node : Node)
            → element_at doc n ≡ Some (record { number = n - 1 + 1; parent = option_map (λ q. q + 1) node.parent; tag = node.tag; attrs = node.attrs; states = node.states }) → h - 1 + 1 ≡ h
            → cond b (Some (record { number = n - 1 + 1; parent = Some (h - 1 + 1); tag = node.tag; attrs = node.attrs; states = node.states })) (element_at (listed p.table.nodes) x)
            ≡ cond b (option_map (under h) (element_at doc x)) (element_at doc x)
        by x true e is node own up =
            (λ i. Some (record { number = n - 1 + 1; parent = Some (up i); tag = node.tag; attrs = node.attrs; states = node.states }))
            ∙ sym (ap (option_map (under h)) (ap (element_at doc) (eqb-true x n e) ∙ own))
        by x false e is node own up = sym (element_at-in_order p.table.nodes p.order x is)

    pub is_after : IsDocument later after
    is_after = record {
      valid = sound_after.valid;
      given = λ x is. (let within = sound_after.given x is in (within.0, omega (arith, within.1, so_many)));
      tags = λ x is. ap (λ a. unwrap_or (option_map (λ (e : Element). e.tag) a) []) (found_after x is);
    }

    tag_after : {room : ℕ} → room ≡ length p.tally → (x : ℕ) → IsElement after x → HasTagBelow after later.names room x
    tag_after same x is =
        subst (λ k. HasTagBelow after later.names k x) (sym same) (subst (λ l. HasNameBelow l (length p.tally) (tag_of after x)) (sym names)
        (subst (HasNameBelow p.table.names (length p.tally)) (sym (tag_of-moved can index x)) (whole.tags x (in_doc x is))))

    -- the places of the children of both parents
    module _ {from to : List ℕ} (from_is : from ≡ children after o) (to_is : to ≡ children after h) where
      pub index_after : {old mid final : List ℕ} → old ≡ p.index → AreWritten (index_among from) from old mid → AreWritten (index_among to) to mid final
          → ArePlaces (length later.nodes) after (place_of after) final
      index_after {old} e first second =
          let were = subst (ArePlaces (length p.table.nodes) doc (place_of doc)) (sym e) whole.index_of in
          let left = indexes_left {last = length later.nodes} sound_after.valid leaves (subst (λ k. ArePlaces k doc (place_of doc) old) (sym so_many) were) in
          none_left is_after (index_more is_after (λ _. false) h to_is (index_more is_after (or_is (λ _. false) h) o from_is left first) second)

      pub type_after : (from_last : Bool) {old mid final : List ℕ} → ArePlaces (length p.table.nodes) doc (place_of_type doc from_last) old
          → AreWritten (type_place (listed later.nodes) from_last from) from old mid
          → AreWritten (type_place (listed later.nodes) from_last to) to mid final → ArePlaces (length later.nodes) after (place_of_type after from_last) final
      type_after from_last {old} are first second =
          let left = types_left {last = length later.nodes} sound_after.valid leaves from_last (subst (λ k. ArePlaces k doc (place_of_type doc from_last) old) (sym so_many) are) in
          none_left is_after (type_more is_after (λ _. false) h to_is from_last (type_more is_after (or_is (λ _. false) h) o from_is from_last left first) second)

    pub siblings_after : {room : ℕ} (q : ℕ) {list : List ℕ} → room ≡ length p.tally → list ≡ children after q → AreSiblings (length later.nodes) (listed later.nodes) later.names room list
    siblings_after {room} q same e = are_siblings later after sound_after.valid is_after.given (λ x is. subst (HasNameBelow later.names room) (sym (is_after.tags x is)) (tag_after same x is)) q e

  -- the order

  abbrev at : ℕ
  at = position_of doc n

  abbrev size : ℕ
  size = length (subtree_of doc n)

  some : 0 < size
  some = omega (arith, subtree_ends doc whole.sound.valid whole.sound.runs n n_there n n_there (below_itself doc n))

  long : length p.order ≡ length doc
  long = ap length (sym whole.listed) ∙ length-map doc (λ (e : Element). e.number)

  inside : at + size ≤ length p.order
  inside = omega (arith, long, subtree_within doc whole.sound.valid whole.sound.runs n n_there)

  rest_order : numbers (without doc n) ≡ take at p.order ++ drop (at + size) p.order
  rest_order = numbers-without doc whole.sound.valid whole.sound.runs n n_there ∙ (λ i. take at (whole.listed i) ++ drop (at + size) (whole.listed i))

  own_order : numbers (subtree_of doc n) ≡ take size (drop at p.order)
  own_order = numbers-subtree doc whole.sound.valid whole.sound.runs n n_there ∙ ap (λ l. take size (drop at l)) whole.listed

  h_left : IsElement (without doc n) h
  h_left = is_element-without child h ∙ (ap (λ b. not b && is_element doc h) apart ∙ h_there)

  spot_fits : spot (without doc n) h index + size ≤ length p.order
  spot_fits =
      let is = IsSpot-spot (without doc n) (IsValid-without child) (AreRuns-without child whole.sound.runs) h h_left index in
      omega (arith, is.within, length-without child whole.sound.runs, long)

  spot_left : IsLowered at size (spot_before child whole.sound.runs h h_there apart index) (spot (without doc n) h index)
  spot_left = spot-without child whole.sound.runs h h_there apart index

  module _ {order : List ℕ} {start end place : ℕ} (start_now : start ≡ position_of now.elements n) (end_now : end ≡ position_of now.elements n + length (subtree_of now.elements n))
      (place_now : place ≡ goes_to now)
      (early : place ≤ start → order ≡ turned place end (start - place) p.order) (late : start < place → order ≡ turned start place (end - start) p.order) where
    start_is : start ≡ at
    start_is = start_now ∙ ap (λ (d : Document). position_of d.elements n) (sym view)

    end_is : end ≡ at + size
    end_is = end_now ∙ ap (λ (d : Document). position_of d.elements n + length (subtree_of d.elements n)) (sym view)

    place_is : place ≡ spot_before child whole.sound.runs h h_there apart index
    place_is = place_now ∙ ap goes_to (sym view)

    -- a run that goes to its place in the others
    whole_order : (s : ℕ) → spot (without doc n) h index ≡ s
        → take s (take at p.order ++ drop (at + size) p.order) ++ (take size (drop at p.order) ++ drop s (take at p.order ++ drop (at + size) p.order)) ≡ numbers after
    whole_order s e = sym (order-moved d n h index ∙ (λ i. take (e i) (rest_order i) ++ (own_order i ++ drop (e i) (rest_order i))))

    pub order_after : (numbers after ≡ order) × (length order ≡ length p.order)
    order_after = elim spot_left [
      | inl (near, same) ↦
          let here : place ≤ at = omega (arith, near, place_is) in
          let turn : order ≡ turned place (at + size) (at - place) p.order = early (omega (arith, here, start_is)) ∙ (λ i. turned place (end_is i) (start_is i - place) p.order) in (
            sym (turn ∙ (moved_earlier p.order at size place here inside ∙ whole_order place (same ∙ sym place_is))),
            ap length turn ∙ length-turned place (at + size) (at - place) p.order (omega (arith, here)) inside,
          )
      | inr (far, same) ↦
          let s : ℕ = spot (without doc n) h index in
          let there : place ≡ s + size = omega (arith, place_is, same) in
          let turn : order ≡ turned at (s + size) size p.order =
          late (omega (arith, place_is, far, start_is, some)) ∙ (λ i. turned (start_is i) (there i) (gap i) p.order) in (
            sym (turn ∙ (moved_later p.order at size s (omega (arith, same, far)) spot_fits ∙ whole_order s refl)),
            ap length turn ∙ length-turned at (s + size) size p.order (omega (arith, same, far)) spot_fits,
          )
    ]
      where
        gap : end - start ≡ size
        gap = omega (arith, start_is, end_is)

  -- the lists

  module _ (lists : List (List ℕ)) {place : ℕ} (place_now : place ≡ place_of now.elements n)
      (same : o ≡ h → IfSome (slice_get (lists_of p.flat p.spans) (o - 1)) (λ list. lists ≡ slice_set (lists_of p.flat p.spans) (o - 1) (list_moved place index list)))
      (other : o ≢ h → IfSome (slice_get (lists_of p.flat p.spans) (h - 1)) (λ there. IfSome (slice_get (lists_of p.flat p.spans) (o - 1)) (λ here.
      lists ≡ slice_set (slice_set (lists_of p.flat p.spans) (h - 1) (list_with index n there)) (o - 1) (list_without place here)))) where
    abbrev old : List (List ℕ)
    old = lists_of p.flat p.spans

    place_here : place ≡ place_of doc n
    place_here = place_now ∙ ap (λ (d : Document). place_of d.elements n) (sym view)

    -- the list of the old parent without it
    left : list_without place (children doc o) ≡ children (without doc n) o
    left = ap (λ k. list_without k (children doc o)) place_here ∙ own_list whole view n o m.hangs

    -- it is the item at its place
    own_item : take 1 (drop place (children doc o)) ≡ n ∷ []
    own_item =
        let (xs, ys, is) = split_in n (children doc o) (child_in doc whole.sound.valid o n hangs) in
        let at = place_here ∙ place_of-split child whole.sound.runs xs ys is in
        (λ i. take 1 (drop (at i) (is i))) ∙ ap (take 1) (drop-append_seam xs (n ∷ ys))

    to_same : o ≡ h → list_moved place index (children doc o) ≡ children after h
    to_same e =
        (λ i. take index (left i) ++ (own_item i ++ drop index (left i)))
        ∙ (ap (λ q. take index (children (without doc n) q) ++ n ∷ drop index (children (without doc n) q)) e ∙ sym (children-moved_to can index))

    to_other : o ≢ h → list_with index n (children doc h) ≡ children after h
    to_other e =
        ap (λ l. list_with index n l) (sym (children-without child h apart (λ s. e (sym s)))) ∙ sym (children-moved_to can index)

    from_other : o ≢ h → list_without place (children doc o) ≡ children after o
    from_other e = left ∙ (children-without_parent child ∙ sym (children-moved_from can index e))

    o_within : (0 < o) × (o ≤ length p.table.nodes)
    o_within = whole.sound.given o o_there

    h_within : (0 < h) × (h ≤ length p.table.nodes)
    h_within = whole.sound.given h h_there

    lists_same : o ≡ h → lists ≡ slice_set old (o - 1) (children after o)
    lists_same e =
        at_some (λ (list : List ℕ). lists ≡ slice_set old (o - 1) (list_moved place index list)) (whole.children_of.each o o_there) (same e)
        ∙ ap (slice_set old (o - 1)) (to_same e ∙ ap (children after) (sym e))

    lists_other : o ≢ h → lists ≡ slice_set (slice_set old (h - 1) (children after h)) (o - 1) (children after o)
    lists_other e =
        at_some (λ (here : List ℕ). lists ≡ slice_set (slice_set old (h - 1) (list_with index n (children doc h))) (o - 1) (list_without place here)) (whole.children_of.each o o_there)
        (at_some (λ (there : List ℕ). IfSome (slice_get old (o - 1)) (λ here. lists ≡ slice_set (slice_set old (h - 1) (list_with index n there)) (o - 1) (list_without place here)))
        (whole.children_of.each h h_there) (other e))
        ∙ (λ i. slice_set (slice_set old (h - 1) (to_other e i)) (o - 1) (from_other e i))

    differ : (a b : ℕ) → 0 < a → 0 < b → a ≢ b → a - 1 ≢ b - 1
    differ a b l m e f = e (omega (arith, l, m, f))

    pub children_after : AreChildren (length p.table.nodes) after lists
    children_after = elim (cases_eq o h) [
      | inl e ↦ record {
        count = ap length (lists_same e) ∙ (length-set old (o - 1) (children after o) ∙ whole.children_of.count);
        each = λ x is. ap (λ l. slice_get l (x - 1)) (lists_same e) ∙ elim (cases_eq x o) [
          | inl s ↦ ap (λ k. slice_get (slice_set old (o - 1) (children after o)) (k - 1)) s
              ∙ (get_set_same old (o - 1) (children after o) (omega (arith, o_within, whole.children_of.count)) ∙ ap (λ k. Some (children after k)) (sym s))
          | inr s ↦ get_set_other old (o - 1) (x - 1) (children after o) (differ o x o_within.0 (sound_after.given x is).0 (λ f. s (sym f)))
              ∙ (whole.children_of.each x (in_doc x is) ∙ ap Some (sym (children-moved can index x (λ f. s (f ∙ sym e)) s)))
        ];
      }
      | inr e ↦ record {
        count = ap length (lists_other e) ∙ (length-set (slice_set old (h - 1) (children after h)) (o - 1) (children after o) ∙ (length-set old (h - 1) (children after h) ∙ whole.children_of.count));
        each = λ x is. ap (λ l. slice_get l (x - 1)) (lists_other e) ∙ elim (cases_eq x o) [
          | inl s ↦ ap (λ k. slice_get (slice_set (slice_set old (h - 1) (children after h)) (o - 1) (children after o)) (k - 1)) s
              ∙ (get_set_same (slice_set old (h - 1) (children after h)) (o - 1) (children after o) (omega (arith, o_within, whole.children_of.count, length-set old (h - 1) (children after h)))
              ∙ ap (λ k. Some (children after k)) (sym s))
          | inr s ↦ get_set_other (slice_set old (h - 1) (children after h)) (o - 1) (x - 1) (children after o) (differ o x o_within.0 (sound_after.given x is).0 (λ f. s (sym f)))
              ∙ elim (cases_eq x h) [
                | inl t ↦ ap (λ k. slice_get (slice_set old (h - 1) (children after h)) (k - 1)) t
                    ∙ (get_set_same old (h - 1) (children after h) (omega (arith, h_within, whole.children_of.count)) ∙ ap (λ k. Some (children after k)) (sym t))
                | inr t ↦ get_set_other old (h - 1) (x - 1) (children after h) (differ h x h_within.0 (sound_after.given x is).0 (λ f. t (sym f)))
                    ∙ (whole.children_of.each x (in_doc x is) ∙ ap Some (sym (children-moved can index x t s)))
              ]
        ];
      }
    ]

    pub from_is : {list : List ℕ} → slice_get lists (o - 1) ≡ Some list → list ≡ children after o
    from_is {list} read = same_Some list (children after o) (sym read ∙ children_after.each o (in_after o o_there))

    pub to_is : {list : List ℕ} → slice_get lists (h - 1) ≡ Some list → list ≡ children after h
    to_is {list} read = same_Some list (children after h) (sym read ∙ children_after.each h (in_after h h_there))

  -- before anything is changed

  few_children : (es : List Element) (q : ℕ) → length (children es q) ≤ length es
  few_children es q = omega (arith, length-map (filter (is_child_of q) es) (λ (e : Element). e.number), length-filter_both (is_child_of q) (λ e. not (is_child_of q e)) (λ _. refl) es)

  own_split : (xs : List ℕ) × (ys : List ℕ) × (children doc o ≡ xs ++ n ∷ ys) × (place_of doc n ≡ length xs) × (children (without doc n) o ≡ xs ++ ys)
  own_split =
      let (xs, ys, is) = split_in n (children doc o) (child_in doc whole.sound.valid o n hangs) in
      (xs, ys, is, place_of-split child whole.sound.runs xs ys is, children-without_split child whole.sound.runs xs ys is)

  pub index_within : index ≤ length (children (without now.elements n) h) → (index ≤ length (children doc h)) × (o ≡ h → index < length (children doc h))
  index_within l = elim (cases_eq o h) [
    | inl e ↦
        let (xs, ys, is, at, left) = own_split in
        let seen = ap (λ (d : Document). length (children (without d.elements n) h)) view in
        let here : index ≤ length (xs ++ ys) = omega (arith, l, seen, ap (λ q. length (children (without doc n) q)) e, ap length left) in
        let less : index < length (children doc h) =
        omega (arith, here, ap (λ q. length (children doc q)) e, ap length is, length-append xs (n ∷ ys), length-append xs ys) in
        (omega (arith, less), λ _. less)
    | inr e ↦
        let same = ap length (children-without child h apart (λ s. e (sym s))) in
        (omega (arith, l, ap (λ (d : Document). length (children (without d.elements n) h)) view, same), λ f. absurd (e f))
  ]

  pub index_few : index ≤ length (children (without now.elements n) h) → index ≤ length p.order
  index_few l = omega (arith, (index_within l).0, few_children doc h, long)

  -- the index among all, where it was counted without it
  pub index_all : {place k : ℕ} → place ≡ place_of now.elements n → (o ≡ h → place ≤ index → k ≡ index + 1) → (o ≡ h → index < place → k ≡ index) → (o ≢ h → k ≡ index)
      → slice_get (children now.elements h) k ≡ slice_get (children (without now.elements n) h) index
  index_all {place} {k} place_now passed before other =
      ap (λ (d : Document). slice_get (children d.elements h) k) (sym view) ∙ (here ∙ ap (λ (d : Document). slice_get (children (without d.elements n) h) index) view)
    where
      place_at : place ≡ place_of doc n
      place_at = place_now ∙ ap (λ (d : Document). place_of d.elements n) (sym view)

      same_list : o ≡ h → slice_get (children doc o) k ≡ slice_get (children (without doc n) o) index
      same_list e =
          let (xs, ys, is, at, left) = own_split in
          ap (λ l. slice_get l k) is ∙ (elim (cases_lt index place) [
            | inl early ↦
                let within : index < length xs = omega (arith, early, place_at, at) in
                ap (slice_get (xs ++ n ∷ ys)) (before e early) ∙ (get_left xs (n ∷ ys) index within ∙ sym (get_left xs ys index within))
            | inr late ↦
                let more : ℕ = index - length xs in
                let next : k ≡ length xs + suc more = omega (arith, passed e late, late, place_at, at) in
                let there : index ≡ length xs + more = omega (arith, late, place_at, at) in
                ap (slice_get (xs ++ n ∷ ys)) next ∙ (get_behind xs (n ∷ ys) (suc more) ∙ (sym (get_behind xs ys more) ∙ ap (slice_get (xs ++ ys)) (sym there)))
          ] ∙ sym (ap (λ l. slice_get l index) left))

      here : slice_get (children doc h) k ≡ slice_get (children (without doc n) h) index
      here = elim (cases_eq o h) [
        | inl e ↦ ap (λ q. slice_get (children doc q) k) (sym e) ∙ (same_list e ∙ ap (λ q. slice_get (children (without doc n) q) index) e)
        | inr e ↦ ap (slice_get (children doc h)) (other e) ∙ ap (λ l. slice_get l index) (sym (children-without child h apart (λ s. e (sym s))))
      ]

  -- where it goes, as it was found by the index among all
  pub spot_read : {place k found : ℕ} → place ≡ place_of now.elements n → (o ≡ h → place ≤ index → k ≡ index + 1) → (o ≡ h → index < place → k ≡ index) → (o ≢ h → k ≡ index)
      → found ≡ option_map_or (position_of now.elements) (slice_get (children now.elements h) k) (position_of now.elements h + length (subtree_of now.elements h))
      → found ≡ goes_to now
  spot_read place_now passed before other read =
      read
      ∙ ap (λ child. option_map_or (position_of now.elements) child (position_of now.elements h + length (subtree_of now.elements h))) (index_all place_now passed before other)

  pub from_low : (0 < n) × (n ≤ length p.table.nodes)
  from_low = whole.sound.given n n_there

  -- what the lists have

  pub from_within : (0 < o) × (o ≤ length p.spans)
  from_within = (o_in.0, omega (arith, o_in, whole.children_of.count, length-map p.spans (part_of p.flat)))
    where
      o_in : (0 < o) × (o ≤ length p.table.nodes)
      o_in = whole.sound.given o o_there

  pub to_within : (0 < h) × (h ≤ length p.spans)
  to_within = (h_in.0, omega (arith, h_in, whole.children_of.count, length-map p.spans (part_of p.flat)))
    where
      h_in : (0 < h) × (h ≤ length p.table.nodes)
      h_in = whole.sound.given h h_there

  pub from_told : (P : List ℕ → Type 0) → P (children doc o) → IfSome (slice_get (lists_of p.flat p.spans) (o - 1)) P
  from_told P k = if_some P (whole.children_of.each o o_there) k

  pub to_told : (P : List ℕ → Type 0) → P (children doc h) → IfSome (slice_get (lists_of p.flat p.spans) (h - 1)) P
  to_told P k = if_some P (whole.children_of.each h h_there) k

  pub place_within : {place : ℕ} → place ≡ place_of now.elements n → place < length (children doc o)
  place_within e = omega (arith, e, ap (λ (d : Document). place_of d.elements n) view, place_of-inside doc whole.sound.valid n o n_there hangs)

  pub part_within : position_of now.elements n + length (subtree_of now.elements n) ≤ length p.order
  part_within = subst (λ (d : Document). position_of d.elements n + length (subtree_of d.elements n) ≤ length p.order) view inside

  -- the place is not within the subtree
  pub place_outside : {place : ℕ} → place ≡ goes_to now
      → (place ≤ length p.order) × (position_of now.elements n < place → position_of now.elements n + length (subtree_of now.elements n) ≤ place)
  place_outside {place} place_now =
      let place_at : place ≡ spot_before child whole.sound.runs h h_there apart index =
      place_now ∙ ap goes_to (sym view) in
      let at_now = ap (λ (d : Document). position_of d.elements n) view in
      let end_now = ap (λ (d : Document). position_of d.elements n + length (subtree_of d.elements n)) view in
      elim spot_left [
        | inl (near, same) ↦ (omega (arith, near, place_at, inside), λ l. absurd (omega (arith, l, near, place_at, at_now)))
        | inr (far, same) ↦ (omega (arith, same, place_at, spot_fits), λ l. omega (arith, far, place_at, end_now))
      ]

-- what was done
pub record IsMove (p q : Parts) (now : Document) (n o h index place : ℕ) (from to : List ℕ) : Type 0 where
  pub same : q ≡ record p {
    table = record { names = p.table.names; nodes = q.table.nodes };
    spans = q.spans;
    flat = q.flat;
    index = q.index;
    before = q.before;
    after = q.after;
    tally = q.tally;
    order = q.order;
  }
  pub nodes : q.table.nodes ≡ put_node (n - 1) (with_parent (h - 1)) p.table.nodes
  pub parts : AreParts q.flat q.spans
  pub from_read : slice_get (lists_of q.flat q.spans) (o - 1) ≡ Some from
  pub to_read : slice_get (lists_of q.flat q.spans) (h - 1) ≡ Some to
  pub index_mid : List ℕ
  pub before_mid : List ℕ
  pub after_mid : List ℕ
  pub index_first : AreWritten (index_among from) from p.index index_mid
  pub index_then : AreWritten (index_among to) to index_mid q.index
  pub before_first : AreWritten (type_place (listed q.table.nodes) false from) from p.before before_mid
  pub before_then : AreWritten (type_place (listed q.table.nodes) false to) to before_mid q.before
  pub after_first : AreWritten (type_place (listed q.table.nodes) true from) from p.after after_mid
  pub after_then : AreWritten (type_place (listed q.table.nodes) true to) to after_mid q.after
  pub zeros : AreZeros p.table.names q.tally
  pub room : length q.tally ≡ length p.tally

-- the document: its rows but for the one, and the order
module _ {p : Parts} {now : Document} {n o h index : ℕ} (m : IsMoving p now n o h index) {later : Table} {order : List ℕ} (names : later.names ≡ p.table.names)
    (nodes : later.nodes ≡ put_node (n - 1) (with_parent (h - 1)) p.table.nodes) (ordered : numbers (after m) ≡ order) where
  same_elements : in_order later.nodes order ≡ after m
  same_elements = in_order_is later.nodes (after m) order (sound_after m).valid ordered (found_after m names nodes)

  pub moved_document : document later order ≡ moved now n h index
  moved_document = (λ i. record { elements = same_elements i; last = so_many m names nodes i }) ∙ ap (λ d. moved d n h index) m.view

module _ {p q : Parts} {now : Document} {n o h index : ℕ} (m : IsMoving p now n o h index) {place : ℕ} {from to : List ℕ} (is : IsMove p q now n o h index place from to)
    (children : AreChildren (length p.table.nodes) (after m) (lists_of q.flat q.spans))
    (from_is : from ≡ children_of_after m o) (to_is : to ≡ children_of_after m h)
    (order : (numbers (after m) ≡ q.order) × (length q.order ≡ length p.order)) where
  abbrev b : List Element
  b = after m

  abbrev table : Table
  table = record { names = p.table.names; nodes = q.table.nodes }

  many : length q.table.nodes ≡ length p.table.nodes
  many = so_many m {later = table} refl is.nodes

  kept : IsKept q b
  kept = subst (λ r. IsKept r b) (sym is.same) (record {
    few = omega (arith, m.whole.few, order.1);
    given = omega (arith, m.whole.given, many);
    sound = subst (λ k. IsSound (record { elements = b; last = k })) (sym many) (sound_after m);
    listed = order.0;
    known = record { count = m.whole.known.count ∙ sym many; each = λ x. is_element-moved (can m) index x ∙ m.whole.known.each x };
    apart = is.parts;
    children_of = subst (λ k. AreChildren k b (lists_of q.flat q.spans)) (sym many) children;
    index_of = index_after m {later = table} refl is.nodes from_is to_is refl is.index_first is.index_then;
    before_of = type_after m {later = table} refl is.nodes from_is to_is false m.whole.before_of is.before_first is.before_then;
    after_of = type_after m {later = table} refl is.nodes from_is to_is true m.whole.after_of is.after_first is.after_then;
    zeros = is.zeros;
    tags = tag_after m {later = table} refl is.nodes is.room;
    once = m.whole.once;
    labels_of = labels;
    cuts_of = m.whole.cuts_of;
  })
    where
      labels : AreLabels table p.lists p.labels
      labels =
          let within = m.whole.sound.given n (n_there m) in
          let (node, at) = slice_get_some p.table.nodes (n - 1) (omega (arith, within)) in
          labels_stay (with_parent (h - 1)) (n - 1) (λ node. refl) m.whole.labels_of (λ name l. refl) at is.nodes

  pub moved_whole : IsWhole q
  moved_whole = subst (IsKept q) (sym (same_elements m {later = table} refl is.nodes order.0)) kept
