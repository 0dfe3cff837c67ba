-- What is kept of a document, once a subtree is taken out.
use Rattle.std.proofs.Common.{◌≡◌, ◌≢◌, ℕ, ◌+◌, ◌-◌, ◌<◌, ◌≤◌, ◌==◌, ◌&&◌, Bool, true, false, not, cond, nat_lt, List, [], ◌∷◌, ◌++◌, take, drop, length, slice_set}
use Rattle.std.proofs.Common.{Option, Some, None, IfSome, is_some, option_map, unwrap_or, slice_get, sym, ap, ◌∙◌, subst, refl, inl, inr, arith, ltb-true}
use Rattle.std.specs.List.{AllByRecursion}
use Rattle.std.proofs.Math.Seq.{take-append_seam, drop-append-add}
use Rattle.std.proofs.lemmas.Bool.{cases_eq, true≢false}
use Rattle.std.proofs.lemmas.List.{length-map, length-set}
use Rattle.std.proofs.lemmas.List.Filters.{length-filter_both}
use Rattle.std.proofs.lemmas.Option.{same_Some}
use Rattle.base_model.proofs.Lists.{each-drop, each-take}
use Rattle.scene_model.specs.Ancestors.{position_of}
use Rattle.scene_model.specs.Document.{Document}
use Rattle.scene_model.specs.Element.{Element}
use Rattle.scene_model.specs.Lookups.{IsElement, children, element_at, is_element, numbers, parent_of, place_of, place_of_type, tag_of}
use Rattle.scene_model.specs.Nodes.{Node, listed}
use Rattle.scene_model.specs.Valid.{IsValid}
use Rattle.scene_model.proofs.Found.{is_element-numbers, parent_of-element}
use Rattle.scene_model.proofs.Numbers.{is_in, split_in, same_number}
use Rattle.scene_model.proofs.Siblings.{place_of-inside}
use Rattle.change_model.specs.ChildLists.{CanRemove, removed}
use Rattle.change_model.specs.Sound.{is_below, subtree_of, without}
use Rattle.change_model.proofs.Below.{parent_not_below}
use Rattle.change_model.proofs.Columns.{elements_found}
use Rattle.change_model.proofs.Ends.{child_in}
use Rattle.change_model.proofs.GraftChildren.{each_of}
use Rattle.change_model.proofs.Orders.{numbers-subtree, numbers-without}
use Rattle.change_model.proofs.Parts.{is_element-filter}
use Rattle.change_model.proofs.Removed.{HasParent, its_parent, is_element-without, parent_of-without, children-without, element_at-without, IsSound-removed}
use Rattle.change_model.proofs.Spots.{subtree_within}
use Rattle.change_model.proofs.Stays.{children-without_split, place_of-split, remains}
use Rattle.dom_tree.specs.declared.span.Span.{Span}
use Rattle.dom_tree.specs.ChildLists.{AreChildren, AreParts, list_without, lists_of}
use Rattle.dom_tree.specs.Kept.{Table, part_of}
use Rattle.dom_tree.specs.SiblingPlaces.{ArePlaces, AreSiblings, AreWritten, AreZeros, HasNameBelow, HasTagBelow, index_among, type_place}
use Rattle.dom_tree.specs.Turned.{between, turned}
use Rattle.dom_tree.specs.Whole.{ArePresent, IsKept, IsWhole, Parts, document, in_order, is_present}
use Rattle.dom_tree.proofs.KeptLemmas.{element_at-in_order}
use Rattle.dom_tree.proofs.KeptPlaces.{IsDocument, Leaves, index_more, indexes_left, none_left, or_is, type_more, types_left}
use Rattle.dom_tree.proofs.Parts.{AreSeenAs}
use Rattle.dom_tree.proofs.Places.{at_some, get_set_other, get_set_same, if_some}
use Rattle.dom_tree.proofs.SettleLemmas.{are_siblings}
use Rattle.dom_tree.proofs.TurnLemmas.{cut_at}

-- the document of rows in an order: its numbers are that order, and each is found among the rows
pub in_order_is : (nodes : List Node) (es : List Element) (order : List ℕ) → IsValid es → numbers es ≡ order
    → ((x : ℕ) → IsElement es x → element_at (listed nodes) x ≡ element_at es x) → in_order nodes order ≡ es
unfolding in_order
in_order_is nodes es order v is found =
    elements_found (element_at (listed nodes)) es order v.distinct is
    (each_of (λ x. element_at (listed nodes) x ≡ element_at es x) order (λ x h. found x (is_element-numbers es x ∙ (ap (is_in x) is ∙ h))))

-- an element with a parent
pub hung_there : (doc : List Element) (x : ℕ) → is_some (parent_of doc x) ≡ true → IsElement doc x
hung_there doc x h = by (parent_of doc x) refl h
  where
    by : (o : Option ℕ) → parent_of doc x ≡ o → is_some o ≡ true → IsElement doc x
    by None e h = absurd (cc)
    by (Some p) e h = parent_of-element doc x p e

-- which numbers are elements' once some are no longer, or are at last
pub still_present : {last : ℕ} {doc later : List Element} {present marked : List Bool} (gone : List ℕ) → ArePresent last doc present → AreWritten (λ _. false) gone present marked
    → ((x : ℕ) → is_element later x ≡ (not (is_in x gone) && is_element doc x)) → ArePresent last later marked
still_present {doc = doc} {later} {present} {marked} gone are written left = record { count = written.count ∙ are.count; each = λ x. left x ∙ by x (nat_lt 0 x) refl }
  where
    no : (b : Bool) → (b && false) ≡ false
    no true = refl
    no false = refl

    two : (b p : Bool) (o : Option Bool) → unwrap_or o false ≡ p → (not b && p) ≡ unwrap_or (cond b (Some false) o) false
    two true p o h = refl
    two false p o h = sym h

    by : (x : ℕ) (low : Bool) → nat_lt 0 x ≡ low → (not (is_in x gone) && is_element doc x) ≡ is_present marked x
    by x false e =
        let was = are.each x ∙ ap (λ c. c && unwrap_or (slice_get present (x - 1)) false) e in
        ap (λ c. not (is_in x gone) && c) was ∙ (no (not (is_in x gone)) ∙ sym (ap (λ c. c && unwrap_or (slice_get marked (x - 1)) false) e))
    by x true e =
        let was = are.each x ∙ ap (λ c. c && unwrap_or (slice_get present (x - 1)) false) e in
        two (is_in x gone) (is_element doc x) (slice_get present (x - 1)) (sym was)
        ∙ (ap (λ o. unwrap_or o false) (sym (written.each x (ltb-true 0 x e))) ∙ sym (ap (λ c. c && unwrap_or (slice_get marked (x - 1)) false) e))

-- the lists once that of one parent is another
pub children_set : {last : ℕ} {doc later : List Element} {lists now : List (List ℕ)} {list : List ℕ} (o : ℕ) → AreChildren last doc lists → now ≡ slice_set lists (o - 1) list → 0 < o → o ≤ last
    → list ≡ children later o → ((x : ℕ) → IsElement later x → 0 < x) → ((x : ℕ) → IsElement later x → x ≢ o → IsElement doc x × (children doc x ≡ children later x)) → AreChildren last later now
children_set {last} {doc} {later} {lists} {now} {list} o are e low high own given others = record { count = ap length e ∙ (length-set lists (o - 1) list ∙ are.count); each = one }
  where
    one : (x : ℕ) → IsElement later x → slice_get now (x - 1) ≡ Some (children later x)
    one x is = elim (cases_eq x o) [
      | inl same ↦ ap (λ l. slice_get l (x - 1)) e ∙ (ap (λ k. slice_get (slice_set lists (o - 1) list) (k - 1)) same
          ∙ (get_set_same lists (o - 1) list (omega (arith, low, high, are.count)) ∙ ap Some (own ∙ ap (children later) (sym same))))
      | inr other ↦
          let (was, kept) = others x is other in
          let apart : o - 1 ≢ x - 1 = λ g. other (omega (arith, g, low, given x is)) in
          ap (λ l. slice_get l (x - 1)) e ∙ (get_set_other lists (o - 1) (x - 1) list apart ∙ (are.each x was ∙ ap Some kept))
    ]

-- what was done: the numbers of the subtree were marked, and cut off the order; its top was taken out of its parent's list, whose places were written
pub record IsRemoval (p q : Parts) (now : Document) (n o place start end count : ℕ) (shown list : List ℕ) : Type 0 where
  pub same : q ≡ record p { spans = q.spans; flat = q.flat; index = q.index; before = q.before; after = q.after; tally = q.tally; order = q.order; present = q.present }
  pub place_is : place ≡ place_of now.elements n
  pub start_is : start ≡ position_of now.elements n
  pub end_is : end ≡ position_of now.elements n + length (subtree_of now.elements n)
  pub count_is : count ≡ length p.order
  pub order : q.order ≡ take (count - (end - start)) (turned start count (end - start) p.order)
  pub shown_is : shown ≡ p.order
  pub present : AreWritten (λ _. false) (between start end shown) p.present q.present
  pub parts : AreParts q.flat q.spans
  pub lists : IfSome (slice_get (lists_of p.flat p.spans) (o - 1)) (λ list. lists_of q.flat q.spans ≡ slice_set (lists_of p.flat p.spans) (o - 1) (list_without place list))
  pub list_is : slice_get (lists_of q.flat q.spans) (o - 1) ≡ Some list
  pub index : AreWritten (index_among list) list p.index q.index
  pub before : AreWritten (type_place (listed p.table.nodes) false list) list p.before q.before
  pub after : AreWritten (type_place (listed p.table.nodes) true list) list p.after q.after
  pub zeros : AreZeros p.table.names q.tally
  pub room : length q.tally ≡ length p.tally

module _ {p : Parts} {now : Document} (whole : IsWhole p) (view : AreSeenAs p now) (n o : ℕ) (hangs_now : parent_of now.elements n ≡ Some o) where
  abbrev pub doc : List Element
  doc = in_order p.table.nodes p.order

  pub hangs : parent_of doc n ≡ Some o
  hangs = ap (λ (d : Document). parent_of d.elements n) view ∙ hangs_now

  pub can : CanRemove (document p.table p.order) n o
  can = record { sound = whole.sound; parent = hangs }

  child : HasParent doc n o
  child = its_parent can

  abbrev pub rest : List Element
  rest = without doc n

  abbrev size : ℕ
  size = length (subtree_of doc n)

  there : IsElement doc n
  there = parent_of-element doc n o hangs

  o_there : IsElement doc o
  o_there = (whole.sound.valid.parents n o hangs).0

  so_many : length p.order ≡ length doc
  so_many = ap length (sym whole.listed) ∙ length-map doc (λ (e : Element). e.number)

  inside : position_of doc n + size ≤ length p.order
  inside = omega (arith, so_many, subtree_within doc whole.sound.valid whole.sound.runs n there)

  -- the numbers of the subtree
  gone : numbers (subtree_of doc n) ≡ take size (drop (position_of doc n) p.order)
  gone = numbers-subtree doc whole.sound.valid whole.sound.runs n there ∙ ap (λ l. take size (drop (position_of doc n) l)) whole.listed

  left_out : (x : ℕ) → is_element rest x ≡ (not (is_in x (numbers (subtree_of doc n))) && is_element doc x)
  left_out x =
      is_element-without child x ∙ (two (is_below doc n x) (is_element doc x)
      ∙ ap (λ b. not b && is_element doc x) (sym (is_element-filter doc (is_below doc n) x) ∙ is_element-numbers (subtree_of doc n) x))
    where
      two : (b p : Bool) → (not b && p) ≡ (not (b && p) && p)
      two true true = refl
      two true false = refl
      two false true = refl
      two false false = refl

  -- what is left

  kept_out : (x : ℕ) → IsElement rest x → (is_below doc n x ≡ false) × IsElement doc x
  kept_out x h = remains child whole.sound.runs x h

  same_tag : (x : ℕ) → IsElement rest x → tag_of doc x ≡ tag_of rest x
  same_tag x h = ap (λ o. unwrap_or (option_map (λ (e : Element). e.tag) o) []) (sym (element_at-without child x (kept_out x h).0))

  leaves : Leaves doc rest (or_is (λ _. false) o)
  leaves = record {
    there = λ x h quiet. (let (out, was) = kept_out x h in (was, sym (parent_of-without child x out)));
    lists = λ q h other. sym (children-without child q (kept_out q h).0 (λ e. true≢false (sym (same_number o) ∙ (ap (λ r. r == o) (sym e) ∙ other))));
    tags = λ x h was. same_tag x h;
  }

  shown_tag : (x : ℕ) → IsElement doc x → tag_of (listed p.table.nodes) x ≡ tag_of doc x
  shown_tag x is = ap (λ o. unwrap_or (option_map (λ (e : Element). e.tag) o) []) (sym (element_at-in_order p.table.nodes p.order x is))

  is_rest : IsDocument p.table rest
  is_rest = record {
    valid = (IsSound-removed can).valid;
    given = (IsSound-removed can).given;
    tags = λ x h. shown_tag x (kept_out x h).1 ∙ same_tag x h;
  }

  -- the list of its parent, without it
  pub own_list : list_without (place_of doc n) (children doc o) ≡ children rest o
  own_list =
      let (xs, ys, is) = split_in n (children doc o) (child_in doc whole.sound.valid o n hangs) in
      let at = place_of-split child whole.sound.runs xs ys is in
      (λ i. take (at i) (is i) ++ drop (at i + 1) (is i))
      ∙ ((λ i. take-append_seam xs (n ∷ ys) i ++ drop-append-add xs (n ∷ ys) 1 i) ∙ sym (children-without_split child whole.sound.runs xs ys is))

  other_lists : (x : ℕ) → IsElement rest x → x ≢ o → IsElement doc x × (children doc x ≡ children rest x)
  other_lists x h other = let (out, was) = kept_out x h in (was, sym (children-without child x out other))

  tag_left : {room : ℕ} (x : ℕ) → IsElement rest x → HasTagBelow doc p.table.names room x → HasTagBelow rest p.table.names room x
  tag_left {room} x h named = subst (HasNameBelow p.table.names room) (same_tag x h) named

  -- its parent's list, once it was taken out
  module _ (spans : List Span) (flat : List ℕ) {place : ℕ} (place_is : place ≡ place_of now.elements n)
      (taken : IfSome (slice_get (lists_of p.flat p.spans) (o - 1)) (λ list. lists_of flat spans ≡ slice_set (lists_of p.flat p.spans) (o - 1) (list_without place list))) where
    lists_set : lists_of flat spans ≡ slice_set (lists_of p.flat p.spans) (o - 1) (children rest o)
    lists_set =
        at_some (λ (list : List ℕ). lists_of flat spans ≡ slice_set (lists_of p.flat p.spans) (o - 1) (list_without place list)) (whole.children_of.each o o_there) taken
        ∙ ap (slice_set (lists_of p.flat p.spans) (o - 1)) (ap (λ k. list_without k (children doc o)) (place_is ∙ ap (λ (d : Document). place_of d.elements n) (sym view)) ∙ own_list)

    children_left : AreChildren (length p.table.nodes) rest (lists_of flat spans)
    children_left =
        let within = whole.sound.given o o_there in
        children_set o whole.children_of lists_set within.0 within.1 refl (λ x h. (is_rest.given x h).0) other_lists

    pub spans_left : o ≤ length spans
    spans_left = omega (arith, whole.sound.given o o_there, children_left.count, length-map spans (part_of flat))

    o_left : IsElement rest o
    o_left = is_element-without child o ∙ (ap (λ b. not b && is_element doc o) (parent_not_below doc whole.sound.valid n o hangs) ∙ o_there)

    list_left : {list : List ℕ} → slice_get (lists_of flat spans) (o - 1) ≡ Some list → list ≡ children rest o
    list_left {list} at = same_Some list (children rest o) (sym at ∙ children_left.each o o_left)

    pub siblings_left : {list : List ℕ} → slice_get (lists_of flat spans) (o - 1) ≡ Some list → AreSiblings (length p.table.nodes) (listed p.table.nodes) p.table.names (length p.tally) list
    siblings_left at = are_siblings p.table rest is_rest.valid is_rest.given named o (list_left at)
      where
        named : (x : ℕ) → IsElement rest x → HasTagBelow (listed p.table.nodes) p.table.names (length p.tally) x
        named x h = let was = (kept_out x h).1 in subst (HasNameBelow p.table.names (length p.tally)) (sym (shown_tag x was)) (whole.tags x was)

  -- before anything is changed

  pub parent_within : o ≤ length p.spans
  parent_within = omega (arith, whole.sound.given o o_there, whole.children_of.count, length-map p.spans (part_of p.flat))

  module _ {place : ℕ} (place_is : place ≡ place_of now.elements n) where
    pub place_within : IfSome (slice_get (lists_of p.flat p.spans) (o - 1)) (λ list. place < length list)
    place_within =
        if_some (λ (list : List ℕ). place < length list) (whole.children_of.each o o_there)
        (omega (arith, place_is, ap (λ (d : Document). place_of d.elements n) view, place_of-inside doc whole.sound.valid n o there hangs))

  pub subtree_inside : position_of now.elements n + length (subtree_of now.elements n) ≤ length p.order
  subtree_inside = subst (λ (d : Document). position_of d.elements n + length (subtree_of d.elements n) ≤ length p.order) view inside

  abbrev IsGiven : ℕ → Type 0
  IsGiven x = (0 < x) × (x ≤ length p.present)

  pub each_within : (k s : ℕ) {shown : List ℕ} → shown ≡ p.order → AllByRecursion (λ x. (0 < x) × (x ≤ length p.present)) (take k (drop s shown))
  each_within k s same = subst (λ l. AllByRecursion (λ x. (0 < x) × (x ≤ length p.present)) (take k (drop s l))) (sym same)
      (each-take IsGiven k (drop s p.order) (each-drop IsGiven s p.order (each_of IsGiven p.order one)))
    where
      one : (x : ℕ) → is_in x p.order ≡ true → (0 < x) × (x ≤ length p.present)
      one x h =
          let within = whole.sound.given x (is_element-numbers doc x ∙ (ap (is_in x) whole.listed ∙ h)) in
          (within.0, omega (arith, within.1, whole.known.count))

  -- after all: the order

  module _ {order : List ℕ} {start end count : ℕ} (start_is : start ≡ position_of now.elements n) (end_is : end ≡ position_of now.elements n + length (subtree_of now.elements n))
      (count_is : count ≡ length p.order) (cut_off : order ≡ take (count - (end - start)) (turned start count (end - start) p.order)) where
    start_at : start ≡ position_of doc n
    start_at = start_is ∙ ap (λ (d : Document). position_of d.elements n) (sym view)

    so_long : end - start ≡ size
    so_long = omega (arith, start_is, end_is, ap (λ (d : Document). length (subtree_of d.elements n)) view)

    order_left : numbers rest ≡ order
    order_left =
        numbers-without doc whole.sound.valid whole.sound.runs n there
        ∙ ((λ i. take (position_of doc n) (whole.listed i) ++ drop (position_of doc n + size) (whole.listed i))
        ∙ (sym (cut_at p.order (position_of doc n) size inside)
        ∙ sym (cut_off ∙ (λ i. take (count_is i - so_long i) (turned (start_at i) (count_is i) (so_long i) p.order)))))

    same_elements : in_order p.table.nodes order ≡ rest
    same_elements = in_order_is p.table.nodes rest order is_rest.valid order_left
        (λ x h. sym (element_at-in_order p.table.nodes p.order x (kept_out x h).1) ∙ sym (element_at-without child x (kept_out x h).0))

    pub removed_document : document p.table order ≡ removed now n
    removed_document = (λ i. record { elements = same_elements i; last = length p.table.nodes }) ∙ ap (λ d. removed d n) view

  -- and all else

  module _ {q : Parts} {place start end count : ℕ} {shown list : List ℕ} (cut : IsRemoval p q now n o place start end count shown list) where
    left : numbers rest ≡ q.order
    left = order_left cut.start_is cut.end_is cut.count_is cut.order

    gone_is : between start end shown ≡ numbers (subtree_of doc n)
    gone_is =
        (λ i. take (so_long cut.start_is cut.end_is cut.count_is cut.order i) (drop (start_at cut.start_is cut.end_is cut.count_is cut.order i) (cut.shown_is i)))
        ∙ sym gone

    index_left : ArePlaces (length p.table.nodes) rest (place_of rest) q.index
    index_left = none_left is_rest (index_more is_rest (λ _. false) o (list_left q.spans q.flat cut.place_is cut.lists cut.list_is) (indexes_left is_rest.valid leaves whole.index_of) cut.index)

    type_left : (from_last : Bool) {old new : List ℕ} → ArePlaces (length p.table.nodes) doc (place_of_type doc from_last) old
        → AreWritten (type_place (listed p.table.nodes) from_last list) list old new
        → ArePlaces (length p.table.nodes) rest (place_of_type rest from_last) new
    type_left from_last are written = none_left is_rest (type_more is_rest (λ _. false) o (list_left q.spans q.flat cut.place_is cut.lists cut.list_is) from_last
        (types_left is_rest.valid leaves from_last are) written)

    kept : IsKept q rest
    kept = subst (λ r. IsKept r rest) (sym cut.same) (record {
      few = omega (
        arith,
        whole.few,
        so_many,
        length-filter_both (λ (e : Element). not (is_below doc n e.number)) (λ e. not (not (is_below doc n e.number))) (λ e. refl) doc,
        ap length
            (sym left),
        length-map rest (λ (e : Element). e.number),
      );
      given = whole.given;
      sound = IsSound-removed can;
      listed = left;
      known = still_present (numbers (subtree_of doc n)) whole.known (subst (λ l. AreWritten (λ _. false) l p.present q.present) gone_is cut.present) left_out;
      apart = cut.parts;
      children_of = children_left q.spans q.flat cut.place_is cut.lists;
      index_of = index_left;
      before_of = type_left false whole.before_of cut.before;
      after_of = type_left true whole.after_of cut.after;
      zeros = cut.zeros;
      tags = λ x h. tag_left x h (subst (λ n. HasTagBelow doc p.table.names n x) (sym cut.room) (whole.tags x (kept_out x h).1));
      once = whole.once;
      labels_of = whole.labels_of;
      cuts_of = whole.cuts_of;
    })

    pub removed_whole : IsWhole q
    removed_whole =
        subst (IsKept q) (sym (same_elements cut.start_is cut.end_is cut.count_is cut.order)
        ∙ ap (λ (t : Table). in_order t.nodes q.order) (sym (ap (λ (r : Parts). r.table) cut.same))) kept
