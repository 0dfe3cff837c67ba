-- What is kept of a document, once the nodes of a list are put in.
use Rattle.std.proofs.Common.{◌≡◌, ℕ, zero, suc, ◌+◌, ◌-◌, ◌<◌, ◌≤◌, ◌||◌, Bool, true, false, nat_lt, List, [], ◌++◌, map, length, slice_set}
use Rattle.std.proofs.Common.{Option, Some, None, IfSome, option_map, unwrap_or, slice_get, sym, ap, ◌∙◌, subst, subst₂, refl, inl, inr, arith, length-append}
use Rattle.std.specs.List.{AllByRecursion}
use Rattle.std.specs.Option.{option_map_or}
use Rattle.std.proofs.Math.ListN.{replicate}
use Rattle.std.proofs.lemmas.Bool.{cases_lt}
use Rattle.std.proofs.lemmas.Bool.Decides.{nat_tests}
use Rattle.std.proofs.lemmas.List.{length-map, length-replicate}
use Rattle.std.proofs.lemmas.Option.{same_Some, slice_get-map}
use Rattle.base_model.specs.Limits.{element_limit, number_limit}
use Rattle.base_model.proofs.Lists.{slice_get_some}
use Rattle.stylo_base.specs.NameList.{StandOnce}
use Rattle.scene_model.specs.Document.{Document}
use Rattle.scene_model.specs.Element.{Characters, Element}
use Rattle.scene_model.specs.Lookups.{IsElement, children, element_at, parent_of, place_of, place_of_type, tag_of}
use Rattle.scene_model.specs.Nodes.{Node, IsNodeList, listed, scene_of, tree_order}
use Rattle.scene_model.proofs.Listed.{element_at-listed_some}
use Rattle.scene_model.proofs.TreeOrder.{tag_of-scene_of, within-scene_of}
use Rattle.change_model.specs.ChildLists.{renumbered, spot}
use Rattle.change_model.specs.Sound.{IsSound}
use Rattle.change_model.proofs.Columns.{get_left}
use Rattle.change_model.proofs.Inserted.{element_at-inserted_new, inserted_in, is_element-inserted}
use Rattle.dom_tree.specs.declared.labels.Label.{Label}
use Rattle.dom_tree.specs.ChildLists.{AreChildren, AreParts, list_with, lists_of}
use Rattle.dom_tree.specs.Kept.{KeepsTexts, Table, kept_node}
use Rattle.dom_tree.specs.Labels.{AreLabels, HasMore, IsLabelOf}
use Rattle.dom_tree.specs.SiblingPlaces.{ArePlaces, AreSettled, AreWritten, AreZeros, HasNameBelow, HasTagBelow, IsListed, Settles, index_among, or_above, type_place}
use Rattle.dom_tree.specs.Turned.{raised, turned}
use Rattle.dom_tree.specs.Whole.{ArePresent, IsKept, IsWhole, Parts}
use Rattle.dom_tree.proofs.AppendLemmas.{get_behind}
use Rattle.dom_tree.proofs.CutLemmas.{cuts_more}
use Rattle.dom_tree.proofs.InsertedDocument.{after, can, children_after, doc, fits, is_after, last_below, leaves, length_after, new_in, old_in, order_after, pending, present_after, quiet_old}
use Rattle.dom_tree.proofs.InsertedDocument.{same_elements, same_tag, so_many, sound_after, there}
use Rattle.dom_tree.proofs.KeptPlaces.{index_more, indexes_left, none_left, or_is, type_more, types_left}
use Rattle.dom_tree.proofs.LabelLemmas.{labelled_at, still_labelled}
use Rattle.dom_tree.proofs.NameLemmas.{KeepsTexts-more, below_more_names}
use Rattle.dom_tree.proofs.Parts.{AreSeenAs}
use Rattle.dom_tree.proofs.Places.{at_some, each_at, if_some}
use Rattle.dom_tree.proofs.RelabelLemmas.{label_more}

-- more places, of elements that are all pending
longer_places : {last : ℕ} (m : ℕ) {b : List Element} {pending : ℕ → Bool} {place : ℕ → ℕ} {places longer : List ℕ} → AreSettled last b pending place places → longer ≡ places ++ replicate m 0
    → ((x : ℕ) → IsElement b x → option_map_or pending (parent_of b x) false ≡ false → (0 < x) × (x ≤ last)) → AreSettled (last + m) b pending place longer
longer_places m {places = places} are e within = record {
  count = ap length e ∙ (length-append places (replicate m 0) ∙ omega (arith, are.count, length-replicate {A = ℕ} m 0));
  each = λ x is quiet. ap (λ l. slice_get l (x - 1)) e ∙ (get_left places (replicate m 0) (x - 1) (omega (arith, within x is quiet, are.count)) ∙ are.each x is quiet);
}

-- fewer pending
fewer_pending : {last : ℕ} {b : List Element} {pending still : ℕ → Bool} {place : ℕ → ℕ} {places : List ℕ} → AreSettled last b pending place places
    → ((x : ℕ) → IsElement b x → option_map_or still (parent_of b x) false ≡ false → option_map_or pending (parent_of b x) false ≡ false) → AreSettled last b still place places
fewer_pending are fewer = record { count = are.count; each = λ x is quiet. are.each x is (fewer x is quiet) }

module _ {p : Parts} {now : Document} (whole : IsWhole p) (view : AreSeenAs p now) (o index : ℕ) {list : List Node} (there_now : IsElement now.elements o) (shape : IsNodeList list)
    (fits_now : now.last + length list ≤ number_limit) (later : Table) (nodes : later.nodes ≡ p.table.nodes ++ map (kept_node (length p.table.nodes) o) list) where
  abbrev last : ℕ
  last = length p.table.nodes

  abbrev m : ℕ
  m = length list

  abbrev b : List Element
  b = after whole view o index there_now shape fits_now

  many : length later.nodes ≡ last + m
  many = so_many whole view o index there_now shape fits_now later nodes

  -- the tags, for which the tally has room

  module _ (mid : List Characters) (texts : KeepsTexts p.table.names mid) (more : KeepsTexts mid later.names) {room : ℕ} (is_room : room ≡ length mid)
      (tags : AllByRecursion (λ node. HasNameBelow mid (length mid) node.tag) list) where
    longer_names : length p.table.names ≤ length mid
    longer_names = by (length p.table.names) (omega arith)
      where
        by : (n : ℕ) → n ≤ length p.table.names → n ≤ length mid
        by zero l = omega arith
        by (suc n) l = let h = below_more_names p.table.names mid n texts (omega arith) in omega (arith, h)

    pub tag_after : (x : ℕ) → IsElement b x → HasTagBelow b later.names room x
    tag_after x h = elim (cases_lt last x) [
      | inl new ↦
          let (y, e, is) = new_in whole view o index there_now shape fits_now x new h in
          let within = within-scene_of list shape y is in
          let (node, at) = slice_get_some list (y - 1) (omega (arith, within)) in
          let back : y - 1 + 1 ≡ y = omega (arith, within) in
          let shown : tag_of b (last + y) ≡ node.tag = own y node is (tag_of-scene_of list shape y ∙ (ap (tag_of (listed list)) (sym back)
          ∙ ap (λ a. unwrap_or (option_map (λ (e : Element). e.tag) a) []) (element_at-listed_some list (y - 1) node at))) in
          subst (λ x. HasTagBelow b later.names room x) e (subst (HasNameBelow later.names room) (sym shown)
          (kept node.tag (each_at (λ (node : Node). HasNameBelow mid (length mid) node.tag) list (y - 1) node tags at)))
      | inr old ↦
          let was = old_in whole view o index there_now shape fits_now x old h in
          subst (HasNameBelow later.names room) (same_tag whole view o index there_now shape fits_now x old) (first (tag_of (doc whole view o index there_now shape fits_now) x) (whole.tags x was))
    ]
      where
        kept : (tag : Characters) → HasNameBelow mid (length mid) tag → HasNameBelow later.names room tag
        kept tag (name, below, at) = (name, omega (arith, below, is_room), more name below ∙ at)

        first : (tag : Characters) → HasNameBelow p.table.names (length p.tally) tag → HasNameBelow later.names room tag
        first tag (name, below, at) =
            let here : name < length p.table.names = omega (arith, below, whole.zeros.few) in
            (name, omega (arith, here, longer_names, is_room), more name (omega (arith, here, longer_names)) ∙ (texts name here ∙ at))

        own : (y : ℕ) (node : Node) → IsElement (scene_of list) y → tag_of (scene_of list) y ≡ node.tag → tag_of b (last + y) ≡ node.tag
        own y node is same = ap (λ a. unwrap_or (option_map (λ (e : Element). e.tag) a) []) (element_at-inserted_new (can whole view o index there_now shape fits_now) index y is)
            ∙ (tag_kept (element_at (scene_of list) y) ∙ same)
          where
            tag_kept : (a : Option Element) → unwrap_or (option_map (λ (e : Element). e.tag) (option_map (renumbered last o) a)) [] ≡ unwrap_or (option_map (λ (e : Element). e.tag) a) []
            tag_kept None = refl
            tag_kept (Some e) = refl

    pub named_after : (x : ℕ) → IsElement b x → HasTagBelow (listed later.nodes) later.names room x
    named_after x h = subst (HasNameBelow later.names room) (sym ((is_after whole view o index there_now shape fits_now later nodes).tags x h)) (tag_after x h)

  -- the places

  module _ {lists : List (List ℕ)} (are : AreChildren (last + m) b lists) where
    pub listed_after : IsListed later last (last + m) lists b
    listed_after = record {
      valid = (sound_after whole view o index there_now shape fits_now).valid;
      given = (is_after whole view o index there_now shape fits_now later nodes).given;
      tags = (is_after whole view o index there_now shape fits_now later nodes).tags;
      lists_are = λ q low high. are.each q (inserted_in (can whole view o index there_now shape fits_now) index q low high);
    }

    settle : {place : List Element → ℕ → ℕ} {places longer settled : List ℕ} → AreSettled last b (pending whole view o index there_now shape fits_now) (place b) places
        → longer ≡ places ++ replicate m 0
        → Settles later last (last + m) lists place longer settled → AreSettled (length later.nodes) b (or_is (λ _. false) o) (place b) settled
    settle {place} {longer = longer} left e settles =
        let start = longer_places m left e (λ x h quiet. (((sound_after whole view o index there_now shape fits_now).given x h).0, quiet_old whole view o index there_now shape fits_now x h quiet)) in
        fewer_pending (settles.each b (or_is (λ _. false) o) listed_after (subst (λ n. AreSettled n b (pending whole view o index there_now shape fits_now) (place b) longer) (sym many) start))
        (λ x h quiet. by x (parent_of b x) refl quiet)
      where
        by : (x : ℕ) (a : Option ℕ) → parent_of b x ≡ a → option_map_or (or_is (λ _. false) o) a false ≡ false → option_map_or (or_above (or_is (λ _. false) o) (last + m)) a false ≡ false
        by x None e h = refl
        by x (Some q) e h =
            let high = ((sound_after whole view o index there_now shape fits_now).given q ((sound_after whole view o index there_now shape fits_now).valid.parents x q e).0).1 in
            ap (λ c. c || nat_lt (last + m) q) h ∙ below (last + m) q high
          where
            below : (k q : ℕ) → q ≤ k → nat_lt k q ≡ false
            below k q l = grind (arith, nat_tests)

    module _ {siblings : List ℕ} (read : slice_get lists (o - 1) ≡ Some siblings) where
      o_after : IsElement b o
      o_after =
          let here = there whole view o index there_now shape fits_now in
          is_element-inserted (can whole view o index there_now shape fits_now) index o (last_below whole view o index there_now shape fits_now o here) ∙ here

      pub siblings_are : siblings ≡ children b o
      siblings_are = same_Some siblings (children b o) (sym read ∙ are.each o o_after)

      pub index_after : {longer settled final : List ℕ} → longer ≡ p.index ++ replicate m 0 → Settles later last (last + m) lists place_of longer settled
          → AreWritten (index_among siblings) siblings settled final
          → ArePlaces (length later.nodes) b (place_of b) final
      index_after e settles written =
          let left = indexes_left (sound_after whole view o index there_now shape fits_now).valid (leaves whole view o index there_now shape fits_now) whole.index_of in
          none_left (is_after whole view o index there_now shape fits_now later nodes)
          (index_more (is_after whole view o index there_now shape fits_now later nodes) (λ _. false) o siblings_are (settle {place = place_of} left e settles) written)

      pub type_after : (from_last : Bool) {old longer settled final : List ℕ} → ArePlaces last (doc whole view o index there_now shape fits_now)
          (place_of_type (doc whole view o index there_now shape fits_now) from_last) old
          → longer ≡ old ++ replicate m 0 → Settles later last (last + m) lists (λ doc. place_of_type doc from_last) longer settled
          → AreWritten (type_place (listed later.nodes) from_last siblings) siblings settled final → ArePlaces (length later.nodes) b (place_of_type b from_last) final
      type_after from_last were e settles written =
          let left = types_left (sound_after whole view o index there_now shape fits_now).valid (leaves whole view o index there_now shape fits_now) from_last were in
          none_left (is_after whole view o index there_now shape fits_now later nodes)
          (type_more (is_after whole view o index there_now shape fits_now later nodes) (λ _. false) o siblings_are from_last
          (settle {place = λ doc. place_of_type doc from_last} left e settles) written)

-- the labels of all nodes
pub labels_after : {table mid later : Table} {lists longer : List (List Characters)} {labels made all : List Label} {list : List Node} {last : ℕ} (o : ℕ) → AreLabels table lists labels
    → AreLabels mid longer made → mid.nodes ≡ list → last ≡ length table.nodes → KeepsTexts table.names later.names → KeepsTexts mid.names later.names
    → ((k : ℕ) (l : List Characters) → slice_get lists k ≡ Some l → slice_get longer k ≡ Some l) → later.nodes ≡ table.nodes ++ map (kept_node last o) list → all ≡ labels ++ made
    → AreLabels later longer all
labels_after {table} {mid} {later} {lists} {longer} {labels} {made} {all} {list} {last} o are new same so_many texts more also nodes e = record {
  count = omega (
    arith,
    ap length e,
    length-append labels made,
    are.count,
    new.count,
    ap length same,
    ap length nodes,
    length-append table.nodes (map (kept_node last o) list),
    length-map list (kept_node last o),
  );
  each = λ i l. elim (cases_lt i (length labels)) [
    | inl old ↦
        still_labelled table lists labels i later longer all (ap (λ l. slice_get l i) e ∙ get_left labels made i old)
        (ap (λ l. slice_get l i) nodes ∙ get_left table.nodes (map (kept_node last o) list) i (omega (arith, old, are.count))) (λ label node is. label_more texts also is) (are.each i old)
    | inr behind ↦
        let k : ℕ = i - length labels in
        let here : k < length made = omega (arith, l, behind, ap length e, length-append labels made) in
        let place : i ≡ length labels + k = omega (arith, behind) in
        let (label, at) = slice_get_some made k here in
        let (node, there) = slice_get_some mid.nodes k (omega (arith, here, new.count)) in
        let is = at_some (IsLabelOf mid.names longer label) there (at_some (λ label. IfSome (slice_get mid.nodes k) (IsLabelOf mid.names longer label)) at (new.each k here)) in
        let moved = label_more more (λ k l h. h) is in
        labelled_at later longer all i (ap (λ l. slice_get l i) e ∙ (ap (slice_get (labels ++ made)) place ∙ (get_behind labels made k ∙ at)))
        (ap (λ l. slice_get l i) nodes ∙ (ap (slice_get (table.nodes ++ map (kept_node last o) list)) (place ∙ ap (λ n. n + k) are.count)
        ∙ (get_behind table.nodes (map (kept_node last o) list) k ∙ (slice_get-map (kept_node last o) list k ∙ ap (option_map (kept_node last o)) (sym (ap (λ l. slice_get l k) same) ∙ there)))))
        (record { id = moved.id; named = moved.named; classes = moved.classes; listed = moved.listed })
  ];
}

-- what was done: after `last` nodes these m were put in
pub record IsInsertion (p q : Parts) (o index : ℕ) (list : List Node) (last m : ℕ) (mid : List Characters) (place count : ℕ) (run : List ℕ) (found : List (List ℕ)) (made : List Label)
    (siblings : List ℕ) : Type 0 where
  pub nodes : q.table.nodes ≡ p.table.nodes ++ map (kept_node (length p.table.nodes) o) list
  pub more : HasMore p.table.names p.lists mid q.lists q.cuts
  pub tags : AllByRecursion (λ node. HasNameBelow mid (length mid) node.tag) list
  pub labels : AreLabels (record { names = mid; nodes = list }) q.lists made
  pub texts : KeepsTexts mid q.table.names
  pub once : StandOnce q.table.names
  pub room : length q.tally ≡ length mid
  pub zeros : AreZeros q.table.names q.tally
  pub all_labels : q.labels ≡ p.labels ++ made
  pub present : q.present ≡ p.present ++ replicate m true
  pub count_is : count ≡ length p.order
  pub run_is : run ≡ tree_order list
  pub order : q.order ≡ turned place (count + m) (count - place) (p.order ++ map (raised last) run)
  pub parts : AreParts q.flat q.spans
  pub found_is : AreChildren (length list) (listed list) found
  pub put : IfSome (slice_get (lists_of p.flat p.spans ++ map (map (raised last)) found) (o - 1)) (λ own. lists_of q.flat q.spans
      ≡ slice_set (lists_of p.flat p.spans ++ map (map (raised last)) found) (o - 1) (list_with index (last + 1) own))
  pub read : slice_get (lists_of q.flat q.spans) (o - 1) ≡ Some siblings

-- the places that were written, of all new elements and then of the children of their parent
pub record ArePlacesPut (later : Table) (last m : ℕ) (lists : List (List ℕ)) (place : List Element → ℕ → ℕ) (value : ℕ → ℕ) (siblings old final : List ℕ) : Type 0 where
  pub longer : List ℕ
  pub settled : List ℕ
  pub longer_is : longer ≡ old ++ replicate m 0
  pub settles : Settles later last (last + m) lists place longer settled
  pub written : AreWritten value siblings settled final

module _ {p : Parts} {now : Document} (whole : IsWhole p) (view : AreSeenAs p now) (o index : ℕ) {list : List Node} (there_now : IsElement now.elements o) (shape : IsNodeList list)
    (fits_now : now.last + length list ≤ number_limit) {last m : ℕ} (last_is : last ≡ length p.table.nodes) (m_is : m ≡ length list) where
  -- the lists, once those of the nodes were appended and the root was put in
  module _ {found : List (List ℕ)} (found_is : AreChildren (length list) (listed list) found) (all : List (List ℕ))
      (all_is : all ≡ lists_of p.flat p.spans ++ map (map (raised last)) found) where
    pub parent_low : 0 < o
    parent_low = (whole.sound.given o (there whole view o index there_now shape fits_now)).0

    pub parent_high : o ≤ length all
    parent_high = omega (
      arith,
      ap length all_is,
      length-append (lists_of p.flat p.spans) (map (map (raised last)) found),
      whole.children_of.count,
      whole.sound.given o (there whole view o index there_now shape fits_now),
    )

    pub parent_told : (P : List ℕ → Type 0) → P (children now.elements o) → IfSome (slice_get all (o - 1)) P
    parent_told P h =
        let within = whole.sound.given o (there whole view o index there_now shape fits_now) in
        if_some P (ap (λ l. slice_get l (o - 1)) all_is ∙ (get_left (lists_of p.flat p.spans) (map (map (raised last)) found) (o - 1) (omega (arith, within, whole.children_of.count))
        ∙ whole.children_of.each o (there whole view o index there_now shape fits_now))) (subst (λ (d : Document). P (children d.elements o)) (sym view) h)

    module _ (lists : List (List ℕ)) (put : IfSome (slice_get all (o - 1)) (λ own. lists ≡ slice_set all (o - 1) (list_with index (last + 1) own))) where
      put_exact : IfSome (slice_get (lists_of p.flat p.spans ++ map (map (raised (length p.table.nodes))) found) (o - 1)) (λ own. lists
          ≡ slice_set (lists_of p.flat p.spans ++ map (map (raised (length p.table.nodes))) found) (o - 1) (list_with index (length p.table.nodes + 1) own))
      put_exact = subst (λ k. IfSome (slice_get (lists_of p.flat p.spans ++ map (map (raised k)) found) (o - 1)) (λ own. lists
          ≡ slice_set (lists_of p.flat p.spans ++ map (map (raised k)) found) (o - 1) (list_with index (k + 1) own))) last_is
          (subst (λ l. IfSome (slice_get l (o - 1)) (λ own. lists ≡ slice_set l (o - 1) (list_with index (last + 1) own))) all_is put)

      pub lists_after : AreChildren (length p.table.nodes + length list) (after whole view o index there_now shape fits_now) lists
      lists_after = children_after whole view o index there_now shape fits_now lists found_is put_exact

      pub lists_long : length lists ≡ last + m
      lists_long = lists_after.count ∙ (λ i. sym last_is i + sym m_is i)

module _ {p q : Parts} {now : Document} (whole : IsWhole p) (view : AreSeenAs p now) (o index : ℕ) {list : List Node} (there_now : IsElement now.elements o) (shape : IsNodeList list)
    (fits_now : now.last + length list ≤ number_limit) {last m : ℕ} (last_is : last ≡ length p.table.nodes) (m_is : m ≡ length list) where
  -- after all
  module _ (few_now : length now.elements + length list ≤ element_limit) {mid : List Characters} {place count : ℕ} {run : List ℕ} {found : List (List ℕ)} {made : List Label} {siblings : List ℕ}
      (was : IsInsertion p q o index list last m mid place count run found made siblings) (place_now : place ≡ spot now.elements o index) where
    is : IsInsertion p q o index list (length p.table.nodes) (length list) mid place count run found made siblings
    is = subst₂ (λ k j. IsInsertion p q o index list k j mid place count run found made siblings) last_is m_is was

    abbrev grown : List Element
    grown = after whole view o index there_now shape fits_now

    abbrev ArePut : (List Element → ℕ → ℕ) → (ℕ → ℕ) → List ℕ → List ℕ → Type 0
    ArePut place value old final = ArePlacesPut q.table last m (lists_of q.flat q.spans) place value siblings old final

    exactly : {place : List Element → ℕ → ℕ} {value : ℕ → ℕ} {old final : List ℕ} → ArePlacesPut q.table last m (lists_of q.flat q.spans) place value siblings old final
        → ArePlacesPut q.table (length p.table.nodes) (length list) (lists_of q.flat q.spans) place value siblings old final
    exactly {place} {value} {old} {final} h = subst₂ (λ k j. ArePlacesPut q.table k j (lists_of q.flat q.spans) place value siblings old final) last_is m_is h

    module _ (indexes_was : ArePut place_of (index_among siblings) p.index q.index)
        (befores_was : ArePut (λ doc. place_of_type doc false) (type_place (listed q.table.nodes) false siblings) p.before q.before)
        (afters_was : ArePut (λ doc. place_of_type doc true) (type_place (listed q.table.nodes) true siblings) p.after q.after) where
      kept_after : IsKept q grown
      kept_after =
          let many = so_many whole view o index there_now shape fits_now q.table is.nodes in
          let order = order_after whole view o index there_now shape fits_now q.table is.nodes place_now is.count_is is.run_is is.order in
          let children = children_after whole view o index there_now shape fits_now (lists_of q.flat q.spans) is.found_is is.put in
          let indexes = exactly indexes_was in
          let befores = exactly befores_was in
          let afters = exactly afters_was in
          record {
            few = omega (arith, few_now, length_after whole view o index there_now shape fits_now, ap length order, length-map grown (λ (e : Element). e.number));
            given = omega (arith, many, fits whole view o index there_now shape fits_now);
            sound = subst (λ n. IsSound (record { elements = grown; last = n })) (sym many) (sound_after whole view o index there_now shape fits_now);
            listed = order;
            known = subst (λ n. ArePresent n grown q.present) (sym many) (present_after whole view o index there_now shape fits_now is.present);
            apart = is.parts;
            children_of = subst (λ n. AreChildren n grown (lists_of q.flat q.spans)) (sym many) children;
            index_of = index_after whole view o index there_now shape fits_now q.table is.nodes children is.read indexes.longer_is indexes.settles indexes.written;
            before_of = type_after whole view o index there_now shape fits_now q.table is.nodes children is.read false whole.before_of befores.longer_is befores.settles befores.written;
            after_of = type_after whole view o index there_now shape fits_now q.table is.nodes children is.read true whole.after_of afters.longer_is afters.settles afters.written;
            zeros = is.zeros;
            tags = tag_after whole view o index there_now shape fits_now q.table is.nodes mid is.more.texts is.texts is.room is.tags;
            once = is.once;
            labels_of = labels_after o whole.labels_of is.labels refl refl (KeepsTexts-more p.table.names mid q.table.names is.more.texts is.texts) is.texts is.more.also is.nodes is.all_labels;
            cuts_of = cuts_more is.texts (λ k l h. h) is.more.cut;
          }

      pub inserted_whole : IsWhole q
      inserted_whole = subst (IsKept q) (sym (same_elements whole view o index there_now shape fits_now q.table is.nodes place_now is.count_is is.run_is is.order)) kept_after
