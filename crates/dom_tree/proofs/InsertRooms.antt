-- What the steps of an insertion ask for: room, numbers within the lists, siblings whose tags have names.
use Rattle.std.proofs.Common.{◌≡◌, ℕ, ◌+◌, ◌-◌, ◌<◌, ◌≤◌, ◌^◌, List, ◌++◌, map, take, length, slice_get, slice_set, Some, IfSome, sym, ap, ◌∙◌, subst, subst₂, arith, length-append}
use Rattle.std.specs.List.{AllByRecursion}
use Rattle.std.proofs.Math.ListN.{replicate}
use Rattle.std.proofs.lemmas.List.{length-map}
use Rattle.base_model.specs.Limits.{number_limit}
use Rattle.stylo_base.specs.NameList.{StandOnce}
use Rattle.scene_model.specs.Document.{Document}
use Rattle.scene_model.specs.Element.{Characters, Element}
use Rattle.scene_model.specs.Lookups.{IsElement, children, is_element}
use Rattle.scene_model.specs.Nodes.{Node, IsNodeList, listed, tree_order}
use Rattle.scene_model.proofs.TreeOrder.{length-tree_order}
use Rattle.change_model.specs.ChildLists.{spot}
use Rattle.change_model.proofs.Spots.{IsSpot-spot}
use Rattle.dom_tree.specs.declared.span.Span.{Span}
use Rattle.dom_tree.specs.ChildLists.{AreChildren, list_with, lists_of}
use Rattle.dom_tree.specs.Kept.{KeepsTexts, Table, kept_node, part_of}
use Rattle.dom_tree.specs.SiblingPlaces.{AreAllSiblings, AreSiblings, AreZeros, HasNameBelow, HasTagBelow}
use Rattle.dom_tree.specs.Turned.{raised}
use Rattle.dom_tree.specs.Whole.{IsWhole, Parts, in_order}
use Rattle.dom_tree.proofs.ChangeLemmas.{zeros_more}
use Rattle.dom_tree.proofs.DocEditLemmas.{more_whole}
use Rattle.dom_tree.proofs.InsertedDocument.{after, is_after, sound_after, there}
use Rattle.dom_tree.proofs.InsertedPlaces.{listed_after, lists_after, lists_long, named_after, parent_high, parent_told, siblings_are}
use Rattle.dom_tree.proofs.Parts.{AreSeenAs}
use Rattle.dom_tree.proofs.RoomLemmas.{more_again, zeros_grown}
use Rattle.dom_tree.proofs.SettleLemmas.{all_siblings, are_siblings}

-- room

-- the numbers of a list in tree order are as many as its nodes
pub run_long : (list : List Node) {shown run : List ℕ} {m : ℕ} → IsNodeList list → shown ≡ run → run ≡ tree_order list → m ≡ length list → length shown ≡ m
run_long list shape shown_is run_is m_is = ap length (shown_is ∙ run_is) ∙ (length-tree_order list shape ∙ sym m_is)

-- a list to which numbers were appended is as much longer
pub more_long : (f : ℕ → ℕ) (old numbers : List ℕ) {new : List ℕ} {count size : ℕ} → new ≡ old ++ map f numbers → count ≡ length old → length numbers ≡ size → count + size ≤ length new
more_long f old numbers e a b = omega (arith, ap length e, length-append old (map f numbers), length-map numbers f, a, b)

-- where items were appended there is still room for those of another list and one more
module _ (was now found own items : ℕ) (so_far : now ≡ was + found) (all : items ≡ found + own + 1) where
  pub room_left : (cap cap_now : ℕ) → was + items ≤ cap → cap_now ≡ cap → now + own + 1 ≤ cap_now
  room_left cap cap_now room same = omega (arith, so_far, all, room, same)

  pub still_few : was + items < 2 ^ 32 → now + own + 1 < 2 ^ 32
  still_few few = omega (arith, so_far, all, few)

-- the place in tree order at which something is put in
pub spot_within : {p : Parts} {now : Document} → IsWhole p → AreSeenAs p now → (o index : ℕ) → IsElement now.elements o
    → {place count : ℕ} → place ≡ spot now.elements o index → count ≡ length p.order → place ≤ count
spot_within {p} whole view o index there_now place_now count_is =
    let doc : List Element = in_order p.table.nodes p.order in
    let there = ap (λ (d : Document). is_element d.elements o) view ∙ there_now in
    omega (
      arith,
      place_now ∙ ap (λ (d : Document). spot d.elements o index) (sym view),
      count_is,
      ap length (sym whole.listed) ∙ length-map doc (λ (e : Element). e.number),
      (IsSpot-spot doc whole.sound.valid whole.sound.runs o there index).within,
    )

pub part_within : {place count : ℕ} (size : ℕ) → place ≤ count → place + (count - place) ≤ count + size
part_within size l = omega (arith, l)

-- what is kept, once there are more names
pub names_whole : {p : Parts} {later : Table} → IsWhole p → KeepsTexts p.table.names later.names → StandOnce later.names → later.nodes ≡ p.table.nodes → IsWhole (record p { table = later })
names_whole whole texts once e = more_whole whole (more_again whole texts once) e

-- the tally, made longer for more names
pub zeros_after : {names : List Characters} (mid : List Characters) {old new : List ℕ} {n k : ℕ} → AreZeros names old → KeepsTexts names mid → n ≡ length mid → k ≡ length old
    → new ≡ take n old ++ replicate (n - k) 0 → AreZeros mid new × (length new ≡ length mid) × (length old ≤ length new)
zeros_after {names} mid zeros texts n_is k_is is =
    let more = zeros_more names mid texts zeros in
    let (grown, long) = zeros_grown more n_is k_is is in
    (grown, long, omega (arith, long, more.few))

-- the lists, once those of the nodes were appended: `flat` and `spans`; `room` are those for which room was made
module _ {p : Parts} {now : Document} (whole : IsWhole p) (view : AreSeenAs p now) (o index : ℕ) {list : List Node} (there_now : IsElement now.elements o) (shape : IsNodeList list)
    (fits_now : now.last + length list ≤ number_limit) {last m : ℕ} (last_is : last ≡ length p.table.nodes) (m_is : m ≡ length list)
    {found : List (List ℕ)} (found_is : AreChildren (length list) (listed list) found) {room : List (List ℕ)} (room_is : room ≡ lists_of p.flat p.spans)
    (flat : List ℕ) (spans : List Span) (appended : lists_of flat spans ≡ room ++ map (map (raised last)) found) where
  abbrev all : List (List ℕ)
  all = lists_of flat spans

  all_is : all ≡ lists_of p.flat p.spans ++ map (map (raised last)) found
  all_is = appended ∙ ap (λ l. l ++ map (map (raised last)) found) room_is

  pub parent_within : o ≤ length spans
  parent_within = subst (λ n. o ≤ n) (length-map spans (part_of flat)) (parent_high whole view o index there_now shape fits_now last_is m_is found_is all all_is)

  pub own_told : (P : List ℕ → Type 0) → P (children now.elements o) → IfSome (slice_get all (o - 1)) P
  own_told = parent_told whole view o index there_now shape fits_now last_is m_is found_is all all_is

  -- and once the root was put into that of its parent
  module _ (flat_after : List ℕ) (spans_after : List Span)
      (put : IfSome (slice_get all (o - 1)) (λ own. lists_of flat_after spans_after ≡ slice_set all (o - 1) (list_with index (last + 1) own))) where
    abbrev lists : List (List ℕ)
    lists = lists_of flat_after spans_after

    are : AreChildren (length p.table.nodes + length list) (after whole view o index there_now shape fits_now) lists
    are = lists_after whole view o index there_now shape fits_now last_is m_is found_is all all_is lists put

    long : length spans_after ≡ last + m
    long = sym (length-map spans_after (part_of flat_after)) ∙ lists_long whole view o index there_now shape fits_now last_is m_is found_is all all_is lists put

    pub all_within : last + m ≤ length spans_after
    all_within = omega (arith, long)

    pub parent_still : o ≤ length spans_after
    parent_still = omega (arith, long, last_is, whole.sound.given o (there whole view o index there_now shape fits_now))

    -- where the nodes are there too, and the tags of the list have names
    module _ (later : Table) {before shown : List Node} (before_is : before ≡ p.table.nodes) (shown_is : shown ≡ list) (nodes_are : later.nodes ≡ before ++ map (kept_node (length before) o) shown)
        (mid : List Characters) (texts : KeepsTexts p.table.names mid) (more : KeepsTexts mid later.names) {places : ℕ} (places_are : places ≡ length mid)
        (tags : AllByRecursion (λ node. HasNameBelow mid (length mid) node.tag) shown) where
      nodes : later.nodes ≡ p.table.nodes ++ map (kept_node (length p.table.nodes) o) list
      nodes = nodes_are ∙ (λ i. before_is i ++ map (kept_node (length (before_is i)) o) (shown_is i))

      named : (x : ℕ) → IsElement (after whole view o index there_now shape fits_now) x → HasTagBelow (listed later.nodes) later.names places x
      named =
          named_after whole view o index there_now shape fits_now later nodes mid texts more places_are
          (subst (AllByRecursion (λ (node : Node). HasNameBelow mid (length mid) node.tag)) shown_is tags)

      pub each_siblings : AreAllSiblings later places last (last + m) lists
      each_siblings =
          subst₂ (λ k j. AreAllSiblings later places k (k + j) lists) (sym last_is) (sym m_is)
          (all_siblings (after whole view o index there_now shape fits_now) (listed_after whole view o index there_now shape fits_now later nodes are) named)

      pub own_siblings : {siblings : List ℕ} → slice_get lists (o - 1) ≡ Some siblings → AreSiblings (length later.nodes) (listed later.nodes) later.names places siblings
      own_siblings read =
          are_siblings later (after whole view o index there_now shape fits_now) (sound_after whole view o index there_now shape fits_now).valid
          (is_after whole view o index there_now shape fits_now later nodes).given named o (siblings_are whole view o index there_now shape fits_now later nodes are read)
