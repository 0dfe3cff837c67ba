use Rattle.std.proofs.Common.{◌≡◌, ℕ, ◌+◌, ◌-◌, ◌<◌, ◌≤◌, ◌++◌, ◌^◌, List, IfSome, true, false, ap, arith, length, length-append, map, refl, slice_get, slice_set, subst, sym, ◌∙◌}
use Rattle.std.specs.List.{AllByRecursion}
use Rattle.std.proofs.Math.ListN.{replicate}
use Rattle.std.proofs.lemmas.List.{length-map, length-replicate}
use Rattle.base_model.proofs.Results.{on_err}
use Rattle.scene_model.specs.Document.{Document}
use Rattle.scene_model.specs.Lookups.{IsElement, is_element, place_of, place_of_type}
use Rattle.scene_model.specs.Nodes.{IsNodeList, Node, listed}
use Rattle.dom_tree.specs.ChildLists.{list_with, lists_of}
use Rattle.dom_tree.specs.Kept.{kept_node, part_of}
use Rattle.dom_tree.specs.Labels.{AreLabels}
use Rattle.dom_tree.specs.SiblingPlaces.{AreZeros, HasNameBelow, index_among, type_place}
use Rattle.dom_tree.specs.Turned.{raised, turned}
use Rattle.dom_tree.specs.Whole.{IsWhole, Parts}
use Rattle.dom_tree.proofs.ChangeLemmas.{zeros_more}
use Rattle.dom_tree.proofs.DocEditLemmas.{more_whole}
use Rattle.dom_tree.proofs.InsertRooms.{all_within, each_siblings, more_long, names_whole, own_siblings, own_told, parent_still, parent_within, part_within, room_left}
use Rattle.dom_tree.proofs.InsertRooms.{run_long, spot_within, still_few}
use Rattle.dom_tree.proofs.InsertedDocument.{document_after}
use Rattle.dom_tree.proofs.InsertedPlaces.{ArePlacesPut, IsInsertion, inserted_whole}
use Rattle.dom_tree.proofs.Parts.{AreSeenAs}
use Rattle.dom_tree.proofs.RoomLemmas.{all_room, document_same, is_more, widened}
use Rattle.dom_tree.proofs.doc.Doc.insert.Goals as goal

-- the number of the parent is from 1
parent_low : {p : Parts} {now : Document} → IsWhole p → AreSeenAs p now → (o : ℕ) → IsElement now.elements o → 0 < o
parent_low whole view o there = (whole.sound.given o (ap (λ (d : Document). is_element d.elements o) view ∙ there)).0

-- there are as many places as nodes, once there are more of both
still_room : {old mid now list shown : List Node} (f : Node → Node) {places kept longer : List ℕ} {size : ℕ} → now ≡ mid ++ map f shown → mid ≡ old → shown ≡ list → size ≡ length list
    → longer ≡ kept ++ replicate size 0 → kept ≡ places → length places ≡ length old → length now ≤ length longer
still_room {mid = mid} {shown = shown} f {kept = kept} {size = size} nodes mid_is shown_is size_is longer_is kept_is many = omega (
  arith,
  ap length nodes,
  length-append mid (map f shown),
  length-map shown f,
  ap length mid_is,
  ap length shown_is,
  size_is,
  ap length longer_is,
  length-append kept (replicate size 0),
  length-replicate {A = ℕ} size 0,
  ap length kept_is,
  many,
)

-- what the steps ask for

pub order_nodes-requires : goal.order_nodes-requires
order_nodes-requires c = omega (arith, c.requires.few)

pub make_room-requires : goal.make_room-requires
make_room-requires c = c.self.invariant.apart

pub label_more-requires-clause-once : goal.label_more-requires-clause-once
label_more-requires-clause-once c = c.self.invariant.once

pub label_more-requires-clause-cuts : goal.label_more-requires-clause-cuts
label_more-requires-clause-cuts c = c.self.invariant.cuts_of

pub append-requires-clause-few : goal.append-requires-clause-few
append-requires-clause-few c = omega (arith, c.requires.given, ap (λ (d : Document). d.last) c.self.view_is, ap length c.label_more.ensures.nodes, ap length c.columns-list.ensures.nodes)

pub append-requires-clause-shape : goal.append-requires-clause-shape
append-requires-clause-shape c = subst IsNodeList (sym c.columns-list.ensures.nodes) c.columns-list.ensures.shape

pub append-requires-clause-low : goal.append-requires-clause-low
append-requires-clause-low c = parent_low c.self.invariant c.self.view_is c.args.parent c.requires.there

pub append-requires-clause-once : goal.append-requires-clause-once
append-requires-clause-once c = c.label_more.ensures.more.once

pub append_labels-requires : goal.append_labels-requires
append_labels-requires c =
    omega (arith, c.in_ok-make_room.ensures.room_labels, ap length c.deref.ensures.value, c.in_ok-labels.ensures.labels.count, ap length c.columns-list.ensures.nodes, c.len-size.ensures.count)

pub append_present-requires : goal.append_present-requires
append_present-requires c = c.in_ok-make_room.ensures.room_present

pub lengthen-requires-clause-index : goal.lengthen-requires-clause-index
lengthen-requires-clause-index c = c.in_ok-make_room.ensures.room_index

pub lengthen-requires-clause-before : goal.lengthen-requires-clause-before
lengthen-requires-clause-before c = c.in_ok-make_room.ensures.room_before

pub lengthen-requires-clause-after : goal.lengthen-requires-clause-after
lengthen-requires-clause-after c = c.in_ok-make_room.ensures.room_after

pub overflow_cast-last : goal.overflow_cast-last
overflow_cast-last c = omega (arith, c.len-last.ensures, c.self.invariant.given)

pub overflow_cast-last-2 : goal.overflow_cast-last-2
overflow_cast-last-2 c = omega (arith, c.len-last.ensures, c.self.invariant.given)

pub overflow_cast-last-3 : goal.overflow_cast-last-3
overflow_cast-last-3 c = omega (arith, c.len-last.ensures, c.self.invariant.given)

pub overflow_add-last : goal.overflow_add-last
overflow_add-last c = omega (arith, c.len-last.ensures, c.self.invariant.given)

pub append-requires-2-clause-parts : goal.append-requires-2-clause-parts
append-requires-2-clause-parts c = c.make_room.ensures.parts

pub append-requires-2-clause-found : goal.append-requires-2-clause-found
append-requires-2-clause-found c = c.in_ok-found.ensures.parts

pub append-requires-2-clause-room_spans : goal.append-requires-2-clause-room_spans
append-requires-2-clause-room_spans c =
    omega (
      arith,
      c.in_ok-make_room.ensures.room_spans,
      c.in_ok-found.ensures.children.count,
      length-map c.in_ok-found.found.spans.items (part_of c.in_ok-found.found.flat.items),
      c.len-size.ensures.count,
    )

pub append-requires-2-clause-room_flat : goal.append-requires-2-clause-room_flat
append-requires-2-clause-room_flat c = omega (arith, c.in_ok-make_room.ensures.room_flat, c.len.ensures, c.in_ok-found.found.flat.ok.0)

pub append-requires-2-clause-few : goal.append-requires-2-clause-few
append-requires-2-clause-few c = omega (arith, c.in_ok-make_room.ensures.few, c.len.ensures, c.in_ok-found.found.flat.ok.0)

pub put_in-requires-clause-parts : goal.put_in-requires-clause-parts
put_in-requires-clause-parts c = c.append-2.ensures.parts

pub put_in-requires-clause-low : goal.put_in-requires-clause-low
put_in-requires-clause-low c = parent_low c.self.invariant c.self.view_is c.args.parent c.requires.there

pub overflow_add-count : goal.overflow_add-count
overflow_add-count c = omega (arith, c.len-count.ensures, c.self.inside.order.ok.0, c.self.invariant.few, c.len-size.ensures.count, c.requires.few)

pub overflow_add-last-2 : goal.overflow_add-last-2
overflow_add-last-2 c = omega (arith, c.len-last.ensures, c.self.invariant.given, c.len-size.ensures.count, c.requires.few)

pub settle_all-requires-clause-once : goal.settle_all-requires-clause-once
settle_all-requires-clause-once c = c.append.ensures.once

pub settle_all-requires-clause-parts : goal.settle_all-requires-clause-parts
settle_all-requires-clause-parts c = c.put_in.ensures.parts

pub settle_all-requires-clause-order : goal.settle_all-requires-clause-order
settle_all-requires-clause-order c = omega arith

pub settle_all-requires-clause-few : goal.settle_all-requires-clause-few
settle_all-requires-clause-few c = omega (arith, c.len-last.ensures, ap (λ (d : Document). d.last) c.self.view_is, c.requires.given, c.len-size.ensures.count)

pub settle_all-requires-clause-room_index : goal.settle_all-requires-clause-room_index
settle_all-requires-clause-room_index c =
    still_room _ c.in_ok-append.ensures.ok c.label_more.ensures.nodes c.columns-list.ensures.nodes c.len-size.ensures.count
    c.lengthen.ensures.index c.make_room.ensures.index c.self.invariant.index_of.count

pub settle_all-requires-clause-room_before : goal.settle_all-requires-clause-room_before
settle_all-requires-clause-room_before c =
    still_room _ c.in_ok-append.ensures.ok c.label_more.ensures.nodes c.columns-list.ensures.nodes c.len-size.ensures.count
    c.lengthen.ensures.before c.make_room.ensures.before c.self.invariant.before_of.count

pub settle_all-requires-clause-room_after : goal.settle_all-requires-clause-room_after
settle_all-requires-clause-room_after c =
    still_room _ c.in_ok-append.ensures.ok c.label_more.ensures.nodes c.columns-list.ensures.nodes c.len-size.ensures.count
    c.lengthen.ensures.after c.make_room.ensures.after c.self.invariant.after_of.count

pub of-requires-clause-parts : goal.of-requires-clause-parts
of-requires-clause-parts c = c.put_in.ensures.parts

pub of-requires-clause-low : goal.of-requires-clause-low
of-requires-clause-low c = parent_low c.self.invariant c.self.view_is c.args.parent c.requires.there

pub settle-requires-clause-once : goal.settle-requires-clause-once
settle-requires-clause-once c = c.append.ensures.once

pub settle-requires-clause-few : goal.settle-requires-clause-few
settle-requires-clause-few c = c.of.ensures.few

pub settle-requires-clause-tally : goal.settle-requires-clause-tally
settle-requires-clause-tally c = c.settle_all.ensures.tally

pub settle-requires-clause-room_index : goal.settle-requires-clause-room_index
settle-requires-clause-room_index c =
    omega (
      arith,
      c.settle_all.ensures.index.count,
      still_room _ c.in_ok-append.ensures.ok c.label_more.ensures.nodes c.columns-list.ensures.nodes c.len-size.ensures.count c.lengthen.ensures.index
          c.make_room.ensures.index c.self.invariant.index_of.count,
    )

pub settle-requires-clause-room_before : goal.settle-requires-clause-room_before
settle-requires-clause-room_before c =
    omega (
      arith,
      c.settle_all.ensures.before.count,
      still_room _ c.in_ok-append.ensures.ok c.label_more.ensures.nodes c.columns-list.ensures.nodes c.len-size.ensures.count c.lengthen.ensures.before
          c.make_room.ensures.before c.self.invariant.before_of.count,
    )

pub settle-requires-clause-room_after : goal.settle-requires-clause-room_after
settle-requires-clause-room_after c =
    omega (
      arith,
      c.settle_all.ensures.after.count,
      still_room _ c.in_ok-append.ensures.ok c.label_more.ensures.nodes c.columns-list.ensures.nodes c.len-size.ensures.count c.lengthen.ensures.after
          c.make_room.ensures.after c.self.invariant.after_of.count,
    )

-- room: memory ran out
pub invariant_of-self : goal.invariant_of-self
invariant_of-self c =
    all_room c.self.invariant c.make_room.ensures.parts c.make_room.ensures.lists c.make_room.ensures.index c.make_room.ensures.before c.make_room.ensures.after
    c.make_room.ensures.tally c.make_room.ensures.labels c.make_room.ensures.order c.make_room.ensures.present

pub returns-in_err-make_room-clause-err : goal.returns-in_err-make_room-clause-err
returns-in_err-make_room-clause-err c = on_err _ _ (document_same c.self.inside.columns c.self.inside.columns refl c.make_room.ensures.order ∙ c.self.view_is)

-- names, labels, the tally
pub label_more-requires-clause-zeros : goal.label_more-requires-clause-zeros
label_more-requires-clause-zeros c = subst (AreZeros c.self.inside.columns.names) (sym c.make_room.ensures.tally) c.self.invariant.zeros

pub invariant_of-self-in_err-labels : goal.invariant_of-self-in_err-labels
invariant_of-self-in_err-labels c =
    widened (more_whole
    (all_room c.self.invariant c.make_room.ensures.parts c.make_room.ensures.lists c.make_room.ensures.index c.make_room.ensures.before c.make_room.ensures.after
    c.make_room.ensures.tally c.make_room.ensures.labels c.make_room.ensures.order c.make_room.ensures.present)
    (is_more c.label_more.ensures.more) c.label_more.ensures.nodes) c.label_more.ensures.zeros c.label_more.ensures.longer

-- rows
pub invariant_of-self-in_err-append : goal.invariant_of-self-in_err-append
invariant_of-self-in_err-append c =
    names_whole (widened (more_whole
    (all_room c.self.invariant c.make_room.ensures.parts c.make_room.ensures.lists c.make_room.ensures.index c.make_room.ensures.before c.make_room.ensures.after
    c.make_room.ensures.tally c.make_room.ensures.labels c.make_room.ensures.order c.make_room.ensures.present)
    (is_more c.label_more.ensures.more) c.label_more.ensures.nodes) c.label_more.ensures.zeros c.label_more.ensures.longer)
    c.append.ensures.kept c.append.ensures.once c.in_err-append.ensures.err

-- the lists, with those of the nodes, and then with the root in that of its parent
pub put_in-requires-clause-high : goal.put_in-requires-clause-high
put_in-requires-clause-high c =
    parent_within c.self.invariant c.self.view_is c.args.parent c.args.index c.requires.there c.in_ok-found.ensures.shape c.requires.given c.len-last.ensures c.len-size.ensures.count
    c.in_ok-found.ensures.children c.make_room.ensures.lists c.append-2.new.self.flat.items c.append-2.new.self.spans.items c.append-2.ensures.lists

pub put_in-requires-clause-index : goal.put_in-requires-clause-index
put_in-requires-clause-index c =
    own_told c.self.invariant c.self.view_is c.args.parent c.args.index c.requires.there c.in_ok-found.ensures.shape c.requires.given c.len-last.ensures c.len-size.ensures.count
    c.in_ok-found.ensures.children c.make_room.ensures.lists c.append-2.new.self.flat.items c.append-2.new.self.spans.items c.append-2.ensures.lists
    (λ list. c.args.index ≤ length list) c.requires.index

pub put_in-requires-clause-room : goal.put_in-requires-clause-room
put_in-requires-clause-room c =
    own_told c.self.invariant c.self.view_is c.args.parent c.args.index c.requires.there c.in_ok-found.ensures.shape c.requires.given c.len-last.ensures c.len-size.ensures.count
    c.in_ok-found.ensures.children c.make_room.ensures.lists c.append-2.new.self.flat.items c.append-2.new.self.spans.items c.append-2.ensures.lists
    (λ list. c.append-2.new.self.flat.len + length list + 1 ≤ c.append-2.new.self.flat.cap)
    (room_left _ _ _ _ _ c.append-2.ensures.len (λ i. (c.len.ensures ∙ c.in_ok-found.found.flat.ok.0) i + length (c.children.ensures.children i) + 1) _ _
    c.in_ok-make_room.ensures.room_flat c.append-2.ensures.capacity)

pub put_in-requires-clause-few : goal.put_in-requires-clause-few
put_in-requires-clause-few c =
    own_told c.self.invariant c.self.view_is c.args.parent c.args.index c.requires.there c.in_ok-found.ensures.shape c.requires.given c.len-last.ensures c.len-size.ensures.count
    c.in_ok-found.ensures.children c.make_room.ensures.lists c.append-2.new.self.flat.items c.append-2.new.self.spans.items c.append-2.ensures.lists
    (λ list. c.append-2.new.self.flat.len + length list + 1 < 2 ^ 32)
    (still_few _ _ _ _ _ c.append-2.ensures.len (λ i. (c.len.ensures ∙ c.in_ok-found.found.flat.ok.0) i + length (c.children.ensures.children i) + 1)
    c.in_ok-make_room.ensures.few)

pub settle_all-requires-clause-listed : goal.settle_all-requires-clause-listed
settle_all-requires-clause-listed c =
    all_within c.self.invariant c.self.view_is c.args.parent c.args.index c.requires.there c.in_ok-found.ensures.shape c.requires.given c.len-last.ensures c.len-size.ensures.count
    c.in_ok-found.ensures.children c.make_room.ensures.lists c.append-2.new.self.flat.items c.append-2.new.self.spans.items c.append-2.ensures.lists
    c.put_in.new.self.flat.items c.put_in.new.self.spans.items c.put_in.ensures.lists

pub of-requires-clause-high : goal.of-requires-clause-high
of-requires-clause-high c =
    parent_still c.self.invariant c.self.view_is c.args.parent c.args.index c.requires.there c.in_ok-found.ensures.shape c.requires.given c.len-last.ensures c.len-size.ensures.count
    c.in_ok-found.ensures.children c.make_room.ensures.lists c.append-2.new.self.flat.items c.append-2.new.self.spans.items c.append-2.ensures.lists
    c.put_in.new.self.flat.items c.put_in.new.self.spans.items c.put_in.ensures.lists

-- the order
pub append_raised-requires : goal.append_raised-requires
append_raised-requires c =
    subst (λ n. c.make_room.new.order.len + n ≤ c.make_room.new.order.cap)
    (sym (run_long c.args.nodes.now c.in_ok-found.ensures.shape c.deref-2.ensures.value c.in_ok-found.ensures.order c.len-size.ensures.count))
    c.in_ok-make_room.ensures.room_order

pub overflow_sub-count : goal.overflow_sub-count
overflow_sub-count c =
    spot_within c.self.invariant c.self.view_is c.args.parent c.args.index c.requires.there c.spot-spot.ensures (c.len-count.ensures ∙ c.self.inside.order.ok.0)

pub turn-requires-clause-within : goal.turn-requires-clause-within
turn-requires-clause-within c =
    more_long (raised c.len-last.result) c.make_room.new.order.items c.deref-2.result.now c.append_raised.ensures.items
    (c.len-count.ensures ∙ (c.self.inside.order.ok.0 ∙ sym (ap length c.make_room.ensures.order)))
    (run_long c.args.nodes.now c.in_ok-found.ensures.shape c.deref-2.ensures.value c.in_ok-found.ensures.order c.len-size.ensures.count)

pub turn-requires-clause-part : goal.turn-requires-clause-part
turn-requires-clause-part c =
    part_within c.len-size.result
    (spot_within c.self.invariant c.self.view_is c.args.parent c.args.index c.requires.there c.spot-spot.ensures (c.len-count.ensures ∙ c.self.inside.order.ok.0))

-- the places
pub settle_all-requires-clause-tally : goal.settle_all-requires-clause-tally
settle_all-requires-clause-tally c =
    subst (AreZeros c.append.new.self.names) (sym c.lengthen.ensures.tally)
    (zeros_more c.label_more.new.columns.names c.append.new.self.names c.append.ensures.kept c.label_more.ensures.zeros)

pub settle_all-requires-clause-siblings : goal.settle_all-requires-clause-siblings
settle_all-requires-clause-siblings c =
    let places = ap length c.lengthen.ensures.tally ∙ c.in_ok-labels.ensures.room in
    each_siblings c.self.invariant c.self.view_is c.args.parent c.args.index c.requires.there c.in_ok-found.ensures.shape c.requires.given c.len-last.ensures c.len-size.ensures.count
    c.in_ok-found.ensures.children c.make_room.ensures.lists c.append-2.new.self.flat.items c.append-2.new.self.spans.items c.append-2.ensures.lists
    c.put_in.new.self.flat.items c.put_in.new.self.spans.items c.put_in.ensures.lists
    c.append.new.self c.label_more.ensures.nodes c.columns-list.ensures.nodes c.in_ok-append.ensures.ok c.label_more.new.columns.names c.label_more.ensures.more.texts c.append.ensures.kept
    places c.in_ok-labels.ensures.tags

pub settle-requires-clause-siblings : goal.settle-requires-clause-siblings
settle-requires-clause-siblings c =
    let places = ap length c.lengthen.ensures.tally ∙ c.in_ok-labels.ensures.room in
    own_siblings c.self.invariant c.self.view_is c.args.parent c.args.index c.requires.there c.in_ok-found.ensures.shape c.requires.given c.len-last.ensures c.len-size.ensures.count
    c.in_ok-found.ensures.children c.make_room.ensures.lists c.append-2.new.self.flat.items c.append-2.new.self.spans.items c.append-2.ensures.lists
    c.put_in.new.self.flat.items c.put_in.new.self.spans.items c.put_in.ensures.lists
    c.append.new.self c.label_more.ensures.nodes c.columns-list.ensures.nodes c.in_ok-append.ensures.ok c.label_more.new.columns.names c.label_more.ensures.more.texts c.append.ensures.kept
    (c.settle_all.ensures.room ∙ places) c.in_ok-labels.ensures.tags c.of.ensures.list

-- the end
pub returns-clause-ok : goal.returns-clause-ok
returns-clause-ok c =
    let nodes = c.in_ok-append.ensures.ok ∙ (λ i. c.label_more.ensures.nodes i ++ map (kept_node (length (c.label_more.ensures.nodes i)) c.args.parent) (c.columns-list.ensures.nodes i)) in
    let count_is : c.len-count.result ≡ length c.make_room.new.order.items = omega (arith, c.len-count.ensures, c.self.inside.order.ok.0, ap length c.make_room.ensures.order) in
    let order = c.turn.ensures ∙ ((λ i. turned c.spot-spot.result (c.len-count.result + c.len-size.result) (c.len-count.result - c.spot-spot.result) (c.append_raised.ensures.items i))
    ∙ (λ i. turned c.spot-spot.result (c.len-count.result + c.len-size.ensures.count i) (c.len-count.result - c.spot-spot.result)
    (c.make_room.new.order.items ++ map (raised (c.len-last.ensures i)) (c.deref-2.ensures.value i)))) in
    document_after (all_room c.self.invariant c.make_room.ensures.parts c.make_room.ensures.lists c.make_room.ensures.index c.make_room.ensures.before c.make_room.ensures.after
    c.make_room.ensures.tally c.make_room.ensures.labels c.make_room.ensures.order c.make_room.ensures.present)
    (document_same c.self.inside.columns c.self.inside.columns refl c.make_room.ensures.order ∙ c.self.view_is)
    c.args.parent c.args.index c.requires.there c.in_ok-found.ensures.shape c.requires.given c.append.new.self nodes c.spot-spot.ensures count_is c.in_ok-found.ensures.order order

pub invariant_of-self-2 : goal.invariant_of-self-2
invariant_of-self-2 c =
    let p : Parts = record {
      table = c.self.inside.columns;
      spans = c.make_room.new.children.spans.items;
      flat = c.make_room.new.children.flat.items;
      index = c.make_room.new.places.index.items;
      before = c.make_room.new.places.before.items;
      after = c.make_room.new.places.after.items;
      tally = c.make_room.new.places.tally.items;
      labels = c.make_room.new.labels.items;
      lists = c.self.inside.lists;
      cuts = c.self.inside.cuts.items;
      order = c.make_room.new.order.items;
      present = c.make_room.new.present.items;
    } in
    let q : Parts = record {
      table = c.append.new.self;
      spans = c.put_in.new.self.spans.items;
      flat = c.put_in.new.self.flat.items;
      index = c.settle.new.self.index.items;
      before = c.settle.new.self.before.items;
      after = c.settle.new.self.after.items;
      tally = c.settle.new.self.tally.items;
      labels = c.append_labels.new.labels.items;
      lists = c.label_more.new.lists;
      cuts = c.label_more.new.cuts.items;
      order = c.turn.new.list.items;
      present = c.append_present.new.present.items;
    } in
    let whole : IsWhole p = (all_room c.self.invariant c.make_room.ensures.parts c.make_room.ensures.lists c.make_room.ensures.index c.make_room.ensures.before c.make_room.ensures.after
    c.make_room.ensures.tally c.make_room.ensures.labels c.make_room.ensures.order c.make_room.ensures.present) in
    let places = ap length c.lengthen.ensures.tally ∙ c.in_ok-labels.ensures.room in
    let is : IsInsertion p q c.args.parent c.args.index c.args.nodes.now c.len-last.result c.len-size.result c.label_more.new.columns.names c.spot-spot.result c.len-count.result
    c.in_ok-found.run'.items (lists_of c.in_ok-found.found.flat.items c.in_ok-found.found.spans.items) c.in_ok-labels.labels.items c.of.result.now = record {
      nodes = c.in_ok-append.ensures.ok ∙ (λ i. c.label_more.ensures.nodes i ++ map (kept_node (length (c.label_more.ensures.nodes i)) c.args.parent) (c.columns-list.ensures.nodes i));
      more = c.label_more.ensures.more;
      tags = subst (AllByRecursion (λ (node : Node). HasNameBelow c.label_more.new.columns.names (length c.label_more.new.columns.names) node.tag)) c.columns-list.ensures.nodes
          c.in_ok-labels.ensures.tags;
      labels = subst (λ (l : List Node). AreLabels (record { names = c.label_more.new.columns.names; nodes = l }) c.label_more.new.lists c.in_ok-labels.labels.items) c.columns-list.ensures.nodes
          c.in_ok-labels.ensures.labels;
      texts = c.append.ensures.kept;
      once = c.append.ensures.once;
      room = c.settle.ensures.room ∙ (c.settle_all.ensures.room ∙ places);
      zeros = c.settle.ensures.tally;
      all_labels = c.append_labels.ensures ∙ ap (λ l. c.make_room.new.labels.items ++ l) c.deref.ensures.value;
      present = c.append_present.ensures;
      count_is = omega (arith, c.len-count.ensures, c.self.inside.order.ok.0, ap length c.make_room.ensures.order);
      run_is = c.in_ok-found.ensures.order;
      order = c.turn.ensures ∙ ((λ i. turned c.spot-spot.result (c.len-count.result + c.len-size.result) (c.len-count.result - c.spot-spot.result) (c.append_raised.ensures.items i))
          ∙ (λ i. turned c.spot-spot.result (c.len-count.result + c.len-size.result) (c.len-count.result - c.spot-spot.result)
          (c.make_room.new.order.items ++ map (raised c.len-last.result) (c.deref-2.ensures.value i))));
      parts = c.put_in.ensures.parts;
      found_is = c.in_ok-found.ensures.children;
      put = subst (λ l. IfSome (slice_get l (c.args.parent - 1)) (λ own. lists_of c.put_in.new.self.flat.items c.put_in.new.self.spans.items
          ≡ slice_set l (c.args.parent - 1) (list_with c.args.index (c.len-last.result + 1) own))) c.append-2.ensures.lists c.put_in.ensures.lists;
      read = c.of.ensures.list;
    } in
    let indexes : ArePlacesPut q.table c.len-last.result c.len-size.result (lists_of q.flat q.spans) place_of (index_among c.of.result.now) c.of.result.now p.index q.index = record {
      longer = c.lengthen.new.self.index.items;
      settled = c.settle_all.new.self.index.items;
      longer_is = c.lengthen.ensures.index;
      settles = c.settle_all.ensures.index;
      written = c.settle.ensures.index;
    } in
    let befores : ArePlacesPut q.table c.len-last.result c.len-size.result (lists_of q.flat q.spans) (λ doc. place_of_type doc false) (type_place (listed q.table.nodes) false c.of.result.now)
    c.of.result.now p.before q.before = record {
      longer = c.lengthen.new.self.before.items;
      settled = c.settle_all.new.self.before.items;
      longer_is = c.lengthen.ensures.before;
      settles = c.settle_all.ensures.before;
      written = c.settle.ensures.before;
    } in
    let afters : ArePlacesPut q.table c.len-last.result c.len-size.result (lists_of q.flat q.spans) (λ doc. place_of_type doc true) (type_place (listed q.table.nodes) true c.of.result.now)
    c.of.result.now p.after q.after = record {
      longer = c.lengthen.new.self.after.items;
      settled = c.settle_all.new.self.after.items;
      longer_is = c.lengthen.ensures.after;
      settles = c.settle_all.ensures.after;
      written = c.settle.ensures.after;
    } in
    inserted_whole whole (document_same c.self.inside.columns c.self.inside.columns refl c.make_room.ensures.order ∙ c.self.view_is)
    c.args.parent c.args.index c.requires.there c.in_ok-found.ensures.shape c.requires.given c.len-last.ensures c.len-size.ensures.count c.requires.few is c.spot-spot.ensures indexes befores afters
