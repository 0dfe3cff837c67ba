use Rattle.std.proofs.Common.{◌+◌, ◌-◌, ◌<◌, ◌≤◌, ◌^◌, ℕ, List, ap, arith, length, refl, subst, sym, ◌∙◌}
use Rattle.std.proofs.lemmas.List.{length-map}
use Rattle.scene_model.specs.Document.{Document}
use Rattle.scene_model.specs.Lookups.{children}
use Rattle.stylo_base.specs.NameList.{StandOnce}
use Rattle.dom_tree.specs.ChildLists.{lists_of}
use Rattle.dom_tree.specs.Kept.{part_of}
use Rattle.dom_tree.specs.SiblingPlaces.{AreZeros}
use Rattle.dom_tree.specs.Whole.{Parts, in_order}
use Rattle.dom_tree.proofs.MovedDocument.{IsMove, children_after, from_low, from_is, from_told, from_within, index_few, index_within, moved_document, moved_whole, moving, order_after}
use Rattle.dom_tree.proofs.MovedDocument.{part_within, place_outside, place_within, siblings_after, spot_read, to_is, to_told, to_within}
use Rattle.dom_tree.proofs.RemovedDocument.{hung_there}
use Rattle.dom_tree.proofs.RoomLemmas.{room_whole, spans_long, told_again}
use Rattle.dom_tree.proofs.doc.Doc.move_to.Goals as goal

-- what the steps ask for
pub make_room-requires : goal.make_room-requires
make_room-requires c = c.self.invariant.apart

pub carry-requires-clause-parts : goal.carry-requires-clause-parts
carry-requires-clause-parts c = c.make_room.ensures.parts

pub of-requires-clause-parts : goal.of-requires-clause-parts
of-requires-clause-parts c = c.carry.ensures.parts

pub of-requires-2-clause-parts : goal.of-requires-2-clause-parts
of-requires-2-clause-parts c = c.carry.ensures.parts

pub settle-requires-clause-few : goal.settle-requires-clause-few
settle-requires-clause-few c = c.of.ensures.few

pub settle-requires-2-clause-few : goal.settle-requires-2-clause-few
settle-requires-2-clause-few c = c.of-2.ensures.few

pub settle-requires-2-clause-tally : goal.settle-requires-2-clause-tally
settle-requires-2-clause-tally c = c.settle.ensures.tally

pub parent-requires : goal.parent-requires
parent-requires c =
    hung_there c.args.self.now.elements c.args.x c.requires.hung

pub place-place-requires : goal.place-place-requires
place-place-requires c =
    hung_there c.args.self.now.elements c.args.x c.requires.hung

pub end_of-end-requires : goal.end_of-end-requires
end_of-end-requires c =
    hung_there c.args.self.now.elements c.args.x c.requires.hung

pub index_in_all-all-requires : goal.index_in_all-all-requires
index_in_all-all-requires c =
    let m = moving c.self.invariant c.self.view_is c.args.x c.in-Some.from c.args.parent c.args.index (sym c.parent.ensures.parent ∙ c.in-Some.is) c.requires.there c.requires.apart in
    omega (arith, c.self.invariant.few, index_few m c.requires.index)

pub invariant_of-self : goal.invariant_of-self
invariant_of-self c =
    room_whole c.self.invariant c.make_room.ensures.parts c.make_room.ensures.lists

pub carry-requires-clause-high : goal.carry-requires-clause-high
carry-requires-clause-high c =
    let m = moving c.self.invariant c.self.view_is c.args.x c.in-Some.from c.args.parent c.args.index (sym c.parent.ensures.parent ∙ c.in-Some.is) c.requires.there c.requires.apart in
    omega (
      arith,
      (from_within m).1,
      spans_long c.self.inside.children.flat.items c.make_room.new.self.flat.items c.self.inside.children.spans.items c.make_room.new.self.spans.items c.make_room.ensures.lists,
    )

pub carry-requires-clause-to_high : goal.carry-requires-clause-to_high
carry-requires-clause-to_high c =
    let m = moving c.self.invariant c.self.view_is c.args.x c.in-Some.from c.args.parent c.args.index (sym c.parent.ensures.parent ∙ c.in-Some.is) c.requires.there c.requires.apart in
    omega (
      arith,
      (to_within m).1,
      spans_long c.self.inside.children.flat.items c.make_room.new.self.flat.items c.self.inside.children.spans.items c.make_room.new.self.spans.items c.make_room.ensures.lists,
    )

pub carry-requires-clause-low : goal.carry-requires-clause-low
carry-requires-clause-low c =
    let m = moving c.self.invariant c.self.view_is c.args.x c.in-Some.from c.args.parent c.args.index (sym c.parent.ensures.parent ∙ c.in-Some.is) c.requires.there c.requires.apart in
    (from_within m).0

pub carry-requires-clause-to_low : goal.carry-requires-clause-to_low
carry-requires-clause-to_low c =
    let m = moving c.self.invariant c.self.view_is c.args.x c.in-Some.from c.args.parent c.args.index (sym c.parent.ensures.parent ∙ c.in-Some.is) c.requires.there c.requires.apart in
    (to_within m).0

pub carry-requires-clause-place : goal.carry-requires-clause-place
carry-requires-clause-place c =
    let m = moving c.self.invariant c.self.view_is c.args.x c.in-Some.from c.args.parent c.args.index (sym c.parent.ensures.parent ∙ c.in-Some.is) c.requires.there c.requires.apart in
    let P : List ℕ → Type 0 = λ list. c.place-place.result < length list in
    told_again (c.in-Some.from - 1) c.make_room.ensures.lists P (from_told m P (place_within m c.place-place.ensures.place))

pub carry-requires-clause-within : goal.carry-requires-clause-within
carry-requires-clause-within c =
    let m = moving c.self.invariant c.self.view_is c.args.x c.in-Some.from c.args.parent c.args.index (sym c.parent.ensures.parent ∙ c.in-Some.is) c.requires.there c.requires.apart in
    λ e. (let P : List ℕ → Type 0 = λ list. c.args.index < length list in
    let Q : ℕ → Type 0 = λ q. P (children (in_order c.self.inside.columns.nodes c.self.inside.order.items) q) in
    told_again (c.in-Some.from - 1) c.make_room.ensures.lists P (from_told m P (subst Q (sym e) ((index_within m c.requires.index).1 e))))

pub carry-requires-clause-index : goal.carry-requires-clause-index
carry-requires-clause-index c =
    let m = moving c.self.invariant c.self.view_is c.args.x c.in-Some.from c.args.parent c.args.index (sym c.parent.ensures.parent ∙ c.in-Some.is) c.requires.there c.requires.apart in
    let P : List ℕ → Type 0 = λ list. c.args.index ≤ length list in
    told_again (c.args.parent - 1) c.make_room.ensures.lists P (to_told m P (index_within m c.requires.index).0)

pub carry-requires-clause-room : goal.carry-requires-clause-room
carry-requires-clause-room c =
    let m = moving c.self.invariant c.self.view_is c.args.x c.in-Some.from c.args.parent c.args.index (sym c.parent.ensures.parent ∙ c.in-Some.is) c.requires.there c.requires.apart in
    let P : List ℕ → Type 0 = λ list. c.make_room.new.self.flat.len + length list + 1 ≤ c.make_room.new.self.flat.cap in
    let many = ap (λ (d : Document). length (children d.elements c.args.parent)) c.self.view_is in
    told_again (c.args.parent - 1) c.make_room.ensures.lists P (to_told m P (omega (arith, c.in_ok-make_room.ensures.room_flat, ap length c.children.ensures.children, many)))

pub carry-requires-clause-few : goal.carry-requires-clause-few
carry-requires-clause-few c =
    let m = moving c.self.invariant c.self.view_is c.args.x c.in-Some.from c.args.parent c.args.index (sym c.parent.ensures.parent ∙ c.in-Some.is) c.requires.there c.requires.apart in
    let P : List ℕ → Type 0 = λ list. c.make_room.new.self.flat.len + length list + 1 < 2 ^ 32 in
    let many = ap (λ (d : Document). length (children d.elements c.args.parent)) c.self.view_is in
    told_again (c.args.parent - 1) c.make_room.ensures.lists P (to_told m P (omega (arith, c.in_ok-make_room.ensures.few, ap length c.children.ensures.children, many)))

pub move_part-requires-clause-within : goal.move_part-requires-clause-within
move_part-requires-clause-within c =
    let m = moving c.self.invariant c.self.view_is c.args.x c.in-Some.from c.args.parent c.args.index (sym c.parent.ensures.parent ∙ c.in-Some.is) c.requires.there c.requires.apart in
    omega (arith, part_within m, c.end_of-end.ensures)

pub move_part-requires-clause-place : goal.move_part-requires-clause-place
move_part-requires-clause-place c =
    let m = moving c.self.invariant c.self.view_is c.args.x c.in-Some.from c.args.parent c.args.index (sym c.parent.ensures.parent ∙ c.in-Some.is) c.requires.there c.requires.apart in
    let spot_now = spot_read m c.place-place.ensures.place c.index_in_all-all.ensures.passed c.index_in_all-all.ensures.before c.index_in_all-all.ensures.other c.spot-spot.ensures in
    (place_outside m spot_now).0

pub move_part-requires-clause-outside : goal.move_part-requires-clause-outside
move_part-requires-clause-outside c =
    let m = moving c.self.invariant c.self.view_is c.args.x c.in-Some.from c.args.parent c.args.index (sym c.parent.ensures.parent ∙ c.in-Some.is) c.requires.there c.requires.apart in
    let spot_now = spot_read m c.place-place.ensures.place c.index_in_all-all.ensures.passed c.index_in_all-all.ensures.before c.index_in_all-all.ensures.other c.spot-spot.ensures in
    let far = (place_outside m spot_now).1 in
    λ l. omega (arith, far (omega (arith, l, c.position-start.ensures)), c.end_of-end.ensures)

pub overflow_sub-x : goal.overflow_sub-x
overflow_sub-x c =
    let m = moving c.self.invariant c.self.view_is c.args.x c.in-Some.from c.args.parent c.args.index (sym c.parent.ensures.parent ∙ c.in-Some.is) c.requires.there c.requires.apart in
    (from_low m).0

pub set_parent-requires : goal.set_parent-requires
set_parent-requires c =
    let m = moving c.self.invariant c.self.view_is c.args.x c.in-Some.from c.args.parent c.args.index (sym c.parent.ensures.parent ∙ c.in-Some.is) c.requires.there c.requires.apart in
    omega (arith, from_low m)

pub of-requires-clause-high : goal.of-requires-clause-high
of-requires-clause-high c =
    let whole = room_whole c.self.invariant c.make_room.ensures.parts c.make_room.ensures.lists in
    let m = moving whole c.self.view_is c.args.x c.in-Some.from c.args.parent c.args.index (sym c.parent.ensures.parent ∙ c.in-Some.is) c.requires.there c.requires.apart in
    omega (
      arith,
      (from_within m).1,
      (children_after m (lists_of c.carry.new.self.flat.items c.carry.new.self.spans.items) c.place-place.ensures.place c.carry.ensures.same c.carry.ensures.other).count,
      whole.children_of.count,
      length-map c.carry.new.self.spans.items (part_of c.carry.new.self.flat.items),
      length-map c.make_room.new.self.spans.items (part_of c.make_room.new.self.flat.items),
    )

pub of-requires-2-clause-high : goal.of-requires-2-clause-high
of-requires-2-clause-high c =
    let whole = room_whole c.self.invariant c.make_room.ensures.parts c.make_room.ensures.lists in
    let m = moving whole c.self.view_is c.args.x c.in-Some.from c.args.parent c.args.index (sym c.parent.ensures.parent ∙ c.in-Some.is) c.requires.there c.requires.apart in
    omega (
      arith,
      (to_within m).1,
      (children_after m (lists_of c.carry.new.self.flat.items c.carry.new.self.spans.items) c.place-place.ensures.place c.carry.ensures.same c.carry.ensures.other).count,
      whole.children_of.count,
      length-map c.carry.new.self.spans.items (part_of c.carry.new.self.flat.items),
      length-map c.make_room.new.self.spans.items (part_of c.make_room.new.self.flat.items),
    )

pub settle-requires-clause-once : goal.settle-requires-clause-once
settle-requires-clause-once c =
    subst StandOnce (sym c.set_parent.ensures.names) c.self.invariant.once

pub settle-requires-2-clause-once : goal.settle-requires-2-clause-once
settle-requires-2-clause-once c =
    subst StandOnce (sym c.set_parent.ensures.names) c.self.invariant.once

pub settle-requires-clause-siblings : goal.settle-requires-clause-siblings
settle-requires-clause-siblings c =
    let whole = room_whole c.self.invariant c.make_room.ensures.parts c.make_room.ensures.lists in
    let m = moving whole c.self.view_is c.args.x c.in-Some.from c.args.parent c.args.index (sym c.parent.ensures.parent ∙ c.in-Some.is) c.requires.there c.requires.apart in
    siblings_after m c.set_parent.ensures.names c.set_parent.ensures.nodes c.in-Some.from refl
    (from_is m (lists_of c.carry.new.self.flat.items c.carry.new.self.spans.items) c.place-place.ensures.place c.carry.ensures.same c.carry.ensures.other c.of.ensures.list)

pub settle-requires-2-clause-siblings : goal.settle-requires-2-clause-siblings
settle-requires-2-clause-siblings c =
    let whole = room_whole c.self.invariant c.make_room.ensures.parts c.make_room.ensures.lists in
    let m = moving whole c.self.view_is c.args.x c.in-Some.from c.args.parent c.args.index (sym c.parent.ensures.parent ∙ c.in-Some.is) c.requires.there c.requires.apart in
    siblings_after m c.set_parent.ensures.names c.set_parent.ensures.nodes c.args.parent c.settle.ensures.room
    (to_is m (lists_of c.carry.new.self.flat.items c.carry.new.self.spans.items) c.place-place.ensures.place c.carry.ensures.same c.carry.ensures.other c.of-2.ensures.list)

pub invariant_of-self-2 : goal.invariant_of-self-2
invariant_of-self-2 c =
    let whole = room_whole c.self.invariant c.make_room.ensures.parts c.make_room.ensures.lists in
    let m = moving whole c.self.view_is c.args.x c.in-Some.from c.args.parent c.args.index (sym c.parent.ensures.parent ∙ c.in-Some.is) c.requires.there c.requires.apart in
    let spot_now = spot_read m c.place-place.ensures.place c.index_in_all-all.ensures.passed c.index_in_all-all.ensures.before c.index_in_all-all.ensures.other c.spot-spot.ensures in
    let lists = lists_of c.carry.new.self.flat.items c.carry.new.self.spans.items in
    let p : Parts = record {
      table = c.self.inside.columns;
      spans = c.make_room.new.self.spans.items;
      flat = c.make_room.new.self.flat.items;
      index = c.self.inside.places.index.items;
      before = c.self.inside.places.before.items;
      after = c.self.inside.places.after.items;
      tally = c.self.inside.places.tally.items;
      labels = c.self.inside.labels.items;
      lists = c.self.inside.lists;
      cuts = c.self.inside.cuts.items;
      order = c.self.inside.order.items;
      present = c.self.inside.present.items;
    } in
    let q : Parts = record p {
      table = c.set_parent.new.self;
      spans = c.carry.new.self.spans.items;
      flat = c.carry.new.self.flat.items;
      index = c.settle-2.new.self.index.items;
      before = c.settle-2.new.self.before.items;
      after = c.settle-2.new.self.after.items;
      tally = c.settle-2.new.self.tally.items;
      order = c.move_part.new.list.items;
    } in
    let is : IsMove p q c.args.self.now c.args.x c.in-Some.from c.args.parent c.args.index c.place-place.result c.of.result.now c.of-2.result.now = record {
      same = λ i. record p {
        table = record { names = c.set_parent.ensures.names i; nodes = c.set_parent.new.self.nodes };
        spans = c.carry.new.self.spans.items;
        flat = c.carry.new.self.flat.items;
        index = c.settle-2.new.self.index.items;
        before = c.settle-2.new.self.before.items;
        after = c.settle-2.new.self.after.items;
        tally = c.settle-2.new.self.tally.items;
        order = c.move_part.new.list.items;
      };
      nodes = c.set_parent.ensures.nodes;
      parts = c.carry.ensures.parts;
      from_read = c.of.ensures.list;
      to_read = c.of-2.ensures.list;
      index_mid = c.settle.new.self.index.items;
      before_mid = c.settle.new.self.before.items;
      after_mid = c.settle.new.self.after.items;
      index_first = c.settle.ensures.index;
      index_then = c.settle-2.ensures.index;
      before_first = c.settle.ensures.before;
      before_then = c.settle-2.ensures.before;
      after_first = c.settle.ensures.after;
      after_then = c.settle-2.ensures.after;
      zeros = subst (λ n. AreZeros n c.settle-2.new.self.tally.items) c.set_parent.ensures.names c.settle-2.ensures.tally;
      room = c.settle-2.ensures.room ∙ c.settle.ensures.room;
    } in
    moved_whole m is
    (children_after m lists c.place-place.ensures.place c.carry.ensures.same c.carry.ensures.other)
    (from_is m lists c.place-place.ensures.place c.carry.ensures.same c.carry.ensures.other c.of.ensures.list)
    (to_is m lists c.place-place.ensures.place c.carry.ensures.same c.carry.ensures.other c.of-2.ensures.list)
    (order_after m c.position-start.ensures c.end_of-end.ensures spot_now c.move_part.ensures.early c.move_part.ensures.late)

pub returns-clause-ok : goal.returns-clause-ok
returns-clause-ok c =
    let whole = room_whole c.self.invariant c.make_room.ensures.parts c.make_room.ensures.lists in
    let m = moving whole c.self.view_is c.args.x c.in-Some.from c.args.parent c.args.index (sym c.parent.ensures.parent ∙ c.in-Some.is) c.requires.there c.requires.apart in
    let spot_now = spot_read m c.place-place.ensures.place c.index_in_all-all.ensures.passed c.index_in_all-all.ensures.before c.index_in_all-all.ensures.other c.spot-spot.ensures in
    moved_document m c.set_parent.ensures.names c.set_parent.ensures.nodes
    (order_after m c.position-start.ensures c.end_of-end.ensures spot_now c.move_part.ensures.early c.move_part.ensures.late).0
