use Rattle.std.proofs.Common.{◌≡◌, ◌-◌, length, take, ap, sym, ◌∙◌, refl, arith}
use Rattle.dom_tree.specs.Whole.{Parts}
use Rattle.dom_tree.proofs.RemovedDocument.{IsRemoval, each_within, hung_there, parent_within, place_within, removed_document, removed_whole, siblings_left, spans_left, subtree_inside}
use Rattle.dom_tree.proofs.doc.Doc.remove.Goals as goal

pub parent-requires : goal.parent-requires
parent-requires c = hung_there c.args.self.now.elements c.args.x c.requires

pub place-place-requires : goal.place-place-requires
place-place-requires c = hung_there c.args.self.now.elements c.args.x c.requires

pub end_of-end-requires : goal.end_of-end-requires
end_of-end-requires c = hung_there c.args.self.now.elements c.args.x c.requires

pub offset_bounds-deref-start : goal.offset_bounds-deref-start
offset_bounds-deref-start c =
    let above = sym c.parent.ensures.parent ∙ c.in-Some.is in
    omega (arith, c.self.invariant.few, c.position-start.ensures, subtree_inside c.self.invariant c.self.view_is c.args.x c.in-Some.parent above)

pub slice_bounds-mark-end : goal.slice_bounds-mark-end
slice_bounds-mark-end c =
    let above = sym c.parent.ensures.parent ∙ c.in-Some.is in
    let inside = subtree_inside c.self.invariant c.self.view_is c.args.x c.in-Some.parent above in
    omega (arith, c.position-start.ensures, c.end_of-end.ensures, c.deref.ensures.len, inside)

pub mark-requires : goal.mark-requires
mark-requires c =
    let above = sym c.parent.ensures.parent ∙ c.in-Some.is in
    each_within c.self.invariant c.self.view_is c.args.x c.in-Some.parent above _ _ c.deref.ensures.value

pub turn-requires-clause-part : goal.turn-requires-clause-part
turn-requires-clause-part c =
    let above = sym c.parent.ensures.parent ∙ c.in-Some.is in
    let inside = subtree_inside c.self.invariant c.self.view_is c.args.x c.in-Some.parent above in
    omega (arith, c.position-start.ensures, c.end_of-end.ensures, c.len-count.ensures, c.deref.ensures.len, inside)

pub take_out-requires-clause-high : goal.take_out-requires-clause-high
take_out-requires-clause-high c = parent_within c.self.invariant c.self.view_is c.args.x c.in-Some.parent (sym c.parent.ensures.parent ∙ c.in-Some.is)

pub take_out-requires-clause-index : goal.take_out-requires-clause-index
take_out-requires-clause-index c = place_within c.self.invariant c.self.view_is c.args.x c.in-Some.parent (sym c.parent.ensures.parent ∙ c.in-Some.is) c.place-place.ensures.place

pub of-requires-clause-high : goal.of-requires-clause-high
of-requires-clause-high c =
    spans_left c.self.invariant c.self.view_is c.args.x c.in-Some.parent (sym c.parent.ensures.parent ∙ c.in-Some.is) c.take_out.new.self.spans.items c.take_out.new.self.flat.items
    c.place-place.ensures.place c.take_out.ensures.lists

pub settle-requires-clause-siblings : goal.settle-requires-clause-siblings
settle-requires-clause-siblings c =
    siblings_left c.self.invariant c.self.view_is c.args.x c.in-Some.parent (sym c.parent.ensures.parent ∙ c.in-Some.is) c.take_out.new.self.spans.items c.take_out.new.self.flat.items
    c.place-place.ensures.place c.take_out.ensures.lists c.of.ensures.list

pub invariant_of-self : goal.invariant_of-self
invariant_of-self c =
    let p : Parts = record {
      table = c.self.inside.columns;
      spans = c.self.inside.children.spans.items;
      flat = c.self.inside.children.flat.items;
      index = c.self.inside.places.index.items;
      before = c.self.inside.places.before.items;
      after = c.self.inside.places.after.items;
      tally = c.self.inside.places.tally.items;
      labels = c.self.inside.labels.items;
      lists = c.self.inside.lists;
      cuts = c.self.inside.cuts.items;
      order = c.self.inside.order.items;
      present = c.self.inside.present.items;
    } in
    let q : Parts = record p {
      spans = c.take_out.new.self.spans.items;
      flat = c.take_out.new.self.flat.items;
      index = c.settle.new.self.index.items;
      before = c.settle.new.self.before.items;
      after = c.settle.new.self.after.items;
      tally = c.settle.new.self.tally.items;
      order = c.truncate.new.self.items;
      present = c.mark.new.present.items;
    } in
    let above = sym c.parent.ensures.parent ∙ c.in-Some.is in
    let cut : IsRemoval p q c.args.self.now c.args.x c.in-Some.parent c.place-place.result c.position-start.result c.end_of-end.result c.len-count.result c.deref.result.now c.of.result.now = record {
      same = refl;
      place_is = c.place-place.ensures.place;
      start_is = c.position-start.ensures;
      end_is = c.end_of-end.ensures;
      count_is = omega (arith, c.len-count.ensures, c.deref.ensures.len, ap length c.deref.ensures.value);
      order = c.truncate.ensures.items ∙ ap (take (c.len-count.result - (c.end_of-end.result - c.position-start.result))) c.turn.ensures;
      shown_is = c.deref.ensures.value;
      present = c.mark.ensures;
      parts = c.take_out.ensures.parts;
      lists = c.take_out.ensures.lists;
      list_is = c.of.ensures.list;
      index = c.settle.ensures.index;
      before = c.settle.ensures.before;
      after = c.settle.ensures.after;
      zeros = c.settle.ensures.tally;
      room = c.settle.ensures.room;
    } in
    removed_whole c.self.invariant c.self.view_is c.args.x c.in-Some.parent above cut

pub returns : goal.returns
returns c =
    let above = sym c.parent.ensures.parent ∙ c.in-Some.is in
    let all : c.len-count.result ≡ length c.self.inside.order.items = omega (arith, c.len-count.ensures, c.deref.ensures.len, ap length c.deref.ensures.value) in
    removed_document c.self.invariant c.self.view_is c.args.x c.in-Some.parent above c.position-start.ensures c.end_of-end.ensures all
    (c.truncate.ensures.items ∙ ap (take (c.len-count.result - (c.end_of-end.result - c.position-start.result))) c.turn.ensures)
