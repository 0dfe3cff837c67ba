use Rattle.std.proofs.Common.{[], Vec, ap, sym, subst, ◌∙◌}
use Rattle.std.specs.declared.alloc.Global.{Global}
use Rattle.selector_model.specs.Key.{any_key}
use Rattle.selector_types.specs.SimpleView.{key_seen}
use Rattle.dom_edits.specs.TouchView.{touch_seen}
use Rattle.dependency_map.specs.declared.dep.PathStep.{PathStep}
use Rattle.dependency_map.specs.DepView.{path_of}
use Rattle.invalidation_map.specs.declared.selector_key.SelectorKey.{SelectorKey}
use Rattle.invalidation_map.specs.EditMembers.{EditMembers, but_marked, marked_in}
use Rattle.invalidation_map.specs.Marks.{IsGrown}
use Rattle.invalidation_map.specs.Members.{Members, AreBelow}
use Rattle.invalidation_map.specs.Rows.{marks_by_row}
use Rattle.invalidation_map.specs.SharedRows.{row_seen}
use Rattle.invalidation_map.proofs.EditSetLemmas.{grown_in, room_in}
use Rattle.invalidation_map.proofs.SharedLemmas.{seen_at}
use Rattle.invalidation_map.proofs.PathLemmas.{no_path}
use Rattle.invalidation_map.proofs.StepLemmas.{below_all}
use Rattle.invalidation_map.proofs.GrowthLemmas.{added_elements, alone_by_row, here_bearing, here_by_row, listed_elements, marked_by_row}
use Rattle.invalidation_map.proofs.invalidator.Invalidator.mark_row.Goals as goal

pub add_marked-requires : goal.add_marked-requires
add_marked-requires c =
    let self = c.args.self.now in
    below_all _ _ _ c.requires.room (listed_elements self.doc.now.elements self.touched.now _ _ c.requires.elements self.at_elements)

pub add_all-requires : goal.add_all-requires
add_all-requires c =
    let self = c.args.self.now in
    let room = room_in self.doc.now.elements _ _ _ c.requires.room (ap (λ (s : EditMembers). s.room) c.sets.view_is) c.sets.invariant.from in
    subst (λ (m : Members). AreBelow m.room c.args.elements.now) (sym c.clear.ensures)
    (below_all _ _ _ room (listed_elements self.doc.now.elements self.touched.now _ _ c.requires.elements self.at_elements))

pub walk-requires-clause-can : goal.walk-requires-clause-can
walk-requires-clause-can c =
    let self = c.args.self.now in
    record {
      elements = added_elements self.doc.now.elements self.touched.now _ _ c.requires.elements self.at_elements _ _ (ap (λ (m : Members). m.items) c.clear.ensures) c.add_all.ensures;
      room = room_in self.doc.now.elements _ _ _ c.requires.room (ap (λ (s : EditMembers). s.room) c.sets.view_is) c.sets.invariant.next;
    }

pub add_bearing-requires-clause-elements : goal.add_bearing-requires-clause-elements
add_bearing-requires-clause-elements c =
    let self = c.args.self.now in
    listed_elements self.doc.now.elements self.touched.now _ _ c.requires.elements self.at_elements

pub returns-then-row : goal.returns-then-row
returns-then-row c =
    let self = c.args.self.now in
    record {
      grown = alone_by_row self.doc.now.elements self.touched.now (row_seen self.map.now.shared c.args.row.now) c.args.elements.now c.requires.elements (marked_in c.args.sets.now)
          (marked_in c.add_marked.new.self) self.at_elements (c.requires.within.alone c.if-row.true) c.add_marked.ensures.grown;
      others = c.add_marked.ensures.others;
    }

pub returns-then-is_empty : goal.returns-then-is_empty
returns-then-is_empty c =
    let doc = c.args.self.now.doc.now.elements in
    let pairs = c.args.self.now.touched.now in
    let shared = c.args.self.now.map.now.shared in
    let row = row_seen shared c.args.row.now in
    let path = seen_at (λ (path : Vec PathStep Global). path_of path.items) shared.paths.items c.args.row.now.path c.index.result.now [] c.requires.within.path c.index.ensures in
    let key = seen_at (λ (key : SelectorKey). key_seen key.key) shared.keys.items c.args.row.now.key c.index-key.result.now any_key c.requires.within.key c.index-key.ensures in
    let old = c.sets.inside.marked in
    let new = c.add_bearing.new.marks in
    record {
      grown = subst (λ (s : EditMembers). IsGrown (marks_by_row doc pairs row) (marked_in s) (record { items = new.items; room = c.sets.inside.room })) c.sets.view_is
          (grown_in (marks_by_row doc pairs row) old new c.sets.inside.room
          (here_by_row doc pairs row c.args.elements.now c.requires.elements (path_of c.as_slice-path.result.now)
          (key_seen c.index-key.result.now.key) old new c.args.self.now.at_elements
          (no_path c.as_slice-path.result.now (sym c.is_empty.ensures ∙ c.if-is_empty.true)) (ap path_of c.as_slice-path.ensures.value ∙ path) key
          (here_bearing doc pairs (touch_seen c.args.row.now.touch) c.args.elements.now c.requires.elements
          (key_seen c.index-key.result.now.key) c.touched_in_key-bearing.result.now old new c.touched_in_key-bearing.ensures.elements c.add_bearing.ensures)));
      others = ap but_marked c.sets.view_is;
    }

pub returns : goal.returns
returns c =
    let doc = c.args.self.now.doc.now.elements in
    let pairs = c.args.self.now.touched.now in
    let shared = c.args.self.now.map.now.shared in
    let row = row_seen shared c.args.row.now in
    let path = seen_at (λ (path : Vec PathStep Global). path_of path.items) shared.paths.items c.args.row.now.path c.index.result.now [] c.requires.within.path c.index.ensures in
    let key = seen_at (λ (key : SelectorKey). key_seen key.key) shared.keys.items c.args.row.now.key c.index-key.result.now any_key c.requires.within.key c.index-key.ensures in
    let old = c.sets.inside.marked in
    let new = c.add_bearing-2.new.marks in
    record {
      grown = subst (λ (s : EditMembers). IsGrown (marks_by_row doc pairs row) (marked_in s) (record { items = new.items; room = c.sets.inside.room })) c.sets.view_is
          (grown_in (marks_by_row doc pairs row) old new c.sets.inside.room
          (marked_by_row doc pairs row c.args.elements.now c.requires.elements c.clear.new.self
          c.add_all.new.self c.walk.new.from.items c.as_slice.result.now c.touched_in_key-bearing.result.now (path_of c.as_slice-path.result.now)
          (key_seen c.index-key.result.now.key) old new c.args.self.now.at_elements
          (ap (λ (m : Members). m.items) c.clear.ensures) c.add_all.ensures (ap path_of c.as_slice-path.ensures.value ∙ path) c.walk.ensures.reached
          c.as_slice.ensures.items key c.touched_in_key-bearing.ensures.elements c.add_bearing-2.ensures));
      others = ap but_marked c.sets.view_is;
    }
