use Rattle.std.proofs.Common.{map, false, true, ap, sym, ◌∙◌}
use Rattle.std.specs.List.{list_any}
use Rattle.scene_model.specs.Numbers.{is_in}
use Rattle.edit_model.specs.TouchedBy.{same_touch}
use Rattle.dom_edits.specs.TouchView.{touch_seen}
use Rattle.dom_edits.proofs.TouchedLists.{at_elements, at_neighbours_of, at_none, at_parents_of, at_places_of}
use Rattle.dom_edits.proofs.touched.Touched.at.Goals as goal

pub returns-then-contains : goal.returns-then-contains
returns-then-contains c =
    let k = touch_seen c.args.touch.now in
    record {
      elements = λ y.
          ap (is_in y) c.as_slice.ensures
          ∙ at_elements c.self.inside.touches.items c.self.inside.elements.items c.self.inside.parents.items c.self.inside.children.items c.args.self.now c.self.view_is k c.self.invariant.1 (ap (λ list. list_any (same_touch k) (map touch_seen list)) (sym c.deref.ensures.value) ∙ (sym c.contains.ensures ∙ c.if-contains.true)) y;
    }

pub returns-in-Empty : goal.returns-in-Empty
returns-in-Empty c =
    let none = ap (λ list. list_any (same_touch (touch_seen c.args.touch.now)) (map touch_seen list)) (sym c.deref.ensures.value) ∙ (sym c.contains.ensures ∙ c.if-contains.false) in
    record {
      elements = λ y.
          ap (is_in y) c.as_slice-in-Empty.ensures
          ∙ at_parents_of c.self.inside.touches.items c.self.inside.elements.items c.self.inside.parents.items c.self.inside.children.items c.args.self.now c.self.view_is c.args.touch.now none c.in-Empty.is y;
    }

pub returns-in-Positional : goal.returns-in-Positional
returns-in-Positional c =
    let none = ap (λ list. list_any (same_touch (touch_seen c.args.touch.now)) (map touch_seen list)) (sym c.deref.ensures.value) ∙ (sym c.contains.ensures ∙ c.if-contains.false) in
    record {
      elements = λ y.
          ap (is_in y) c.as_slice-in-Positional.ensures.value
          ∙ at_places_of c.self.inside.touches.items c.self.inside.elements.items c.self.inside.parents.items c.self.inside.children.items c.args.self.now c.self.view_is c.args.touch.now none c.in-Positional.is y;
    }

pub returns-in-Sibling : goal.returns-in-Sibling
returns-in-Sibling c =
    let none = ap (λ list. list_any (same_touch (touch_seen c.args.touch.now)) (map touch_seen list)) (sym c.deref.ensures.value) ∙ (sym c.contains.ensures ∙ c.if-contains.false) in
    record {
      elements = λ y.
          ap (is_in y) c.as_slice-in-Sibling.ensures.value
          ∙ at_neighbours_of c.self.inside.touches.items c.self.inside.elements.items c.self.inside.parents.items c.self.inside.children.items c.args.self.now c.self.view_is c.args.touch.now none c.in-Sibling.is y;
    }

pub returns-in_default : goal.returns-in_default
returns-in_default c =
    let none = ap (λ list. list_any (same_touch (touch_seen c.args.touch.now)) (map touch_seen list)) (sym c.deref.ensures.value) ∙ (sym c.contains.ensures ∙ c.if-contains.false) in
    record {
      elements = λ y.
          at_none c.self.inside.touches.items c.self.inside.elements.items c.self.inside.parents.items c.self.inside.children.items c.args.self.now c.self.view_is c.args.touch.now none c.in_default.not-Empty c.in_default.not-Positional c.in_default.not-Sibling y;
    }
