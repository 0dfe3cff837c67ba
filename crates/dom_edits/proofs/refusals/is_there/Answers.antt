use Rattle.scene_model.proofs.Found.{parent_of-element}
use Rattle.change_model.specs.ChildLists.{CanMove}
use Rattle.dom_edits.proofs.ListEdits.{still_is, still_other}
use Rattle.dom_edits.proofs.refusals.is_there.Goals as goal

pub place-requires : goal.place-requires
place-requires c = parent_of-element c.args.doc.now.elements c.args.x c.args.from c.requires.hung

pub returns-then-from-parent : goal.returns-then-from-parent
returns-then-from-parent c =
    let can : CanMove c.args.doc.now c.args.x c.args.from c.args.parent = record { sound = c.requires.sound; parent = c.requires.hung; there = c.requires.there; apart = c.requires.apart } in
    still_other can c.args.index c.if-from-parent.true

pub returns : goal.returns
returns c =
    let can : CanMove c.args.doc.now c.args.x c.args.from c.args.parent = record { sound = c.requires.sound; parent = c.requires.hung; there = c.requires.there; apart = c.requires.apart } in
    still_is can c.args.index c.place.ensures.place c.if-from-parent.false c.requires.index
