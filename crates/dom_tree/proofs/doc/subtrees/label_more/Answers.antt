use Rattle.std.proofs.Common.{sym, subst}
use Rattle.dom_tree.specs.SiblingPlaces.{AreZeros}
use Rattle.dom_tree.proofs.ChangeLemmas.{zeros_more}
use Rattle.dom_tree.proofs.InsertRooms.{zeros_after}
use Rattle.dom_tree.proofs.doc.subtrees.label_more.Goals as goal

pub returns-in_err-labels-clause-zeros : goal.returns-in_err-labels-clause-zeros
returns-in_err-labels-clause-zeros c = zeros_more c.args.columns.now.names c.label_list.new.columns.names c.label_list.ensures.more.texts c.requires.zeros

pub returns-in_err-resize-clause-zeros : goal.returns-in_err-resize-clause-zeros
returns-in_err-resize-clause-zeros c =
    subst (AreZeros c.label_list.new.columns.names) (sym c.in_err-resize.ensures.items)
    (zeros_more c.args.columns.now.names c.label_list.new.columns.names c.label_list.ensures.more.texts c.requires.zeros)

pub returns-clause-zeros : goal.returns-clause-zeros
returns-clause-zeros c =
    (zeros_after c.label_list.new.columns.names c.requires.zeros c.label_list.ensures.more.texts c.name_count.ensures.count c.args.tally.now.ok.0 c.in_ok-resize.ensures.items).0

pub returns-clause-longer : goal.returns-clause-longer
returns-clause-longer c =
    (zeros_after c.label_list.new.columns.names c.requires.zeros c.label_list.ensures.more.texts c.name_count.ensures.count c.args.tally.now.ok.0 c.in_ok-resize.ensures.items).2

pub returns-clause-room : goal.returns-clause-room
returns-clause-room c =
    (zeros_after c.label_list.new.columns.names c.requires.zeros c.label_list.ensures.more.texts c.name_count.ensures.count c.args.tally.now.ok.0 c.in_ok-resize.ensures.items).1
