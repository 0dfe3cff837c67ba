use Rattle.std.proofs.Common.{ap, arith, codes, length}
use Rattle.std.specs.Str.{chars}
use Rattle.dom_tree.proofs.LabelLemmas.{labels_next}
use Rattle.dom_tree.proofs.MoreLabels.{name_within}
use Rattle.dom_tree.proofs.labels.label_rows.Goals as goal

pub loop-index-init : goal.loop-index-init
loop-index-init c =
    let none = ap length c.in_ok-labels.ensures.items in
    record { count = none; cuts_of = c.requires.cuts; each = λ i h. absurd (omega (arith, h, none)) }

pub value-requires-clause-name : goal.value-requires-clause-name
value-requires-clause-name c = name_within c.args.columns.now.names (chars (codes "id")) c.args.asked.now.id c.requires.id

pub value-value-requires-clause-name : goal.value-value-requires-clause-name
value-value-requires-clause-name c = name_within c.args.columns.now.names (chars (codes "class")) c.args.asked.now.class c.requires.class

pub loop-index-preserved : goal.loop-index-preserved
loop-index-preserved c =
    let id = c.id_among-id.ensures in
    let list = c.in_ok-classes.ensures in
    labels_next c.loop-index.invariant c.classes_for.ensures.kept (omega arith) c.names-names.ensures (record { id_is = id.text; named = id.named; list_is = list.list; listed = list.listed })
    (c.value.ensures.value _ c.requires.id) (c.value-value.ensures.value _ c.requires.class) c.classes_for.ensures.cuts c.in_ok-push.ensures.items
