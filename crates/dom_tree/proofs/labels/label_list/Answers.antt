use Rattle.std.proofs.Common.{arith, codes, refl, subst, ◌∙◌}
use Rattle.std.specs.Str.{chars}
use Rattle.stylo_base.specs.NameList.{StandOnce}
use Rattle.dom_tree.proofs.MoreLabels.{HasMore-more, all_labels, all_tags, label_next, no_labels, only_names}
use Rattle.dom_tree.proofs.NameLemmas.{found_name}
use Rattle.dom_tree.proofs.labels.label_list.Goals as goal

pub label_of-requires-clause-of_list : goal.label_of-requires-clause-of_list
label_of-requires-clause-of_list c = subst StandOnce c.names-names.ensures c.find.ensures.distinct

pub label_of-requires-clause-id : goal.label_of-requires-clause-id
label_of-requires-clause-id c = found_name (chars (codes "id")) c.names-names.ensures _ c.find.ensures.found c.find.ensures.there

pub label_of-requires-clause-class : goal.label_of-requires-clause-class
label_of-requires-clause-class c = found_name (chars (codes "class")) c.names-names.ensures _ c.find-2.ensures.found c.find-2.ensures.there

pub label_of-requires-clause-once : goal.label_of-requires-clause-once
label_of-requires-clause-once c = c.loop-index.invariant.so_far.more.once

pub label_of-requires-clause-cuts : goal.label_of-requires-clause-cuts
label_of-requires-clause-cuts c = c.loop-index.invariant.so_far.more.cut

pub loop-index-init : goal.loop-index-init
loop-index-init c = record { so_far = no_labels c.args.list.now.nodes (only_names (λ n l. refl) c.requires.once c.requires.cuts) c.in_ok-labels.ensures.items; nodes = refl }

pub loop-index-preserved : goal.loop-index-preserved
loop-index-preserved c = record {
  so_far = label_next _ c.loop-index.invariant.so_far (omega arith) c.label_of.ensures.more c.in_ok-label.ensures.label c.in_ok-label.ensures.tag c.in_ok-push.ensures.items;
  nodes = c.label_of.ensures.nodes ∙ c.loop-index.invariant.nodes;
}

pub returns-clause-labels : goal.returns-clause-labels
returns-clause-labels c = all_labels c.loop-index.invariant.so_far (omega arith)

pub returns-clause-tags : goal.returns-clause-tags
returns-clause-tags c = all_tags c.loop-index.invariant.so_far (omega arith)

pub returns-in_err-push-clause-more : goal.returns-in_err-push-clause-more
returns-in_err-push-clause-more c = HasMore-more c.loop-index.invariant.so_far.more c.label_of.ensures.more
