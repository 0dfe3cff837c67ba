use Rattle.std.proofs.Common.{codes, subst}
use Rattle.std.specs.Str.{chars}
use Rattle.stylo_base.specs.NameList.{StandOnce}
use Rattle.dom_tree.proofs.NameLemmas.{found_name}
use Rattle.dom_tree.proofs.labels.label_nodes.Goals as goal

pub label_rows-requires-clause-id : goal.label_rows-requires-clause-id
label_rows-requires-clause-id c = found_name (chars (codes "id")) c.names-names.ensures _ c.find.ensures.found c.find.ensures.there

pub label_rows-requires-clause-class : goal.label_rows-requires-clause-class
label_rows-requires-clause-class c = found_name (chars (codes "class")) c.names-names.ensures _ c.find-2.ensures.found c.find-2.ensures.there

pub label_rows-requires-clause-once : goal.label_rows-requires-clause-once
label_rows-requires-clause-once c = subst StandOnce c.names-names.ensures c.find.ensures.distinct

pub returns-clause-once : goal.returns-clause-once
returns-clause-once c = subst StandOnce c.names-names.ensures c.find.ensures.distinct
