use Rattle.dom_tree.proofs.LabelLemmas.{id_among-is}
use Rattle.dom_tree.proofs.labels.id_among.Goals as goal

pub returns-then-is_empty-clause-text : goal.returns-then-is_empty-clause-text
returns-then-is_empty-clause-text c = id_among-is c.args.names.now _ c.in_ok-value.was c.text.ensures c.text.utf8 c.is_empty.ensures c.if-is_empty.true

pub returns-else-is_empty-clause-text : goal.returns-else-is_empty-clause-text
returns-else-is_empty-clause-text c = id_among-is c.args.names.now _ c.in_ok-value.was c.text.ensures c.text.utf8 c.is_empty.ensures c.if-is_empty.false
