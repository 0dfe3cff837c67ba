use Rattle.dom_tree.proofs.EndLemmas.{position_found}
use Rattle.dom_tree.proofs.doc.Doc.position.Goals as goal

pub returns : goal.returns
returns c = position_found c.args.self.now.elements c.args.x c.in_tree_order.ensures.order c.position_in.ensures
