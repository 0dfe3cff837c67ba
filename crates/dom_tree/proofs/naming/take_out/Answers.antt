use Rattle.std.proofs.Common.{rules, ◌==◌, not}
use Rattle.std.proofs.lemmas.Fn.{filter_same}
use Rattle.dom_tree.proofs.naming.take_out.Goals as goal

pub returns : goal.returns
returns c = filter_same _ (λ row. not (row.name == c.args.name)) _ (λ x b f called. search rules) _ _ c.retain.ensures.filtered
