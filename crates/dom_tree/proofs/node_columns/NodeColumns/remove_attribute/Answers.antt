use Rattle.std.proofs.Common.{rules, subst, ◌≡◌, None, IfSome, slice_get, option_map}
use Rattle.std.specs.FinMap as finmap
use Rattle.scene_model.specs.Nodes.{Node}
use Rattle.dom_tree.specs.Kept.{text_of}
use Rattle.dom_tree.proofs.NameLemmas.{text_at}
use Rattle.dom_tree.proofs.EditLemmas.{put_absent}
use Rattle.dom_tree.proofs.node_columns.NodeColumns.remove_attribute.Goals as goal

pub returns-then-is_none-clause-ok : goal.returns-then-is_none-clause-ok
returns-then-is_none-clause-ok c =
    let none : c.value.result ≡ None = search rules in
    let name = text_of c.args.self.now.names c.args.name in
    put_absent c.args.self.now.nodes c.args.index name
    (subst (λ o. IfSome (slice_get c.args.self.now.nodes c.args.index) (λ (node : Node). option_map (text_of c.args.self.now.names) o ≡ finmap.get node.attrs name)) none
    (c.value.ensures.value name (text_at c.args.self.now.names c.args.name c.requires.name)))
