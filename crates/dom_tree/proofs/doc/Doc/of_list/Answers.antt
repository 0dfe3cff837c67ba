use Rattle.std.proofs.Common.{ap, ◌∙◌, length, true}
use Rattle.std.proofs.Math.ListN.{replicate}
use Rattle.dom_tree.proofs.DocLemmas.{document_of_list, whole_of_list}
use Rattle.dom_tree.proofs.doc.Doc.of_list.Goals as goal

pub invariant_of-result : goal.invariant_of-result
invariant_of-result c =
    let found = c.in_ok-children.ensures in
    let looked = c.in_ok-places.ensures in
    let all = looked.present ∙ ap (λ n. replicate n true) (ap length c.into_columns-columns.ensures.nodes) in
    whole_of_list found.shape c.into_columns-columns.ensures.nodes c.requires found.parts found.children
    looked.index looked.before looked.after looked.tally looked.tags looked.once looked.labels looked.cuts found.order all

pub returns : goal.returns
returns c = document_of_list c.into_columns-columns.result c.into_columns-columns.ensures.nodes c.in_ok-children.ensures.order
