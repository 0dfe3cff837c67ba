use Rattle.std.proofs.Common.{◌≡◌, ◌≤◌, Some, ap, arith, length, option_map, sym, ◌∙◌}
use Rattle.scene_model.specs.Lookups.{children}
use Rattle.edit_model.specs.Apply.{refusal}
use Rattle.edit_model.specs.Edit.{insert}
use Rattle.dom_edits.specs.declared.edits.NewNodes.{NewNodes}
use Rattle.dom_edits.specs.EditView.{nodes_beyond, nodes_seen, refusal_answered, refused_by}
use Rattle.dom_edits.proofs.BeyondLemmas.{beyond_past}
use Rattle.dom_edits.proofs.JudgeLemmas.{by_limits, index_fits, past_nodes, there}
use Rattle.dom_edits.proofs.refusals.judge_insertion.Goals as goal

pub returns-in-Past-clause-judged : goal.returns-in-Past-clause-judged
returns-in-Past-clause-judged c =
    let d = c.args.doc.now in
    let which = c.in-Past.which in
    let known = c.in_ok-p.ensures.known in
    let fits : c.args.index ≤ length (children d.elements c.args.parent) = omega (arith, c.if-index-children.false, ap length c.children.ensures.children, ap (λ p. length (children d.elements p)) known.0) in
    ap (λ (n : NewNodes). option_map refusal_answered (refusal d (insert c.args.parent c.args.index (nodes_seen n)))) c.in-Past.is
    ∙ (ap (option_map refusal_answered) (by_limits d (insert c.args.parent c.args.index (nodes_beyond which)) (there d c.args.parent known.1) (index_fits c.args.index (length (children d.elements c.args.parent)) fits) ∙ past_nodes d c.args.parent c.args.index (nodes_beyond which) (refused_by which) (beyond_past which))
    ∙ ap Some (sym c.refusal_by.ensures))
