use Rattle.std.proofs.Common.{◌≡◌, ◌∙◌, Ok, Err, sym, ap, subst}
use Rattle.job_json.specs.Checked.{map_ok}
use Rattle.job_json.specs.Shape.{node_in}
use Rattle.job_json.specs.Parts.{node_read}
use Rattle.job_json.specs.Held.{IsHeld}
use Rattle.job_json.specs.Kept.{held_of, judged_seen}
use Rattle.job_json.proofs.CheckedLaws.{passed_over, read_bad}
use Rattle.job_json.proofs.NodeListLaws.{one_node, node_bad}
use Rattle.job_json.proofs.node_list.NodesKeepItems.item.Goals as goal

pub returns-then-is_some-clause-ok : goal.returns-then-is_some-clause-ok
returns-then-is_some-clause-ok c =
    let old = c.args.self.now in
    let done = c.in_ok-pass.ensures.ok in
    (done.0, done.1, λ ds kept. passed_over node_in ds done.0 old.bad (λ list. IsHeld ds list (held_of old.kept)) _ (sym c.is_some.ensures ∙ c.if-is_some.true) kept)

pub returns-in_ok-push-in-Ok-clause-ok : goal.returns-in_ok-push-in-Ok-clause-ok
returns-in_ok-push-in-Ok-clause-ok c =
    let old = c.args.self.now in
    let done = c.in_ok-read.ensures.ok in
    let said : node_read c.in_ok-index.index done.0 ≡ Ok (judged_seen c.in-Ok.node) = done.2 c.in_ok-index.index ∙ (sym c.in_ok-node.ensures.node ∙ ap (map_ok judged_seen) c.in-Ok.is) in (
      done.0,
      done.1,
      λ ds kept.
          one_node ds done.0 old.bad (held_of old.kept) (held_of c.push.new.self) c.in-Ok.node (sym c.is_some.ensures ∙ c.if-is_some.false) kept
          (subst (λ k. node_read k done.0 ≡ Ok (judged_seen c.in-Ok.node)) c.in_ok-index.ensures said) c.in_ok-push-in-Ok.ensures,
    )

pub returns-in_ok-in_item-in-Err-clause-ok : goal.returns-in_ok-in_item-in-Err-clause-ok
returns-in_ok-in_item-in-Err-clause-ok c =
    let old = c.args.self.now in
    let done = c.in_ok-read.ensures.ok in
    let said : node_read c.in_ok-index.index done.0 ≡ Err c.in-Err.path = done.2 c.in_ok-index.index ∙ (sym c.in_ok-node.ensures.node ∙ ap (map_ok judged_seen) c.in-Err.is) in (
      done.0,
      done.1,
      λ ds kept.
          read_bad node_in ds done.0 old.bad (λ list. IsHeld ds list (held_of old.kept)) c.in_ok-index.index c.in-Err.path
          (sym c.is_some.ensures ∙ c.if-is_some.false) kept (λ list held. held.count ∙ sym c.in_ok-index.ensures)
          (node_bad c.in_ok-index.index done.0 c.in-Err.path said) ∙ ap (λ p. Err p) (sym c.in_ok-in_item-in-Err.ensures),
    )
