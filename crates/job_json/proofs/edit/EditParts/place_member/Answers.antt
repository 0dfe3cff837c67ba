use Rattle.std.proofs.Common.{refl, sym, ap, ◌∙◌, option_and_then}
use Rattle.std.specs.Prelude.{codes}
use Rattle.serde_json.specs.Find.{as_str, as_bool}
use Rattle.job_json.specs.Words.{whole, name_of}
use Rattle.job_json.specs.NewNodes.{new_nodes_in}
use Rattle.job_json.specs.Edits.{state_from}
use Rattle.job_json.proofs.Puts.{here, beside}
use Rattle.job_json.proofs.SheetLaws.{input_beside}
use Rattle.job_json.proofs.edit.EditParts.place_member.Goals as goal

pub returns-in_ok-self-in-parent-clause-ok : goal.returns-in_ok-self-in-parent-clause-ok
returns-in_ok-self-in-parent-clause-ok c =
    let key = c.args.key.now in
    let done = c.in_ok-self-in-parent.ensures.ok in (
      done.0,
      done.1,
      λ ms kept. record {
        op = kept.op ∙ ap (option_and_then as_str) (beside key done.0 ms (codes "parent") (codes "op") c.in-parent.is refl);
        node = kept.node ∙ ap (option_and_then whole) (beside key done.0 ms (codes "parent") (codes "node") c.in-parent.is refl);
        parent = sym done.2 ∙ ap (option_and_then whole) (here key done.0 ms (codes "parent") c.in-parent.is);
        index = kept.index ∙ ap (option_and_then whole) (beside key done.0 ms (codes "parent") (codes "index") c.in-parent.is refl);
        nodes = kept.nodes ∙ ap new_nodes_in (beside key done.0 ms (codes "parent") (codes "nodes") c.in-parent.is refl);
        name = kept.name ∙ ap (option_and_then name_of) (beside key done.0 ms (codes "parent") (codes "name") c.in-parent.is refl);
        value = kept.value ∙ ap (option_and_then as_str) (beside key done.0 ms (codes "parent") (codes "value") c.in-parent.is refl);
        state = kept.state ∙ ap state_from (beside key done.0 ms (codes "parent") (codes "state") c.in-parent.is refl);
        on = kept.on ∙ ap (option_and_then as_bool) (beside key done.0 ms (codes "parent") (codes "on") c.in-parent.is refl);
        sheet = kept.sheet ∙ ap (option_and_then whole) (beside key done.0 ms (codes "parent") (codes "sheet") c.in-parent.is refl);
        input = input_beside _ key done.0 ms (codes "parent") c.in-parent.is refl refl refl kept.input;
      },
    )

pub returns-in_ok-self-in-index-clause-ok : goal.returns-in_ok-self-in-index-clause-ok
returns-in_ok-self-in-index-clause-ok c =
    let key = c.args.key.now in
    let done = c.in_ok-self-in-index.ensures.ok in (
      done.0,
      done.1,
      λ ms kept. record {
        op = kept.op ∙ ap (option_and_then as_str) (beside key done.0 ms (codes "index") (codes "op") c.in-index.is refl);
        node = kept.node ∙ ap (option_and_then whole) (beside key done.0 ms (codes "index") (codes "node") c.in-index.is refl);
        parent = kept.parent ∙ ap (option_and_then whole) (beside key done.0 ms (codes "index") (codes "parent") c.in-index.is refl);
        index = sym done.2 ∙ ap (option_and_then whole) (here key done.0 ms (codes "index") c.in-index.is);
        nodes = kept.nodes ∙ ap new_nodes_in (beside key done.0 ms (codes "index") (codes "nodes") c.in-index.is refl);
        name = kept.name ∙ ap (option_and_then name_of) (beside key done.0 ms (codes "index") (codes "name") c.in-index.is refl);
        value = kept.value ∙ ap (option_and_then as_str) (beside key done.0 ms (codes "index") (codes "value") c.in-index.is refl);
        state = kept.state ∙ ap state_from (beside key done.0 ms (codes "index") (codes "state") c.in-index.is refl);
        on = kept.on ∙ ap (option_and_then as_bool) (beside key done.0 ms (codes "index") (codes "on") c.in-index.is refl);
        sheet = kept.sheet ∙ ap (option_and_then whole) (beside key done.0 ms (codes "index") (codes "sheet") c.in-index.is refl);
        input = input_beside _ key done.0 ms (codes "index") c.in-index.is refl refl refl kept.input;
      },
    )

pub returns-in_ok-self-in-nodes-clause-ok : goal.returns-in_ok-self-in-nodes-clause-ok
returns-in_ok-self-in-nodes-clause-ok c =
    let key = c.args.key.now in
    let done = c.in_ok-self-in-nodes.ensures.ok in (
      done.0,
      done.1,
      λ ms kept. record {
        op = kept.op ∙ ap (option_and_then as_str) (beside key done.0 ms (codes "nodes") (codes "op") c.in-nodes.is refl);
        node = kept.node ∙ ap (option_and_then whole) (beside key done.0 ms (codes "nodes") (codes "node") c.in-nodes.is refl);
        parent = kept.parent ∙ ap (option_and_then whole) (beside key done.0 ms (codes "nodes") (codes "parent") c.in-nodes.is refl);
        index = kept.index ∙ ap (option_and_then whole) (beside key done.0 ms (codes "nodes") (codes "index") c.in-nodes.is refl);
        nodes = sym done.2 ∙ ap new_nodes_in (here key done.0 ms (codes "nodes") c.in-nodes.is);
        name = kept.name ∙ ap (option_and_then name_of) (beside key done.0 ms (codes "nodes") (codes "name") c.in-nodes.is refl);
        value = kept.value ∙ ap (option_and_then as_str) (beside key done.0 ms (codes "nodes") (codes "value") c.in-nodes.is refl);
        state = kept.state ∙ ap state_from (beside key done.0 ms (codes "nodes") (codes "state") c.in-nodes.is refl);
        on = kept.on ∙ ap (option_and_then as_bool) (beside key done.0 ms (codes "nodes") (codes "on") c.in-nodes.is refl);
        sheet = kept.sheet ∙ ap (option_and_then whole) (beside key done.0 ms (codes "nodes") (codes "sheet") c.in-nodes.is refl);
        input = input_beside _ key done.0 ms (codes "nodes") c.in-nodes.is refl refl refl kept.input;
      },
    )
