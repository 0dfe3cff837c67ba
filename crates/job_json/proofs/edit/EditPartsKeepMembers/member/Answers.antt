use Rattle.std.proofs.Common.{refl, sym, ap, ◌∙◌, option_and_then}
use Rattle.std.specs.Prelude.{codes}
use Rattle.serde_json.specs.Find.{as_str, as_bool}
use Rattle.job_json.specs.Words.{whole, name_of, name_said}
use Rattle.job_json.specs.NewNodes.{new_nodes_in}
use Rattle.job_json.specs.Edits.{state_from}
use Rattle.job_json.proofs.Puts.{here, beside}
use Rattle.job_json.proofs.SheetLaws.{input_beside}
use Rattle.job_json.proofs.edit.EditPartsKeepMembers.member.Goals as goal

pub returns-in_ok-self-in-op-clause-ok : goal.returns-in_ok-self-in-op-clause-ok
returns-in_ok-self-in-op-clause-ok c =
    let key = c.args.key.now in
    let done = c.in_ok-self-in-op.ensures.ok in (
      done.0,
      done.1,
      λ ms kept. record {
        op = sym done.2 ∙ ap (option_and_then as_str) (here key done.0 ms (codes "op") c.in-op.is);
        node = kept.node ∙ ap (option_and_then whole) (beside key done.0 ms (codes "op") (codes "node") c.in-op.is refl);
        parent = kept.parent ∙ ap (option_and_then whole) (beside key done.0 ms (codes "op") (codes "parent") c.in-op.is refl);
        index = kept.index ∙ ap (option_and_then whole) (beside key done.0 ms (codes "op") (codes "index") c.in-op.is refl);
        nodes = kept.nodes ∙ ap new_nodes_in (beside key done.0 ms (codes "op") (codes "nodes") c.in-op.is refl);
        name = kept.name ∙ ap (option_and_then name_of) (beside key done.0 ms (codes "op") (codes "name") c.in-op.is refl);
        value = kept.value ∙ ap (option_and_then as_str) (beside key done.0 ms (codes "op") (codes "value") c.in-op.is refl);
        state = kept.state ∙ ap state_from (beside key done.0 ms (codes "op") (codes "state") c.in-op.is refl);
        on = kept.on ∙ ap (option_and_then as_bool) (beside key done.0 ms (codes "op") (codes "on") c.in-op.is refl);
        sheet = kept.sheet ∙ ap (option_and_then whole) (beside key done.0 ms (codes "op") (codes "sheet") c.in-op.is refl);
        input = input_beside _ key done.0 ms (codes "op") c.in-op.is refl refl refl kept.input;
      },
    )

pub returns-in_ok-self-in-node-clause-ok : goal.returns-in_ok-self-in-node-clause-ok
returns-in_ok-self-in-node-clause-ok c =
    let key = c.args.key.now in
    let done = c.in_ok-self-in-node.ensures.ok in (
      done.0,
      done.1,
      λ ms kept. record {
        op = kept.op ∙ ap (option_and_then as_str) (beside key done.0 ms (codes "node") (codes "op") c.in-node.is refl);
        node = sym done.2 ∙ ap (option_and_then whole) (here key done.0 ms (codes "node") c.in-node.is);
        parent = kept.parent ∙ ap (option_and_then whole) (beside key done.0 ms (codes "node") (codes "parent") c.in-node.is refl);
        index = kept.index ∙ ap (option_and_then whole) (beside key done.0 ms (codes "node") (codes "index") c.in-node.is refl);
        nodes = kept.nodes ∙ ap new_nodes_in (beside key done.0 ms (codes "node") (codes "nodes") c.in-node.is refl);
        name = kept.name ∙ ap (option_and_then name_of) (beside key done.0 ms (codes "node") (codes "name") c.in-node.is refl);
        value = kept.value ∙ ap (option_and_then as_str) (beside key done.0 ms (codes "node") (codes "value") c.in-node.is refl);
        state = kept.state ∙ ap state_from (beside key done.0 ms (codes "node") (codes "state") c.in-node.is refl);
        on = kept.on ∙ ap (option_and_then as_bool) (beside key done.0 ms (codes "node") (codes "on") c.in-node.is refl);
        sheet = kept.sheet ∙ ap (option_and_then whole) (beside key done.0 ms (codes "node") (codes "sheet") c.in-node.is refl);
        input = input_beside _ key done.0 ms (codes "node") c.in-node.is refl refl refl kept.input;
      },
    )

pub returns-in_ok-text-in-name-clause-ok : goal.returns-in_ok-text-in-name-clause-ok
returns-in_ok-text-in-name-clause-ok c =
    let key = c.args.key.now in
    let done = c.in_ok-text-in-name.ensures.ok in (
      done.0,
      done.1,
      λ ms kept. record {
        op = kept.op ∙ ap (option_and_then as_str) (beside key done.0 ms (codes "name") (codes "op") c.in-name.is refl);
        node = kept.node ∙ ap (option_and_then whole) (beside key done.0 ms (codes "name") (codes "node") c.in-name.is refl);
        parent = kept.parent ∙ ap (option_and_then whole) (beside key done.0 ms (codes "name") (codes "parent") c.in-name.is refl);
        index = kept.index ∙ ap (option_and_then whole) (beside key done.0 ms (codes "name") (codes "index") c.in-name.is refl);
        nodes = kept.nodes ∙ ap new_nodes_in (beside key done.0 ms (codes "name") (codes "nodes") c.in-name.is refl);
        name = c.name_in-self.ensures ∙ ap (option_and_then name_said) (sym done.2) ∙ ap (option_and_then name_of) (here key done.0 ms (codes "name") c.in-name.is);
        value = kept.value ∙ ap (option_and_then as_str) (beside key done.0 ms (codes "name") (codes "value") c.in-name.is refl);
        state = kept.state ∙ ap state_from (beside key done.0 ms (codes "name") (codes "state") c.in-name.is refl);
        on = kept.on ∙ ap (option_and_then as_bool) (beside key done.0 ms (codes "name") (codes "on") c.in-name.is refl);
        sheet = kept.sheet ∙ ap (option_and_then whole) (beside key done.0 ms (codes "name") (codes "sheet") c.in-name.is refl);
        input = input_beside _ key done.0 ms (codes "name") c.in-name.is refl refl refl kept.input;
      },
    )

pub returns-in_ok-self-in-value-clause-ok : goal.returns-in_ok-self-in-value-clause-ok
returns-in_ok-self-in-value-clause-ok c =
    let key = c.args.key.now in
    let done = c.in_ok-self-in-value.ensures.ok in (
      done.0,
      done.1,
      λ ms kept. record {
        op = kept.op ∙ ap (option_and_then as_str) (beside key done.0 ms (codes "value") (codes "op") c.in-value.is refl);
        node = kept.node ∙ ap (option_and_then whole) (beside key done.0 ms (codes "value") (codes "node") c.in-value.is refl);
        parent = kept.parent ∙ ap (option_and_then whole) (beside key done.0 ms (codes "value") (codes "parent") c.in-value.is refl);
        index = kept.index ∙ ap (option_and_then whole) (beside key done.0 ms (codes "value") (codes "index") c.in-value.is refl);
        nodes = kept.nodes ∙ ap new_nodes_in (beside key done.0 ms (codes "value") (codes "nodes") c.in-value.is refl);
        name = kept.name ∙ ap (option_and_then name_of) (beside key done.0 ms (codes "value") (codes "name") c.in-value.is refl);
        value = sym done.2 ∙ ap (option_and_then as_str) (here key done.0 ms (codes "value") c.in-value.is);
        state = kept.state ∙ ap state_from (beside key done.0 ms (codes "value") (codes "state") c.in-value.is refl);
        on = kept.on ∙ ap (option_and_then as_bool) (beside key done.0 ms (codes "value") (codes "on") c.in-value.is refl);
        sheet = kept.sheet ∙ ap (option_and_then whole) (beside key done.0 ms (codes "value") (codes "sheet") c.in-value.is refl);
        input = input_beside _ key done.0 ms (codes "value") c.in-value.is refl refl refl kept.input;
      },
    )
