use Rattle.std.proofs.Common.{refl, sym, ap, ◌∙◌, option_map, option_and_then}
use Rattle.std.specs.Prelude.{codes}
use Rattle.serde_json.specs.Find.{as_str, as_bool}
use Rattle.job_json.specs.Words.{whole, name_of, state_named}
use Rattle.job_json.specs.NewNodes.{new_nodes_in}
use Rattle.job_json.specs.Edits.{state_answered, state_from}
use Rattle.job_json.proofs.Puts.{here, there, beside}
use Rattle.job_json.proofs.SheetLaws.{input_beside}
use Rattle.job_json.proofs.EditLaws.{answered_seen}
use Rattle.job_json.proofs.edit.EditParts.rare_member.Goals as goal

pub returns-in_ok-text-in-state-clause-ok : goal.returns-in_ok-text-in-state-clause-ok
returns-in_ok-text-in-state-clause-ok c =
    let key = c.args.key.now in
    let done = c.in_ok-text-in-state.ensures.ok in (
      done.0,
      done.1,
      λ ms kept. record {
        op = kept.op ∙ ap (option_and_then as_str) (beside key done.0 ms (codes "state") (codes "op") c.in-state.is refl);
        node = kept.node ∙ ap (option_and_then whole) (beside key done.0 ms (codes "state") (codes "node") c.in-state.is refl);
        parent = kept.parent ∙ ap (option_and_then whole) (beside key done.0 ms (codes "state") (codes "parent") c.in-state.is refl);
        index = kept.index ∙ ap (option_and_then whole) (beside key done.0 ms (codes "state") (codes "index") c.in-state.is refl);
        nodes = kept.nodes ∙ ap new_nodes_in (beside key done.0 ms (codes "state") (codes "nodes") c.in-state.is refl);
        name = kept.name ∙ ap (option_and_then name_of) (beside key done.0 ms (codes "state") (codes "name") c.in-state.is refl);
        value = kept.value ∙ ap (option_and_then as_str) (beside key done.0 ms (codes "state") (codes "value") c.in-state.is refl);
        state =
            sym (answered_seen _) ∙ ap (option_map state_answered) c.state_named-self.ensures
            ∙ ap (λ o. option_map state_answered (option_and_then state_named o)) (sym done.2) ∙ ap state_from (here key done.0 ms (codes "state") c.in-state.is);
        on = kept.on ∙ ap (option_and_then as_bool) (beside key done.0 ms (codes "state") (codes "on") c.in-state.is refl);
        sheet = kept.sheet ∙ ap (option_and_then whole) (beside key done.0 ms (codes "state") (codes "sheet") c.in-state.is refl);
        input = input_beside _ key done.0 ms (codes "state") c.in-state.is refl refl refl kept.input;
      },
    )

pub returns-in_ok-self-in-on-clause-ok : goal.returns-in_ok-self-in-on-clause-ok
returns-in_ok-self-in-on-clause-ok c =
    let key = c.args.key.now in
    let done = c.in_ok-self-in-on.ensures.ok in (
      done.0,
      done.1,
      λ ms kept. record {
        op = kept.op ∙ ap (option_and_then as_str) (beside key done.0 ms (codes "on") (codes "op") c.in-on.is refl);
        node = kept.node ∙ ap (option_and_then whole) (beside key done.0 ms (codes "on") (codes "node") c.in-on.is refl);
        parent = kept.parent ∙ ap (option_and_then whole) (beside key done.0 ms (codes "on") (codes "parent") c.in-on.is refl);
        index = kept.index ∙ ap (option_and_then whole) (beside key done.0 ms (codes "on") (codes "index") c.in-on.is refl);
        nodes = kept.nodes ∙ ap new_nodes_in (beside key done.0 ms (codes "on") (codes "nodes") c.in-on.is refl);
        name = kept.name ∙ ap (option_and_then name_of) (beside key done.0 ms (codes "on") (codes "name") c.in-on.is refl);
        value = kept.value ∙ ap (option_and_then as_str) (beside key done.0 ms (codes "on") (codes "value") c.in-on.is refl);
        state = kept.state ∙ ap state_from (beside key done.0 ms (codes "on") (codes "state") c.in-on.is refl);
        on = sym done.2 ∙ ap (option_and_then as_bool) (here key done.0 ms (codes "on") c.in-on.is);
        sheet = kept.sheet ∙ ap (option_and_then whole) (beside key done.0 ms (codes "on") (codes "sheet") c.in-on.is refl);
        input = input_beside _ key done.0 ms (codes "on") c.in-on.is refl refl refl kept.input;
      },
    )

pub returns-in_ok-self-in-sheet-clause-ok : goal.returns-in_ok-self-in-sheet-clause-ok
returns-in_ok-self-in-sheet-clause-ok c =
    let key = c.args.key.now in
    let done = c.in_ok-self-in-sheet.ensures.ok in (
      done.0,
      done.1,
      λ ms kept. record {
        op = kept.op ∙ ap (option_and_then as_str) (beside key done.0 ms (codes "sheet") (codes "op") c.in-sheet.is refl);
        node = kept.node ∙ ap (option_and_then whole) (beside key done.0 ms (codes "sheet") (codes "node") c.in-sheet.is refl);
        parent = kept.parent ∙ ap (option_and_then whole) (beside key done.0 ms (codes "sheet") (codes "parent") c.in-sheet.is refl);
        index = kept.index ∙ ap (option_and_then whole) (beside key done.0 ms (codes "sheet") (codes "index") c.in-sheet.is refl);
        nodes = kept.nodes ∙ ap new_nodes_in (beside key done.0 ms (codes "sheet") (codes "nodes") c.in-sheet.is refl);
        name = kept.name ∙ ap (option_and_then name_of) (beside key done.0 ms (codes "sheet") (codes "name") c.in-sheet.is refl);
        value = kept.value ∙ ap (option_and_then as_str) (beside key done.0 ms (codes "sheet") (codes "value") c.in-sheet.is refl);
        state = kept.state ∙ ap state_from (beside key done.0 ms (codes "sheet") (codes "state") c.in-sheet.is refl);
        on = kept.on ∙ ap (option_and_then as_bool) (beside key done.0 ms (codes "sheet") (codes "on") c.in-sheet.is refl);
        sheet = sym done.2 ∙ ap (option_and_then whole) (here key done.0 ms (codes "sheet") c.in-sheet.is);
        input = input_beside _ key done.0 ms (codes "sheet") c.in-sheet.is refl refl refl kept.input;
      },
    )

pub returns-in_ok-member-in_default-clause-ok : goal.returns-in_ok-member-in_default-clause-ok
returns-in_ok-member-in_default-clause-ok c =
    let key = c.args.key.now in
    let done = c.in_ok-member-in_default.ensures.ok in (
      done.0,
      done.1,
      λ ms kept. record {
        op = kept.op ∙ ap (option_and_then as_str) (there key done.0 ms (codes "op") c.requires.op);
        node = kept.node ∙ ap (option_and_then whole) (there key done.0 ms (codes "node") c.requires.node);
        parent = kept.parent ∙ ap (option_and_then whole) (there key done.0 ms (codes "parent") c.requires.parent);
        index = kept.index ∙ ap (option_and_then whole) (there key done.0 ms (codes "index") c.requires.index);
        nodes = kept.nodes ∙ ap new_nodes_in (there key done.0 ms (codes "nodes") c.requires.nodes);
        name = kept.name ∙ ap (option_and_then name_of) (there key done.0 ms (codes "name") c.requires.name);
        value = kept.value ∙ ap (option_and_then as_str) (there key done.0 ms (codes "value") c.requires.value);
        state = kept.state ∙ ap state_from (there key done.0 ms (codes "state") c.in_default.not-state);
        on = kept.on ∙ ap (option_and_then as_bool) (there key done.0 ms (codes "on") c.in_default.not-on);
        sheet = kept.sheet ∙ ap (option_and_then whole) (there key done.0 ms (codes "sheet") c.in_default.not-sheet);
        input = done.2 ms kept.input;
      },
    )
