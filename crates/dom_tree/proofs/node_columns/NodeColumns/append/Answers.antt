use Rattle.std.proofs.Common.{◌≡◌, ap, arith, length, subst, sym, ◌∙◌, ◌++◌}
use Rattle.std.proofs.lemmas.List.{length-map}
use Rattle.base_model.proofs.Results.{on_err}
use Rattle.stylo_base.specs.NameList.{StandOnce}
use Rattle.dom_tree.specs.Kept.{Table, node_seen}
use Rattle.dom_tree.proofs.AppendedColumns.{nodes_appended}
use Rattle.dom_tree.proofs.node_columns.NodeColumns.append.Goals as goal

pub rename_rows-requires-clause-few : goal.rename_rows-requires-clause-few
rename_rows-requires-clause-few c =
    omega (
      arith,
      c.requires.few,
      c.len-last.ensures,
      c.self.inside.rows.ok.0,
      ap (λ (t : Table). length t.nodes) c.self.view_is,
      length-map c.self.inside.rows.items
          (node_seen c.self.inside.names c.self.inside.attrs.items),
    )

pub rename_rows-requires-clause-once : goal.rename_rows-requires-clause-once
rename_rows-requires-clause-once c = subst StandOnce (sym (ap (λ (t : Table). t.names) c.self.view_is)) c.requires.once

pub invariant_of-self : goal.invariant_of-self
invariant_of-self c = c.rename_rows.ensures.kept.rows c.self.inside.rows.items c.self.invariant

pub returns-in_err-made-clause-err : goal.returns-in_err-made-clause-err
returns-in_err-made-clause-err c = on_err _ _ (c.rename_rows.ensures.kept.nodes c.self.inside.rows.items c.self.invariant ∙ ap (λ (t : Table). t.nodes) c.self.view_is)

pub returns-clause-ok : goal.returns-clause-ok
returns-clause-ok c =
    let many : c.len-last.result ≡ length c.args.self.now.nodes = omega (
      arith,
      c.len-last.ensures,
      c.self.inside.rows.ok.0,
      ap (λ
          (t : Table). length t.nodes) c.self.view_is,
      length-map c.self.inside.rows.items (node_seen c.self.inside.names c.self.inside.attrs.items),
    ) in
    nodes_appended c.self.inside.rows.items c.in_ok-made.made.items c.rename_rows.ensures.kept c.self.invariant c.in_ok-made.ensures.rows (c.in_ok-extend_from_slice.ensures.items
    ∙ ap (λ l. c.self.inside.rows.items ++ l) c.deref.ensures.value)
    c.args.parent c.args.list.now.nodes c.self.view_is c.in_ok-made.ensures.nodes many
