use Rattle.std.proofs.Common.{refl, sym, ap, ◌∙◌, option_and_then}
use Rattle.std.specs.Prelude.{codes}
use Rattle.job_json.specs.Words.{whole, is_one}
use Rattle.job_json.specs.Parts.{nodes_read, sheets_read, batches_read}
use Rattle.job_json.proofs.Puts.{here, beside}
use Rattle.job_json.proofs.document.JobPartsKeepMembers.member.Goals as goal

pub returns-in_ok-whole-in-version-clause-ok : goal.returns-in_ok-whole-in-version-clause-ok
returns-in_ok-whole-in-version-clause-ok c =
    let key = c.args.key.now in
    let done = c.in_ok-whole-in-version.ensures.ok in (
      done.0,
      done.1,
      λ ms kept. record {
        version = c.is_one-self.ensures ∙ ap is_one (sym done.2) ∙ ap (λ o. is_one (option_and_then whole o)) (here key done.0 ms (codes "version") c.in-version.is);
        batches = kept.batches ∙ ap batches_read (beside key done.0 ms (codes "version") (codes "batches") c.in-version.is refl);
        nodes = kept.nodes ∙ ap nodes_read (beside key done.0 ms (codes "version") (codes "nodes") c.in-version.is refl);
        sheets = kept.sheets ∙ ap sheets_read (beside key done.0 ms (codes "version") (codes "sheets") c.in-version.is refl);
      },
    )

pub returns-in_ok-self-in-nodes-clause-ok : goal.returns-in_ok-self-in-nodes-clause-ok
returns-in_ok-self-in-nodes-clause-ok c =
    let key = c.args.key.now in
    let done = c.in_ok-self-in-nodes.ensures.ok in (
      done.0,
      done.1,
      λ ms kept. record {
        version = kept.version ∙ ap (λ o. is_one (option_and_then whole o)) (beside key done.0 ms (codes "nodes") (codes "version") c.in-nodes.is refl);
        batches = kept.batches ∙ ap batches_read (beside key done.0 ms (codes "nodes") (codes "batches") c.in-nodes.is refl);
        nodes = sym done.2 ∙ ap nodes_read (here key done.0 ms (codes "nodes") c.in-nodes.is);
        sheets = kept.sheets ∙ ap sheets_read (beside key done.0 ms (codes "nodes") (codes "sheets") c.in-nodes.is refl);
      },
    )
