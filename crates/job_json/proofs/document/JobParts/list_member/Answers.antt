use Rattle.std.proofs.Common.{refl, sym, ap, ◌∙◌, option_and_then}
use Rattle.std.specs.Prelude.{codes}
use Rattle.job_json.specs.Words.{whole, is_one}
use Rattle.job_json.specs.Parts.{nodes_read, sheets_read, batches_read}
use Rattle.job_json.proofs.Puts.{here, there, beside}
use Rattle.job_json.proofs.document.JobParts.list_member.Goals as goal

pub returns-in_ok-self-in-batches-clause-ok : goal.returns-in_ok-self-in-batches-clause-ok
returns-in_ok-self-in-batches-clause-ok c =
    let key = c.args.key.now in
    let done = c.in_ok-self-in-batches.ensures.ok in (
      done.0,
      done.1,
      λ ms kept. record {
        version = kept.version ∙ ap (λ o. is_one (option_and_then whole o)) (beside key done.0 ms (codes "batches") (codes "version") c.in-batches.is refl);
        batches = sym done.2 ∙ ap batches_read (here key done.0 ms (codes "batches") c.in-batches.is);
        nodes = kept.nodes ∙ ap nodes_read (beside key done.0 ms (codes "batches") (codes "nodes") c.in-batches.is refl);
        sheets = kept.sheets ∙ ap sheets_read (beside key done.0 ms (codes "batches") (codes "sheets") c.in-batches.is refl);
      },
    )

pub returns-in_ok-self-in-sheets-clause-ok : goal.returns-in_ok-self-in-sheets-clause-ok
returns-in_ok-self-in-sheets-clause-ok c =
    let key = c.args.key.now in
    let done = c.in_ok-self-in-sheets.ensures.ok in (
      done.0,
      done.1,
      λ ms kept. record {
        version = kept.version ∙ ap (λ o. is_one (option_and_then whole o)) (beside key done.0 ms (codes "sheets") (codes "version") c.in-sheets.is refl);
        batches = kept.batches ∙ ap batches_read (beside key done.0 ms (codes "sheets") (codes "batches") c.in-sheets.is refl);
        nodes = kept.nodes ∙ ap nodes_read (beside key done.0 ms (codes "sheets") (codes "nodes") c.in-sheets.is refl);
        sheets = sym done.2 ∙ ap sheets_read (here key done.0 ms (codes "sheets") c.in-sheets.is);
      },
    )

pub returns-in_ok-pass-in_default-clause-ok : goal.returns-in_ok-pass-in_default-clause-ok
returns-in_ok-pass-in_default-clause-ok c =
    let key = c.args.key.now in
    let done = c.in_ok-pass-in_default.ensures.ok in (
      done.0,
      done.1,
      λ ms kept. record {
        version = kept.version ∙ ap (λ o. is_one (option_and_then whole o)) (there key done.0 ms (codes "version") c.requires.version);
        batches = kept.batches ∙ ap batches_read (there key done.0 ms (codes "batches") c.in_default.not-batches);
        nodes = kept.nodes ∙ ap nodes_read (there key done.0 ms (codes "nodes") c.requires.nodes);
        sheets = kept.sheets ∙ ap sheets_read (there key done.0 ms (codes "sheets") c.in_default.not-sheets);
      },
    )
