use Rattle.std.proofs.Common.{refl, sym, ap, ◌∙◌, option_and_then}
use Rattle.std.specs.Prelude.{codes}
use Rattle.serde_json.specs.Find.{as_str}
use Rattle.job_json.specs.Words.{origin_named, origin_from, enabled_from}
use Rattle.job_json.proofs.Puts.{here, there, beside}
use Rattle.job_json.proofs.sheet.SheetPartsKeepMembers.member.Goals as goal

pub returns-in_ok-text-in-origin-clause-ok : goal.returns-in_ok-text-in-origin-clause-ok
returns-in_ok-text-in-origin-clause-ok c =
    let key = c.args.key.now in
    let done = c.in_ok-text-in-origin.ensures.ok in (
      done.0,
      done.1,
      λ ms kept. record {
        origin = c.origin_in-self.ensures ∙ ap (option_and_then origin_named) (sym done.2) ∙ ap origin_from (here key done.0 ms (codes "origin") c.in-origin.is);
        enabled = kept.enabled ∙ ap enabled_from (beside key done.0 ms (codes "origin") (codes "enabled") c.in-origin.is refl);
        text = kept.text ∙ ap (option_and_then as_str) (beside key done.0 ms (codes "origin") (codes "text") c.in-origin.is refl);
      },
    )

pub returns-in_ok-self-in-enabled-clause-ok : goal.returns-in_ok-self-in-enabled-clause-ok
returns-in_ok-self-in-enabled-clause-ok c =
    let key = c.args.key.now in
    let done = c.in_ok-self-in-enabled.ensures.ok in (
      done.0,
      done.1,
      λ ms kept. record {
        origin = kept.origin ∙ ap origin_from (beside key done.0 ms (codes "enabled") (codes "origin") c.in-enabled.is refl);
        enabled = sym done.2 ∙ ap enabled_from (here key done.0 ms (codes "enabled") c.in-enabled.is);
        text = kept.text ∙ ap (option_and_then as_str) (beside key done.0 ms (codes "enabled") (codes "text") c.in-enabled.is refl);
      },
    )

pub returns-in_ok-self-in-text-clause-ok : goal.returns-in_ok-self-in-text-clause-ok
returns-in_ok-self-in-text-clause-ok c =
    let key = c.args.key.now in
    let done = c.in_ok-self-in-text.ensures.ok in (
      done.0,
      done.1,
      λ ms kept. record {
        origin = kept.origin ∙ ap origin_from (beside key done.0 ms (codes "text") (codes "origin") c.in-text.is refl);
        enabled = kept.enabled ∙ ap enabled_from (beside key done.0 ms (codes "text") (codes "enabled") c.in-text.is refl);
        text = sym done.2 ∙ ap (option_and_then as_str) (here key done.0 ms (codes "text") c.in-text.is);
      },
    )

pub returns-in_ok-pass-in_default-clause-ok : goal.returns-in_ok-pass-in_default-clause-ok
returns-in_ok-pass-in_default-clause-ok c =
    let key = c.args.key.now in
    let done = c.in_ok-pass-in_default.ensures.ok in (
      done.0,
      done.1,
      λ ms kept. record {
        origin = kept.origin ∙ ap origin_from (there key done.0 ms (codes "origin") c.in_default.not-origin);
        enabled = kept.enabled ∙ ap enabled_from (there key done.0 ms (codes "enabled") c.in_default.not-enabled);
        text = kept.text ∙ ap (option_and_then as_str) (there key done.0 ms (codes "text") c.in_default.not-text);
      },
    )
