use Rattle.std.proofs.Common.{refl, sym, ap, ◌∙◌, subst, option_and_then}
use Rattle.std.specs.Prelude.{ℕ, codes, Option, Some, IfSome, option_map}
use Rattle.job_json.specs.Words.{name_of, name_said, named_parent}
use Rattle.job_json.specs.Shape.{states_in}
use Rattle.job_json.specs.NewNodes.{TellsLimits}
use Rattle.job_json.specs.Parts.{attrs_read}
use Rattle.job_json.proofs.Puts.{here, there, beside}
use Rattle.job_json.proofs.node.NodePartsKeepMembers.member.Goals as goal

pub returns-in_ok-text-in-tag-clause-ok : goal.returns-in_ok-text-in-tag-clause-ok
returns-in_ok-text-in-tag-clause-ok c =
    let key = c.args.key.now in
    let done = c.in_ok-text-in-tag.ensures.ok in (
      done.0,
      done.1,
      λ ms kept. record {
        tag = c.name_in-self.ensures ∙ ap (option_and_then name_said) (sym done.2) ∙ ap (option_and_then name_of) (here key done.0 ms (codes "tag") c.in-tag.is);
        parent = kept.parent ∙ ap named_parent (beside key done.0 ms (codes "tag") (codes "parent") c.in-tag.is refl);
        states = kept.states ∙ ap states_in (beside key done.0 ms (codes "tag") (codes "states") c.in-tag.is refl);
        attrs = kept.attrs ∙ ap attrs_read (beside key done.0 ms (codes "tag") (codes "attrs") c.in-tag.is refl);
        limits = subst TellsLimits (beside key done.0 ms (codes "tag") (codes "attrs") c.in-tag.is refl) kept.limits;
      },
    )

pub returns-in_ok-whole-in-parent-clause-ok : goal.returns-in_ok-whole-in-parent-clause-ok
returns-in_ok-whole-in-parent-clause-ok c =
    let key = c.args.key.now in
    let done = c.in_ok-whole-in-parent.ensures.ok in (
      done.0,
      done.1,
      λ ms kept. record {
        tag = kept.tag ∙ ap (option_and_then name_of) (beside key done.0 ms (codes "parent") (codes "tag") c.in-parent.is refl);
        parent = c.named-self.ensures ∙ ap (option_map {U = Option ℕ} (λ p. Some p)) (sym done.2) ∙ ap named_parent (here key done.0 ms (codes "parent") c.in-parent.is);
        states = kept.states ∙ ap states_in (beside key done.0 ms (codes "parent") (codes "states") c.in-parent.is refl);
        attrs = kept.attrs ∙ ap attrs_read (beside key done.0 ms (codes "parent") (codes "attrs") c.in-parent.is refl);
        limits = subst TellsLimits (beside key done.0 ms (codes "parent") (codes "attrs") c.in-parent.is refl) kept.limits;
      },
    )

pub returns-in_ok-self-in-states-clause-ok : goal.returns-in_ok-self-in-states-clause-ok
returns-in_ok-self-in-states-clause-ok c =
    let key = c.args.key.now in
    let done = c.in_ok-self-in-states.ensures.ok in (
      done.0,
      done.1,
      λ ms kept. record {
        tag = kept.tag ∙ ap (option_and_then name_of) (beside key done.0 ms (codes "states") (codes "tag") c.in-states.is refl);
        parent = kept.parent ∙ ap named_parent (beside key done.0 ms (codes "states") (codes "parent") c.in-states.is refl);
        states = sym done.2 ∙ ap states_in (here key done.0 ms (codes "states") c.in-states.is);
        attrs = kept.attrs ∙ ap attrs_read (beside key done.0 ms (codes "states") (codes "attrs") c.in-states.is refl);
        limits = subst TellsLimits (beside key done.0 ms (codes "states") (codes "attrs") c.in-states.is refl) kept.limits;
      },
    )

pub returns-in_ok-read-in-attrs-clause-ok : goal.returns-in_ok-read-in-attrs-clause-ok
returns-in_ok-read-in-attrs-clause-ok c =
    let key = c.args.key.now in
    let done = c.in_ok-read-in-attrs.ensures.ok in (
      done.0,
      done.1,
      λ ms kept. record {
        tag = kept.tag ∙ ap (option_and_then name_of) (beside key done.0 ms (codes "attrs") (codes "tag") c.in-attrs.is refl);
        parent = kept.parent ∙ ap named_parent (beside key done.0 ms (codes "attrs") (codes "parent") c.in-attrs.is refl);
        states = kept.states ∙ ap states_in (beside key done.0 ms (codes "attrs") (codes "states") c.in-attrs.is refl);
        attrs = sym done.2 ∙ ap attrs_read (here key done.0 ms (codes "attrs") c.in-attrs.is);
        limits = subst TellsLimits (here key done.0 ms (codes "attrs") c.in-attrs.is)
            (subst (λ o. IfSome o (λ read. TellsLimits (Some read.0))) done.1 c.in_ok-read-in-attrs.ensures.limits);
      },
    )

pub returns-in_ok-pass-in_default-clause-ok : goal.returns-in_ok-pass-in_default-clause-ok
returns-in_ok-pass-in_default-clause-ok c =
    let key = c.args.key.now in
    let done = c.in_ok-pass-in_default.ensures.ok in (
      done.0,
      done.1,
      λ ms kept. record {
        tag = kept.tag ∙ ap (option_and_then name_of) (there key done.0 ms (codes "tag") c.in_default.not-tag);
        parent = kept.parent ∙ ap named_parent (there key done.0 ms (codes "parent") c.in_default.not-parent);
        states = kept.states ∙ ap states_in (there key done.0 ms (codes "states") c.in_default.not-states);
        attrs = kept.attrs ∙ ap attrs_read (there key done.0 ms (codes "attrs") c.in_default.not-attrs);
        limits = subst TellsLimits (there key done.0 ms (codes "attrs") c.in_default.not-attrs) kept.limits;
      },
    )
