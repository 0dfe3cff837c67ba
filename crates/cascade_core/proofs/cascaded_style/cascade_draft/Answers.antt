use Rattle.std.proofs.Common.{ap, ◌∙◌}
use Rattle.std.specs.FinMap as finmap
use Rattle.value_model.specs.Style.{Style, adjusted}
use Rattle.cascade_model.specs.Custom.{custom_values}
use Rattle.cascade_model.specs.Cascade.{cascaded}
use Rattle.takes_model.specs.Takes.{takes}
use Rattle.cascade_core.proofs.cascaded_style.cascade_draft.Goals as goal

pub returns-clause-style : goal.returns-clause-style
returns-clause-style c =
    c.adjust.ensures
    ∙ (ap (λ (s : Style). record s { values = adjusted c.args.is_root s.values }) c.in_ok-filled.ensures.style
    ∙ ap (cascaded c.args.is_root c.args.parent.now c.args.root_size) c.in_ok-winners.ensures)

pub returns-clause-takes : goal.returns-clause-takes
returns-clause-takes c =
    c.in_ok-filled.ensures.takes
    ∙ ap (λ ds. takes (finmap.get (custom_values c.args.parent.now.custom ds)) ds) c.in_ok-winners.ensures

pub returns-clause-custom : goal.returns-clause-custom
returns-clause-custom c keeps =
    ap (λ (s : Style). s.custom) (c.adjust.ensures ∙ ap (λ (s : Style). record s { values = adjusted c.args.is_root s.values }) c.in_ok-filled.ensures.style)
    ∙ c.in_ok-filled.ensures.custom keeps
