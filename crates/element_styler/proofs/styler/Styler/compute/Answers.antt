use Rattle.std.proofs.Common.{◌≡◌, false, Some, ap, sym, ◌∙◌}
use Rattle.std.specs.Prelude.{option_map}
use Rattle.std.specs.Str.{chars}
use Rattle.std.proofs.lemmas.Option.{same_Some}
use Rattle.cascade_model.specs.Cascade.{cascaded}
use Rattle.sheet_set.specs.View.{sources_seen}
use Rattle.element_styler.specs.Cache.{takes_of}
use Rattle.element_styler.specs.MatchedRules.{declared_by}
use Rattle.element_styler.proofs.styler.Styler.compute.Goals as goal

pub returns-clause-computed : goal.returns-clause-computed
returns-clause-computed c over at =
    let ds = declared_by (sources_seen c.args.inputs.now.sheets.now) c.args.self.now.matched.items (option_map (λ t. chars t.now) c.args.text) in
    let same : c.deref.result.now ≡ over = same_Some _ _ (ap Some (search) ∙ (sym c.style-over.ensures ∙ at)) in
    record {
      style = c.in_ok-style.ensures.added ∙ ap Some (c.in_ok-cascaded.ensures.style ∙ ap (λ s. cascaded false s c.args.size ds) same);
      takes = c.in_ok-cascaded.ensures.takes ∙ ap (λ s. takes_of s ds) same;
    }
