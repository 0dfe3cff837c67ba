use Rattle.std.proofs.Common.{◌≡◌, ap, subst, ◌∙◌, IfOk}
use Rattle.std.specs.Prelude.{List, flat_map}
use Rattle.cascade_model.specs.Cascade.{cascaded}
use Rattle.cascade_model.specs.Key.{Matched}
use Rattle.cascade_model.specs.Matching.{all_attached}
use Rattle.cascade_core.specs.View.{lent_of}
use Rattle.shorthands.specs.View.{declared_of}
use Rattle.sheet_set.specs.View.{sources_seen}
use Rattle.element_styler.specs.Cache.{takes_of}
use Rattle.element_styler.specs.MatchedRules.{declarations_of}
use Rattle.element_styler.proofs.Walk.{declared_lists}
use Rattle.element_styler.proofs.styler.Styler.draft.Goals as goal

pub returns-clause-style : goal.returns-clause-style
returns-clause-style c =
    let sources = sources_seen c.args.inputs.now.sheets.now in
    let found = c.args.self.now.matched.items in
    let declared = c.in_ok-declared.declared.items in
    let rules : flat_map lent_of c.deref-3.result.now ≡ declarations_of sources found = ap (flat_map lent_of) c.deref-3.ensures.value ∙ (c.in_ok-list.ensures ∙ ap (declarations_of sources) c.deref.ensures.value) in
    let are : flat_map lent_of c.deref-4.result.now ≡ all_attached sources.layers 0 (flat_map declared_of declared) = ap (flat_map lent_of) c.deref-4.ensures.value ∙ (c.in_ok-attached.ensures ∙ (ap (λ l. all_attached l 0 (flat_map declared_of c.deref-2.result.now)) c.layers.ensures.layers ∙ ap (λ l. all_attached sources.layers 0 (flat_map declared_of l)) c.deref-2.ensures.value)) in
    let lists = declared_lists lent_of declared_of sources found _ c.deref-3.result.now c.deref-4.result.now declared rules are c.in_ok-declared.ensures in
    subst (λ (l : List Matched). IfOk c.cascade_draft.result (λ made. made.draft ≡ cascaded c.args.is_root c.args.over.now c.args.size l)) lists c.cascade_draft.ensures.style

pub returns-clause-takes : goal.returns-clause-takes
returns-clause-takes c =
    let sources = sources_seen c.args.inputs.now.sheets.now in
    let found = c.args.self.now.matched.items in
    let declared = c.in_ok-declared.declared.items in
    let rules : flat_map lent_of c.deref-3.result.now ≡ declarations_of sources found = ap (flat_map lent_of) c.deref-3.ensures.value ∙ (c.in_ok-list.ensures ∙ ap (declarations_of sources) c.deref.ensures.value) in
    let are : flat_map lent_of c.deref-4.result.now ≡ all_attached sources.layers 0 (flat_map declared_of declared) = ap (flat_map lent_of) c.deref-4.ensures.value ∙ (c.in_ok-attached.ensures ∙ (ap (λ l. all_attached l 0 (flat_map declared_of c.deref-2.result.now)) c.layers.ensures.layers ∙ ap (λ l. all_attached sources.layers 0 (flat_map declared_of l)) c.deref-2.ensures.value)) in
    let lists = declared_lists lent_of declared_of sources found _ c.deref-3.result.now c.deref-4.result.now declared rules are c.in_ok-declared.ensures in
    subst (λ (l : List Matched). IfOk c.cascade_draft.result (λ made. made.takes ≡ takes_of c.args.over.now l)) lists c.cascade_draft.ensures.takes
