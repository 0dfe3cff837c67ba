use Rattle.std.proofs.Common.{Some, refl, ap, ◌∙◌}
use Rattle.scene_model.specs.Lookups.{attribute_of}
use Rattle.value_model.specs.Style.{Style, font_size_of}
use Rattle.sheet_set.specs.View.{sources_seen}
use Rattle.element_styler.specs.declared.styler.Styler.{Styler}
use Rattle.element_styler.proofs.FollowLemmas.{serves-grown, serves-matched}
use Rattle.element_styler.proofs.Walk.{declared_all, over_initial}
use Rattle.element_styler.proofs.styler.Styler.root.Goals as goal

pub returns-in_err-match_rules-clause-serves : goal.returns-in_err-match_rules-clause-serves
returns-in_err-match_rules-clause-serves c size fits =
    serves-matched c.args.inputs.now size c.args.self.now c.match_rules.new.self (ap (λ (s : Styler). s.table) c.match_rules.ensures.rest) (ap (λ (s : Styler). s.cache) c.match_rules.ensures.rest)
    c.match_rules.ensures.follows fits

pub returns-in_err-initial-clause-serves : goal.returns-in_err-initial-clause-serves
returns-in_err-initial-clause-serves c size fits =
    serves-matched c.args.inputs.now size c.args.self.now c.match_rules.new.self (ap (λ (s : Styler). s.table) c.match_rules.ensures.rest) (ap (λ (s : Styler). s.cache) c.match_rules.ensures.rest)
    c.match_rules.ensures.follows fits

pub returns-in_err-cascaded-clause-serves : goal.returns-in_err-cascaded-clause-serves
returns-in_err-cascaded-clause-serves c size fits =
    serves-matched c.args.inputs.now size c.args.self.now c.match_rules.new.self (ap (λ (s : Styler). s.table) c.match_rules.ensures.rest) (ap (λ (s : Styler). s.cache) c.match_rules.ensures.rest)
    c.match_rules.ensures.follows fits

pub returns-in_err-style-clause-serves : goal.returns-in_err-style-clause-serves
returns-in_err-style-clause-serves c size fits =
    let matched = serves-matched c.args.inputs.now size c.args.self.now c.match_rules.new.self (ap (λ (s : Styler). s.table) c.match_rules.ensures.rest)
    (ap (λ (s : Styler). s.cache) c.match_rules.ensures.rest) c.match_rules.ensures.follows fits in
    serves-grown c.args.inputs.now size c.match_rules.new.self (record c.match_rules.new.self { table = c.add.new.self }) c.add.ensures.kept refl matched.follows matched.fits

pub returns-clause-style : goal.returns-clause-style
returns-clause-style c =
    let doc = c.args.inputs.now.doc.now.elements in
    let sources = sources_seen c.args.inputs.now.sheets.now in
    let x = c.args.number in
    let all = declared_all doc sources x c.match_rules.new.self.matched.items _ c.in_ok-match_rules.ensures.matched
    (c.attribute_atom-text.ensures ∙ ap (attribute_of doc x) c.requires.ready.prepared.name) in
    c.in_ok-style.ensures.added ∙ ap Some (over_initial c.in_ok-cascaded.cascaded.draft c.in_ok-initial.initial c.initial_size.result _ _ c.in_ok-initial.ensures c.initial_size.ensures
    all c.in_ok-cascaded.ensures.style)

pub returns-clause-size : goal.returns-clause-size
returns-clause-size c =
    let doc = c.args.inputs.now.doc.now.elements in
    let sources = sources_seen c.args.inputs.now.sheets.now in
    let x = c.args.number in
    let all = declared_all doc sources x c.match_rules.new.self.matched.items _ c.in_ok-match_rules.ensures.matched
    (c.attribute_atom-text.ensures ∙ ap (attribute_of doc x) c.requires.ready.prepared.name) in
    c.font_size-size.ensures ∙ ap (λ (s : Style). font_size_of s.values) (over_initial c.in_ok-cascaded.cascaded.draft c.in_ok-initial.initial c.initial_size.result _ _ c.in_ok-initial.ensures
    c.initial_size.ensures all c.in_ok-cascaded.ensures.style)

pub returns-clause-serves : goal.returns-clause-serves
returns-clause-serves c size fits =
    let matched = serves-matched c.args.inputs.now size c.args.self.now c.match_rules.new.self (ap (λ (s : Styler). s.table) c.match_rules.ensures.rest)
    (ap (λ (s : Styler). s.cache) c.match_rules.ensures.rest) c.match_rules.ensures.follows fits in
    serves-grown c.args.inputs.now size c.match_rules.new.self (record c.match_rules.new.self { table = c.add.new.self }) c.add.ensures.kept refl matched.follows matched.fits
