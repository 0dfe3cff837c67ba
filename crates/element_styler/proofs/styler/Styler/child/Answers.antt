use Rattle.std.proofs.Common.{◌<◌, false, Some, ap, length, slice_get, sym, subst, ◌∙◌}
use Rattle.std.specs.Prelude.{option_map}
use Rattle.std.specs.Str.{chars}
use Rattle.scene_model.specs.Lookups.{attribute_of}
use Rattle.cascade_model.specs.Cascade.{cascaded}
use Rattle.sheet_set.specs.View.{sources_seen}
use Rattle.element_styler.specs.Cache.{IsComputed}
use Rattle.element_styler.specs.Follows.{Follows}
use Rattle.element_styler.specs.MatchedRules.{declared_by}
use Rattle.element_styler.specs.declared.styler.Styler.{Styler}
use Rattle.element_styler.proofs.FollowLemmas.{serves-grown, serves-kept, serves-matched}
use Rattle.element_styler.proofs.Walk.{declared_all}
use Rattle.element_styler.proofs.styler.Styler.child.Goals as goal

pub returns-in_err-match_rules-clause-serves : goal.returns-in_err-match_rules-clause-serves
returns-in_err-match_rules-clause-serves c =
    serves-matched c.args.inputs.now c.args.size c.args.self.now c.match_rules.new.self (ap (λ (s : Styler). s.table) c.match_rules.ensures.rest)
    (ap (λ (s : Styler). s.cache) c.match_rules.ensures.rest) c.match_rules.ensures.follows c.requires.serves.fits

pub returns-in-Some-clause-style : goal.returns-in-Some-clause-style
returns-in-Some-clause-style c over at =
    let sources = sources_seen c.args.inputs.now.sheets.now in
    let doc = c.args.inputs.now.doc.now.elements in
    let x = c.args.number in
    let now = c.match_rules.new.self in
    let table = ap (λ (s : Styler). s.table) c.match_rules.ensures.rest in
    let serves = serves-matched c.args.inputs.now c.args.size c.args.self.now now table (ap (λ (s : Styler). s.cache) c.match_rules.ensures.rest) c.match_rules.ensures.follows c.requires.serves.fits in
    let all = declared_all doc sources x now.matched.items _ c.in_ok-match_rules.ensures.matched
    (c.attribute_atom-text.ensures ∙ ap (attribute_of doc x) c.requires.serves.fits.prepared_is.name) in
    c.in-Some.ensures sources c.args.size over serves.fits.cache (ap (λ t. slice_get t c.args.parent) table ∙ at)
    ∙ ap (λ l. Some (cascaded false over c.args.size l)) all

pub returns-in-Some-clause-serves : goal.returns-in-Some-clause-serves
returns-in-Some-clause-serves c =
    serves-matched c.args.inputs.now c.args.size c.args.self.now c.match_rules.new.self (ap (λ (s : Styler). s.table) c.match_rules.ensures.rest)
    (ap (λ (s : Styler). s.cache) c.match_rules.ensures.rest) c.match_rules.ensures.follows c.requires.serves.fits

pub returns-in_err-computed-clause-serves : goal.returns-in_err-computed-clause-serves
returns-in_err-computed-clause-serves c =
    let now = c.match_rules.new.self in
    let serves = serves-matched c.args.inputs.now c.args.size c.args.self.now now (ap (λ (s : Styler). s.table) c.match_rules.ensures.rest)
    (ap (λ (s : Styler). s.cache) c.match_rules.ensures.rest) c.match_rules.ensures.follows c.requires.serves.fits in
    serves-grown c.args.inputs.now c.args.size now c.compute.new.self c.compute.ensures.kept (ap (λ (s : Styler). s.cache) c.compute.ensures.rest)
    (subst (Follows c.args.inputs.now.doc.now.elements) (sym (ap (λ (s : Styler). s.above) c.compute.ensures.rest)) c.match_rules.ensures.follows) serves.fits

pub returns-in_err-remember-clause-serves : goal.returns-in_err-remember-clause-serves
returns-in_err-remember-clause-serves c =
    let inputs = c.args.inputs.now in
    let size = c.args.size in
    let sources = sources_seen inputs.sheets.now in
    let first = c.match_rules.new.self in
    let now = c.compute.new.self in
    let last = c.remember.new.self in
    let text = option_map (λ t. chars t.now) c.attribute_atom-text.result in
    let computed = c.in_ok-computed.computed in
    let table = ap (λ (s : Styler). s.table) c.match_rules.ensures.rest in
    let serves = serves-matched inputs size c.args.self.now first table (ap (λ (s : Styler). s.cache) c.match_rules.ensures.rest) c.match_rules.ensures.follows c.requires.serves.fits in
    let matched = ap (λ (s : Styler). s.matched.items) c.compute.ensures.rest in
    let below : c.args.parent < length first.table = subst (λ t. c.args.parent < length t) (sym table) c.requires.parent in
    let above = ap (λ (s : Styler). s.above) c.remember.ensures.rest ∙ ap (λ (s : Styler). s.above) c.compute.ensures.rest in
    serves-kept inputs size first now last c.args.parent (declared_by sources first.matched.items text) computed c.compute.ensures.kept (ap (λ (s : Styler). s.cache) c.compute.ensures.rest)
    (ap (λ (s : Styler). s.table) c.remember.ensures.rest) below c.in_ok-computed.ensures.computed
    (λ over at is all. c.remember.ensures.right sources size over at (subst (λ m. IsComputed size now.table over (declared_by sources m text) computed) (sym matched) is) all)
    (subst (Follows inputs.doc.now.elements) (sym above) c.match_rules.ensures.follows) serves.fits

pub returns-clause-style : goal.returns-clause-style
returns-clause-style c over at =
    let sources = sources_seen c.args.inputs.now.sheets.now in
    let doc = c.args.inputs.now.doc.now.elements in
    let x = c.args.number in
    let first = c.match_rules.new.self in
    let table = ap (λ (s : Styler). s.table) c.match_rules.ensures.rest in
    let all = declared_all doc sources x first.matched.items _ c.in_ok-match_rules.ensures.matched
    (c.attribute_atom-text.ensures ∙ ap (attribute_of doc x) c.requires.serves.fits.prepared_is.name) in
    ap (λ (s : Styler). slice_get s.table c.in_ok-computed.computed.style) c.remember.ensures.rest
    ∙ ((c.in_ok-computed.ensures.computed over (ap (λ t. slice_get t c.args.parent) table ∙ at)).style ∙ ap (λ l. Some (cascaded false over c.args.size l)) all)

pub returns-clause-serves : goal.returns-clause-serves
returns-clause-serves c =
    let inputs = c.args.inputs.now in
    let size = c.args.size in
    let sources = sources_seen inputs.sheets.now in
    let first = c.match_rules.new.self in
    let now = c.compute.new.self in
    let last = c.remember.new.self in
    let text = option_map (λ t. chars t.now) c.attribute_atom-text.result in
    let computed = c.in_ok-computed.computed in
    let table = ap (λ (s : Styler). s.table) c.match_rules.ensures.rest in
    let serves = serves-matched inputs size c.args.self.now first table (ap (λ (s : Styler). s.cache) c.match_rules.ensures.rest) c.match_rules.ensures.follows c.requires.serves.fits in
    let matched = ap (λ (s : Styler). s.matched.items) c.compute.ensures.rest in
    let below : c.args.parent < length first.table = subst (λ t. c.args.parent < length t) (sym table) c.requires.parent in
    let above = ap (λ (s : Styler). s.above) c.remember.ensures.rest ∙ ap (λ (s : Styler). s.above) c.compute.ensures.rest in
    serves-kept inputs size first now last c.args.parent (declared_by sources first.matched.items text) computed c.compute.ensures.kept (ap (λ (s : Styler). s.cache) c.compute.ensures.rest)
    (ap (λ (s : Styler). s.table) c.remember.ensures.rest) below c.in_ok-computed.ensures.computed
    (λ over at is all. c.remember.ensures.right sources size over at (subst (λ m. IsComputed size now.table over (declared_by sources m text) computed) (sym matched) is) all)
    (subst (Follows inputs.doc.now.elements) (sym above) c.match_rules.ensures.follows) serves.fits
