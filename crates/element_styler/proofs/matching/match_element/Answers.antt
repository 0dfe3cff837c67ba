use Rattle.std.proofs.Common.{◌∙◌, ap}
use Rattle.std.specs.Prelude.{flat_map}
use Rattle.std.specs.Str.{chars}
use Rattle.cascade_core.specs.View.{matched_of}
use Rattle.shorthands.specs.View.{declared_of}
use Rattle.sheet_set.specs.View.{sources_seen}
use Rattle.element_styler.specs.MatchedRules.{declarations_of}
use Rattle.element_styler.proofs.Walk.{declared_all, declared_parts}
use Rattle.element_styler.proofs.matching.match_element.Goals as goal

pub returns : goal.returns
unfolding chars
returns c =
    let sources = sources_seen c.args.sheets.now in
    let found = c.matching_rules.new.found.items in
    let rules = c.in_ok-list.ensures ∙ (c.in_ok-declarations.ensures ∙ ap (declarations_of sources) c.deref.ensures.value) in
    c.in_ok-attach_owned.ensures
    ∙ (declared_parts sources found _ (flat_map matched_of c.in_ok-list.list.items) c.layers.result.now (flat_map declared_of c.in_ok-declared.declared.items) rules
    c.layers.ensures.layers c.in_ok-declared.ensures
    ∙ declared_all c.args.doc.now.elements sources c.args.x found _ c.in_ok-matching_rules.ensures c.attribute.ensures)
