use Rattle.std.proofs.Common.{◌≡◌, Some, rules, subst, IfOk, slice_get}
use Rattle.value_model.specs.Style.{Style}
use Rattle.sheet_set.specs.View.{sources_seen}
use Rattle.cascade_model.proofs.StyleAlong.{root_of-first}
use Rattle.plain_style.proofs.Places.{known_place}
use Rattle.plain_style.proofs.Walk.{over_parent}
use Rattle.plain_style.proofs.all_styles.style_number.Goals as goal

pub bounds-known-parent : goal.bounds-known-parent
bounds-known-parent c =
    (known_place c.args.styler.now.table c.args.known.now c.in-Some.parent _ (c.requires.parent c.in-Some.parent (search rules))).within

pub child-requires-clause-parent : goal.child-requires-clause-parent
child-requires-clause-parent c =
    (known_place c.args.styler.now.table c.args.known.now c.in-Some.parent _ (c.requires.parent c.in-Some.parent (search rules))).below

pub returns-in-Some-clause-style : goal.returns-in-Some-clause-style
returns-in-Some-clause-style c =
    let doc = c.args.inputs.now.doc.now.elements in
    let sources = sources_seen c.args.inputs.now.sheets.now in
    subst (λ (s : Style). IfOk c.child.result (λ style. slice_get c.child.new.self.table style ≡ Some s)) (over_parent doc sources c.args.number c.in-Some.parent c.args.root.size c.parent.ensures.valid (search rules) c.requires.root.size) (c.child.ensures.style _ (known_place c.args.styler.now.table c.args.known.now c.in-Some.parent _ (c.requires.parent c.in-Some.parent (search rules))).is)

pub returns-in-None-clause-style : goal.returns-in-None-clause-style
returns-in-None-clause-style c =
    c.requires.root.style c.args.number (root_of-first c.args.inputs.now.doc.now.elements c.parent.ensures.valid c.args.number c.requires.element (search rules))
