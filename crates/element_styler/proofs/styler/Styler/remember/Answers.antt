use Rattle.std.proofs.Common.{sym, subst}
use Rattle.std.proofs.lemmas.Bool.{not-true}
use Rattle.std.specs.Prelude.{option_map}
use Rattle.std.specs.Str.{chars}
use Rattle.element_styler.specs.Cache.{IsRight}
use Rattle.element_styler.specs.declared.cache.Over.TheVariants.{Part, Parent}
use Rattle.element_styler.proofs.CacheLemmas.{known_for, right_by_parent, right_by_part, style_right, takes_right}
use Rattle.element_styler.proofs.styler.Styler.remember.Goals as goal

pub returns-then-not-computed-clause-right : goal.returns-then-not-computed-clause-right
returns-then-not-computed-clause-right c sources size over at is all =
    let table = c.args.self.now.table in
    let text = option_map (λ t. chars t.now) c.args.text in
    let rules = c.args.self.now.matched.items in
    let own = right_by_part sources size table c.part.result c.args.parent rules text over c.args.computed at c.part.ensures (not-true c.args.computed.takes c.if-not-computed.true) is in
    c.keep.ensures sources size table all (style_right sources size table (known_for (Part c.part.result) c.deref.result.now text) c.args.computed.style
    (subst (λ l. IsRight sources size table (known_for (Part c.part.result) l text) c.args.computed.style) (sym c.deref.ensures.value) own))

pub returns-in_err-keep-clause-right : goal.returns-in_err-keep-clause-right
returns-in_err-keep-clause-right c sources size over at is all =
    let text = option_map (λ t. chars t.now) c.args.text in
    c.keep-2.ensures sources size c.args.self.now.table all (takes_right sources size c.args.self.now.table (known_for (Part c.part.result) c.deref.result.now text))

pub returns-clause-right : goal.returns-clause-right
returns-clause-right c sources size over at is all =
    let table = c.args.self.now.table in
    let text = option_map (λ t. chars t.now) c.args.text in
    let rules = c.args.self.now.matched.items in
    let first = c.keep-2.ensures sources size table all (takes_right sources size table (known_for (Part c.part.result) c.deref.result.now text)) in
    let own = right_by_parent sources size table c.args.parent rules text over c.args.computed at is in
    c.keep-3.ensures sources size table first (style_right sources size table (known_for (Parent c.args.parent) c.deref-2.result.now text) c.args.computed.style
    (subst (λ l. IsRight sources size table (known_for (Parent c.args.parent) l text) c.args.computed.style) (sym c.deref-2.ensures.value) own))
