use Rattle.std.proofs.Common.{arith, sym, ◌+◌, ◌<◌, ◌^◌, subst, ap, ◌∙◌, ◌++◌, map}
use Rattle.std.specs.List.{AllByRecursion}
use Rattle.dom_tree.specs.ChildLists.{shifted}
use Rattle.dom_tree.specs.declared.span.Span.{Span}
use Rattle.dom_tree.specs.Turned.{raised}
use Rattle.dom_tree.proofs.AppendLemmas.{each_begins, lists_appended, parts_appended}
use Rattle.dom_tree.proofs.child_lists.ChildLists.append.Goals as goal

pub append_shifted-requires-clause-few : goal.append_shifted-requires-clause-few
append_shifted-requires-clause-few c =
    subst (AllByRecursion (λ (span : Span). c.len-start.result + span.first < 2 ^ 32)) (sym c.deref-2.ensures.value)
    (each_begins c.args.found.now.flat.items c.len-start.result c.args.found.now.spans.items c.requires.found.within (omega (arith, c.requires.few, c.len-start.ensures)))

pub returns-clause-parts : goal.returns-clause-parts
returns-clause-parts c =
    let flat = c.append_raised.ensures.items ∙ ap (λ l. c.args.self.now.flat.items ++ map (raised c.args.last) l) c.deref.ensures.value in
    let spans = c.append_shifted.ensures ∙ ap (λ l. c.args.self.now.spans.items ++ map (shifted c.len-start.result) l) c.deref-2.ensures.value in
    parts_appended c.requires.parts c.requires.found (raised c.args.last) flat spans (omega (arith, c.len-start.ensures, c.args.self.now.flat.ok.0))

pub returns-clause-lists : goal.returns-clause-lists
returns-clause-lists c =
    let flat = c.append_raised.ensures.items ∙ ap (λ l. c.args.self.now.flat.items ++ map (raised c.args.last) l) c.deref.ensures.value in
    let spans = c.append_shifted.ensures ∙ ap (λ l. c.args.self.now.spans.items ++ map (shifted c.len-start.result) l) c.deref-2.ensures.value in
    lists_appended c.requires.parts c.requires.found (raised c.args.last) flat spans (omega (arith, c.len-start.ensures, c.args.self.now.flat.ok.0))
