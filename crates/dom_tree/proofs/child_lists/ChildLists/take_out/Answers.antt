use Rattle.std.proofs.Common.{◌-◌, ◌<◌, List, ℕ, length, slice_set, arith, ap, sym, ◌∙◌, subst}
use Rattle.dom_tree.specs.declared.span.Span.{Span}
use Rattle.dom_tree.specs.ChildLists.{AreParts, list_without, lists_of}
use Rattle.dom_tree.proofs.PartLemmas.{became, inside, lists_without, part_long, parts_without, span_at, told_at}
use Rattle.dom_tree.proofs.child_lists.ChildLists.take_out.Goals as goal

pub turn-requires-clause-within : goal.turn-requires-clause-within
turn-requires-clause-within c =
    let flat = c.args.self.now.flat.items in
    let spans = c.args.self.now.spans.items in
    let at = span_at spans (c.args.number - 1) (omega (arith, c.requires.low, c.requires.high)) c.index.ensures in
    let l = told_at flat spans (c.args.number - 1) (λ (list : List ℕ). c.args.index < length list) at c.requires.index in
    omega (arith, l, inside c.requires.parts (c.args.number - 1) at, part_long c.requires.parts (c.args.number - 1) at)

pub turn-requires-clause-part : goal.turn-requires-clause-part
turn-requires-clause-part c =
    let flat = c.args.self.now.flat.items in
    let spans = c.args.self.now.spans.items in
    let at = span_at spans (c.args.number - 1) (omega (arith, c.requires.low, c.requires.high)) c.index.ensures in
    let l = told_at flat spans (c.args.number - 1) (λ (list : List ℕ). c.args.index < length list) at c.requires.index in
    omega (arith, l, inside c.requires.parts (c.args.number - 1) at, part_long c.requires.parts (c.args.number - 1) at)

pub overflow_add-start : goal.overflow_add-start
overflow_add-start c =
    let flat = c.args.self.now.flat.items in
    let spans = c.args.self.now.spans.items in
    let at = span_at spans (c.args.number - 1) (omega (arith, c.requires.low, c.requires.high)) c.index.ensures in
    let l = told_at flat spans (c.args.number - 1) (λ (list : List ℕ). c.args.index < length list) at c.requires.index in
    omega (arith, l, inside c.requires.parts (c.args.number - 1) at, part_long c.requires.parts (c.args.number - 1) at, c.args.self.now.flat.ok, c.args.self.now.flat.small)

pub returns-clause-parts : goal.returns-clause-parts
returns-clause-parts c =
    let spans = c.args.self.now.spans.items in
    let s : Span = c.index.result.now in
    let at = span_at spans (c.args.number - 1) (omega (arith, c.requires.low, c.requires.high)) c.index.ensures in
    let l = told_at c.args.self.now.flat.items spans (c.args.number - 1) (λ (list : List ℕ). c.args.index < length list) at c.requires.index in
    subst (λ f. AreParts f (slice_set spans (c.args.number - 1) (record { first = s.first; count = s.count - 1 }))) (sym c.turn.ensures)
    (parts_without c.requires.parts (c.args.number - 1) at c.args.index l)

pub returns-clause-lists : goal.returns-clause-lists
returns-clause-lists c =
    let flat = c.args.self.now.flat.items in
    let spans = c.args.self.now.spans.items in
    let s : Span = c.index.result.now in
    let at = span_at spans (c.args.number - 1) (omega (arith, c.requires.low, c.requires.high)) c.index.ensures in
    let l = told_at c.args.self.now.flat.items spans (c.args.number - 1) (λ (list : List ℕ). c.args.index < length list) at c.requires.index in
    became flat spans (c.args.number - 1) (list_without c.args.index) at
    (ap (λ f. lists_of f (slice_set spans (c.args.number - 1) (record { first = s.first; count = s.count - 1 }))) c.turn.ensures
    ∙ lists_without c.requires.parts (c.args.number - 1) at c.args.index l)
