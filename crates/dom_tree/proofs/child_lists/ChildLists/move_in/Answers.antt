use Rattle.std.proofs.Common.{◌-◌, ◌<◌, List, ℕ, length, arith, ap, sym, ◌∙◌, subst}
use Rattle.dom_tree.specs.ChildLists.{AreParts, list_moved, lists_of}
use Rattle.dom_tree.proofs.PartLemmas.{became, inside, lists_earlier, lists_later, part_long, parts_earlier, parts_later, span_at, told_at}
use Rattle.dom_tree.proofs.child_lists.ChildLists.move_in.Goals as goal

pub overflow_add-start : goal.overflow_add-start
overflow_add-start c =
    let flat = c.args.self.now.flat.items in
    let spans = c.args.self.now.spans.items in
    let at = span_at spans (c.args.number - 1) (omega (arith, c.requires.low, c.requires.high)) c.index.ensures in
    let l = told_at flat spans (c.args.number - 1) (λ (list : List ℕ). c.args.from < length list) at c.requires.from in
    omega (arith, l, inside c.requires.parts (c.args.number - 1) at, part_long c.requires.parts (c.args.number - 1) at, c.args.self.now.flat.ok, c.args.self.now.flat.small)

pub overflow_add-start-then-from-to : goal.overflow_add-start-then-from-to
overflow_add-start-then-from-to c =
    let flat = c.args.self.now.flat.items in
    let spans = c.args.self.now.spans.items in
    let at = span_at spans (c.args.number - 1) (omega (arith, c.requires.low, c.requires.high)) c.index.ensures in
    let l = told_at flat spans (c.args.number - 1) (λ (list : List ℕ). c.args.to < length list) at c.requires.to in
    omega (arith, l, inside c.requires.parts (c.args.number - 1) at, part_long c.requires.parts (c.args.number - 1) at, c.args.self.now.flat.ok, c.args.self.now.flat.small)

pub overflow_add-start-else-from-to : goal.overflow_add-start-else-from-to
overflow_add-start-else-from-to c =
    let flat = c.args.self.now.flat.items in
    let spans = c.args.self.now.spans.items in
    let at = span_at spans (c.args.number - 1) (omega (arith, c.requires.low, c.requires.high)) c.index.ensures in
    let l = told_at flat spans (c.args.number - 1) (λ (list : List ℕ). c.args.to < length list) at c.requires.to in
    omega (arith, l, inside c.requires.parts (c.args.number - 1) at, part_long c.requires.parts (c.args.number - 1) at, c.args.self.now.flat.ok, c.args.self.now.flat.small)

pub overflow_add-start-else-from-to-2 : goal.overflow_add-start-else-from-to-2
overflow_add-start-else-from-to-2 c =
    let flat = c.args.self.now.flat.items in
    let spans = c.args.self.now.spans.items in
    let at = span_at spans (c.args.number - 1) (omega (arith, c.requires.low, c.requires.high)) c.index.ensures in
    let l = told_at flat spans (c.args.number - 1) (λ (list : List ℕ). c.args.from < length list) at c.requires.from in
    omega (arith, l, inside c.requires.parts (c.args.number - 1) at, part_long c.requires.parts (c.args.number - 1) at, c.args.self.now.flat.ok, c.args.self.now.flat.small)

pub turn-requires-clause-within : goal.turn-requires-clause-within
turn-requires-clause-within c =
    let flat = c.args.self.now.flat.items in
    let spans = c.args.self.now.spans.items in
    let at = span_at spans (c.args.number - 1) (omega (arith, c.requires.low, c.requires.high)) c.index.ensures in
    let l = told_at flat spans (c.args.number - 1) (λ (list : List ℕ). c.args.to < length list) at c.requires.to in
    omega (arith, l, inside c.requires.parts (c.args.number - 1) at, part_long c.requires.parts (c.args.number - 1) at)

pub turn-requires-clause-part : goal.turn-requires-clause-part
turn-requires-clause-part c = omega (arith, c.if-from-to.true)

pub turn-requires-else-from-to-clause-within : goal.turn-requires-else-from-to-clause-within
turn-requires-else-from-to-clause-within c =
    let flat = c.args.self.now.flat.items in
    let spans = c.args.self.now.spans.items in
    let at = span_at spans (c.args.number - 1) (omega (arith, c.requires.low, c.requires.high)) c.index.ensures in
    let l = told_at flat spans (c.args.number - 1) (λ (list : List ℕ). c.args.from < length list) at c.requires.from in
    omega (arith, l, inside c.requires.parts (c.args.number - 1) at, part_long c.requires.parts (c.args.number - 1) at)

pub turn-requires-else-from-to-clause-part : goal.turn-requires-else-from-to-clause-part
turn-requires-else-from-to-clause-part c = omega (arith, c.if-from-to.false)

pub returns-then-from-to-clause-parts : goal.returns-then-from-to-clause-parts
returns-then-from-to-clause-parts c =
    let spans = c.args.self.now.spans.items in
    let at = span_at spans (c.args.number - 1) (omega (arith, c.requires.low, c.requires.high)) c.index.ensures in
    let l = told_at c.args.self.now.flat.items spans (c.args.number - 1) (λ (list : List ℕ). c.args.from < length list) at c.requires.from in
    let m = told_at c.args.self.now.flat.items spans (c.args.number - 1) (λ (list : List ℕ). c.args.to < length list) at c.requires.to in
    subst (λ f. AreParts f spans) (sym c.turn.ensures) (parts_later c.requires.parts (c.args.number - 1) at c.args.from c.args.to l m c.if-from-to.true)

pub returns-then-from-to-clause-lists : goal.returns-then-from-to-clause-lists
returns-then-from-to-clause-lists c =
    let spans = c.args.self.now.spans.items in
    let at = span_at spans (c.args.number - 1) (omega (arith, c.requires.low, c.requires.high)) c.index.ensures in
    let l = told_at c.args.self.now.flat.items spans (c.args.number - 1) (λ (list : List ℕ). c.args.from < length list) at c.requires.from in
    let m = told_at c.args.self.now.flat.items spans (c.args.number - 1) (λ (list : List ℕ). c.args.to < length list) at c.requires.to in
    became c.args.self.now.flat.items spans (c.args.number - 1) (list_moved c.args.from c.args.to) at
    (ap (λ f. lists_of f spans) c.turn.ensures ∙ lists_later c.requires.parts (c.args.number - 1) at c.args.from c.args.to l m c.if-from-to.true)

pub returns-else-from-to-clause-parts : goal.returns-else-from-to-clause-parts
returns-else-from-to-clause-parts c =
    let spans = c.args.self.now.spans.items in
    let at = span_at spans (c.args.number - 1) (omega (arith, c.requires.low, c.requires.high)) c.index.ensures in
    let l = told_at c.args.self.now.flat.items spans (c.args.number - 1) (λ (list : List ℕ). c.args.from < length list) at c.requires.from in
    let m = told_at c.args.self.now.flat.items spans (c.args.number - 1) (λ (list : List ℕ). c.args.to < length list) at c.requires.to in
    subst (λ f. AreParts f spans) (sym c.turn-else-from-to.ensures) (parts_earlier c.requires.parts (c.args.number - 1) at c.args.from c.args.to l m c.if-from-to.false)

pub returns-else-from-to-clause-lists : goal.returns-else-from-to-clause-lists
returns-else-from-to-clause-lists c =
    let spans = c.args.self.now.spans.items in
    let at = span_at spans (c.args.number - 1) (omega (arith, c.requires.low, c.requires.high)) c.index.ensures in
    let l = told_at c.args.self.now.flat.items spans (c.args.number - 1) (λ (list : List ℕ). c.args.from < length list) at c.requires.from in
    let m = told_at c.args.self.now.flat.items spans (c.args.number - 1) (λ (list : List ℕ). c.args.to < length list) at c.requires.to in
    became c.args.self.now.flat.items spans (c.args.number - 1) (list_moved c.args.from c.args.to) at
    (ap (λ f. lists_of f spans) c.turn-else-from-to.ensures ∙ lists_earlier c.requires.parts (c.args.number - 1) at c.args.from c.args.to l m c.if-from-to.false)
