use Rattle.std.proofs.Common.{arith, ◌∙◌, ap, ◌++◌, ◌∷◌, []}
use Rattle.std.proofs.lemmas.List.{length-map}
use Rattle.dom_tree.specs.Kept.{part_of}
use Rattle.dom_tree.proofs.WalkLemmas.{walk_begins, next_inside, walk_goes_on, walk_nears_end}
use Rattle.dom_tree.proofs.start.walk.Goals as goal

pub loop-x-init : goal.loop-x-init
loop-x-init c = walk_begins c.len.ensures.shape c.in_ok-order.ensures.items (c.in_ok-push.ensures.items ∙ ap (λ l. l ++ 1 ∷ []) c.new-ahead.ensures.items)

pub of-requires-clause-high : goal.of-requires-clause-high
of-requires-clause-high c =
    let next = next_inside c.len.ensures.shape _ _ c.loop-x.invariant c.in-Some.ensures.items in
    omega (arith, c.requires.children.count, length-map c.args.lists.now.spans.items (part_of c.args.lists.now.flat.items), next.1)

pub loop-x-smaller : goal.loop-x-smaller
loop-x-smaller c =
    let ahead = c.in-Some.ensures.items in
    walk_nears_end c.len.ensures.shape _ _ c.loop-x.invariant ahead _ c.requires.children c.of.ensures.list c.in_ok-push-2.ensures.items c.in_ok-append_reversed.ensures

pub loop-x-preserved : goal.loop-x-preserved
loop-x-preserved c =
    let ahead = c.in-Some.ensures.items in
    walk_goes_on c.len.ensures.shape _ _ c.loop-x.invariant ahead _ c.requires.children c.of.ensures.list c.in_ok-push-2.ensures.items c.in_ok-append_reversed.ensures
