use Rattle.std.proofs.Common.{rules, refl}
use Rattle.dom_tree.proofs.FlatLemmas.{flat_more, none_flat, part_read, whole_seen}
use Rattle.dom_tree.proofs.child_lists.ChildLists.packed.Goals as goal

pub loop-span-init : goal.loop-span-init
loop-span-init c = none_flat _ c.in_ok-spans.ensures.items

pub loop-span-preserved : goal.loop-span-preserved
loop-span-preserved c =
    let at = part_read c.args.self.now.flat.items c.args.self.now.spans.items (record { first = 0; count = 0 }) c.deref-span-items.ensures.value c.deref.ensures.value c.loop-span-test.true
    c.of-list.ensures in
    flat_more c.loop-span.invariant at _ refl c.in_ok-extend_from_slice.ensures.items c.in_ok-push.ensures.items (search rules) (search rules)

pub returns-clause-lists : goal.returns-clause-lists
returns-clause-lists c = whole_seen c.args.self.now.flat.items c.args.self.now.spans.items c.loop-span.invariant c.deref-span-items.ensures.value c.loop-span-test.false
