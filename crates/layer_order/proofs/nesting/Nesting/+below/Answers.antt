use Rattle.std.proofs.Common.{◌-◌, get_or, refl, arith, rules}
use Rattle.std.proofs.lemmas.Option.{slice_get-get_or}
use Rattle.layer_order.proofs.NestingLemmas.{added_itself, none_inside, all_inside, added_next, added_all, list_at, has_list}
use Rattle.layer_order.proofs.nesting.Nesting.+below.Goals as goal

pub add_below-returns : goal.add_below-returns
add_below-returns t c =
    added_itself c.args.self.now c.args.levels c.args.place c.in_ok-layer_at.field-0 c.args.order.now.keys c.add_inner.new.order.keys c.insert.new.self.keys c.in_ok-add_inner.ensures c.in_ok-layer_at.ensures c.in_ok-insert.ensures.keys

pub add_inner-returns-then-levels-eq0 : goal.add_inner-returns-then-levels-eq0
add_inner-returns-then-levels-eq0 t c = none_inside c.args.self.now c.args.levels c.args.place c.args.order.now.keys c.if-levels-eq0.true

pub add_inner-add_below-requires : goal.add_inner-add_below-requires
add_inner-add_below-requires t c =
    let nested = c.requires.nested in
    let inner = c.args.self.now.inner.items in
    let list = c.deref-inside-items.result.now in
    let at = list_at (λ v. v.items) inner c.args.place c.index.result.now list (has_list c.args.self.now.layers.keys _ (λ v. v.items) inner c.args.place nested c.requires.within) c.index.ensures c.deref-inside-items.ensures.value in
    let below = nested.within c.args.place c.loop-inside.inside-index (get_or list c.loop-inside.inside-index 0) list at (slice_get-get_or list c.loop-inside.inside-index 0 c.loop-inside-test.true) in
    (search rules, (nested, omega arith))

pub add_inner-loop-inside-preserved : goal.add_inner-loop-inside-preserved
add_inner-loop-inside-preserved t c =
    added_next c.args.self.now.layers.keys (c.args.levels - 1) c.deref-inside-items.result.now c.loop-inside.inside-index _ c.args.order.now.keys c.loop-inside.order.keys c.add_below.new.order.keys c.loop-inside-test.true refl c.loop-inside.invariant c.in_ok-add_below.ensures

pub add_inner-returns : goal.add_inner-returns
add_inner-returns t c =
    let inner = c.args.self.now.inner.items in
    let list = c.deref-inside-items.result.now in
    let at = list_at (λ v. v.items) inner c.args.place c.index.result.now list (has_list c.args.self.now.layers.keys _ (λ v. v.items) inner c.args.place c.requires.nested c.requires.within) c.index.ensures c.deref-inside-items.ensures.value in
    all_inside c.args.self.now c.args.levels c.args.place c.args.order.now.keys c.loop-inside.order.keys c.if-levels-eq0.false (added_all c.args.self.now.layers.keys (c.args.levels - 1) c.args.place _ list c.loop-inside.inside-index c.args.order.now.keys c.loop-inside.order.keys c.requires.nested at c.loop-inside-test.false c.loop-inside.invariant)
