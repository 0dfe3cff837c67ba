use Rattle.layer_order.proofs.KnownLemmas.{grown}
use Rattle.layer_order.proofs.NestingLemmas.{nested_push}
use Rattle.layer_order.proofs.nesting.put_inside.Goals as goal

pub returns : goal.returns
returns c =
    let layers = c.args.layers.now.keys in
    nested_push layers (grown layers c.requires.declared) c.args.place (λ v. v.items) c.args.inner.now.items c.requires.nested c.requires.within c.outer_place.result c.outer_place.ensures.within c.outer_place.ensures.directly c.index_mut-list.result.now _ c.index_mut-list.ensures.value c.in_ok-push.ensures.items
