use Rattle.std.proofs.Common.{List, refl, subst}
use Rattle.std.proofs.lemmas.List.{take_all}
use Rattle.selector_types.specs.declared.keys.Key.{Key}
use Rattle.invalidation_map.specs.declared.key_sets.KeySets.{KeySets}
use Rattle.invalidation_map.proofs.KeySetLemmas.{AreSetsSoFar, sets_all, sets_begun, sets_full, sets_next}
use Rattle.invalidation_map.proofs.key_sets.KeySets.of.Goals as goal

pub loop-key-init : goal.loop-key-init
loop-key-init c =
    let sets : KeySets = record { ids = c.new.result; classes = c.new-2.result; types = c.new-3.result; any = c.args.all } in
    sets_begun sets c.args.all c.new.ensures c.new-2.ensures c.new-3.ensures refl

pub returns-then-sets : goal.returns-then-sets
returns-then-sets c = sets_full c.args.all c.args.keys.now c.loop-key.key-index c.loop-key.sets c.if-sets.true c.loop-key.invariant

pub loop-key-preserved : goal.loop-key-preserved
loop-key-preserved c =
    sets_next c.args.all c.args.keys.now c.loop-key.key-index c.key-item.result c.loop-key.sets c.add.new.self c.loop-key-test.true c.key-item.is c.loop-key.invariant c.in_ok-add.ensures

pub returns : goal.returns
returns c =
    let whole = take_all c.loop-key.key-index c.args.keys.now c.loop-key-test.false in
    sets_all c.args.all c.args.keys.now c.loop-key.sets (subst (λ (keys : List Key). AreSetsSoFar c.args.all keys c.loop-key.sets) whole c.loop-key.invariant)
