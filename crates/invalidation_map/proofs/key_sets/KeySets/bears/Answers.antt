use Rattle.std.proofs.Common.{◌<◌, length, arith, sym, ap, ◌∙◌}
use Rattle.std.specs.List.{list_any}
use Rattle.std.proofs.lemmas.Bool.{or_right}
use Rattle.std.specs.Str.{chars}
use Rattle.dom_tree.specs.ElementNames.{names_of}
use Rattle.invalidation_map.specs.KeySets.{is_in_set}
use Rattle.invalidation_map.proofs.KeySetLemmas.{name_found, name_passed}
use Rattle.invalidation_map.proofs.key_sets.KeySets.bears.Goals as goal

pub returns-then-has : goal.returns-then-has
returns-then-has c =
    let sets = c.args.self.now in
    let within : c.loop-index.index < length c.names-names.result = omega (arith, c.loop-index-test.true, c.len-index-end.ensures) in
    let text = chars c.text.result.now in
    let found = name_found sets c.names-names.result c.loop-index.index c.kind.result text c.has.result within c.kind.ensures c.text.ensures c.has.ensures c.if-has.true in
    sym (or_right sets.any (list_any (is_in_set sets) (names_of c.args.doc.now.elements c.args.x)) (ap (list_any (is_in_set sets)) (sym c.names-names.ensures) ∙ found))

pub loop-index-preserved : goal.loop-index-preserved
loop-index-preserved c =
    let within : c.loop-index.index < length c.names-names.result = omega (arith, c.loop-index-test.true, c.len-index-end.ensures) in
    let text = chars c.text.result.now in
    name_passed c.args.self.now c.names-names.result c.loop-index.index c.kind.result text c.has.result within c.kind.ensures c.text.ensures
    c.has.ensures c.if-has.false c.loop-index.invariant
