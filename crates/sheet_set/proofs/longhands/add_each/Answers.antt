use Rattle.std.proofs.Common.{◌≡◌, ◌∙◌, length}
use Rattle.std.specs.Iterator.Adapters.{zip_first, zip_second}
use Rattle.std.specs.Slice.Iter.{iter_rest}
use Rattle.css_rules.specs.View.{declaration_of}
use Rattle.property_table.specs.View.{property_of}
use Rattle.shorthands.specs.View.{declared_of}
use Rattle.sheet_set.proofs.KeptLemmas.{either_past, left_declared, none_kept, pairs_past}
use Rattle.sheet_set.proofs.longhands.add_each.Goals as goal

pub returns : goal.returns
returns c =
    let declaration = declaration_of c.args.declaration.now in
    let ids = c.args.ids.now in
    let parts = c.args.parts.now in
    let i = length c.loop-id.yielded in
    let first : iter_rest (zip_first c.into_iter-id-iterator.result) ≡ ids = cc in
    let second : iter_rest (zip_second c.into_iter-id-iterator.result) ≡ parts = cc in
    none_kept declared_of c.loop-id.kept.items (left_declared declaration property_of (λ part. part.now) ids parts i)
    (pairs_past declaration property_of (λ part. part.now) ids parts i (either_past ids parts c.loop-id.yielded c.into_iter-id-iterator.result c.loop-id.id-iterator c.next.new.self c.next.result first second c.loop-id.yielded_by c.in-None.is c.next.ensures.steps))
    ∙ c.loop-id.invariant
