use Rattle.std.proofs.Common.{map, ap, ◌∙◌}
use Rattle.scene_model.specs.Numbers.{is_in}
use Rattle.selector_types.specs.SimpleView.{key_seen}
use Rattle.invalidation_map.proofs.SheetMarkLemmas.{marked_left}
use Rattle.invalidation_map.proofs.change_marks.sheet_marks.Goals as goal

pub returns-clause-marked : goal.returns-clause-marked
returns-clause-marked c = λ x.
    ap (is_in x) c.in_ok-marked.ensures.order ∙ marked_left c.args.doc.now.elements (map key_seen c.args.change.now.keys.items) c.args.change.now.swapped x
