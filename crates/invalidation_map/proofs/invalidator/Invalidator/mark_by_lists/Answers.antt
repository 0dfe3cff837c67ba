use Rattle.std.proofs.Common.{◌∙◌}
use Rattle.invalidation_map.specs.EditMembers.{marked_in}
use Rattle.invalidation_map.specs.Rows.{marks_by_touch}
use Rattle.invalidation_map.specs.RowView.{rows_in}
use Rattle.invalidation_map.proofs.KeyLemmas.{grown_three}
use Rattle.invalidation_map.proofs.invalidator.Invalidator.mark_by_lists.Goals as goal

pub returns : goal.returns
returns c =
    let self = c.args.self.now in
    record {
      grown = grown_three (λ touch x. marks_by_touch self.doc.now.elements self.touched.now (rows_in self.map.now) touch x) (marked_in c.args.sets.now) (marked_in c.mark_at.new.sets)
          (marked_in c.mark_at-2.new.sets) (marked_in c.mark_at-3.new.sets) c.mark_at.ensures.grown c.mark_at-2.ensures.grown c.mark_at-3.ensures.grown;
      others = c.mark_at-3.ensures.others ∙ (c.mark_at-2.ensures.others ∙ c.mark_at.ensures.others);
    }
