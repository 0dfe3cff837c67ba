use Rattle.std.proofs.Common.{◌≡◌, ℕ, ◌<◌, length, get_or, slice_get, true, None, Some, ◌⊎◌}
use Rattle.custom_model.specs.Computed.{computed as computed_value}
use Rattle.cycle_search.specs.declared.mark.Mark.{Mark}
use Rattle.custom_properties.proofs.GraphLemmas.{name_at, all_of}
use Rattle.custom_properties.proofs.ordered.values_in_order.Given as goal

abbrev pub invariant-loop-group : goal.invariant-loop-group
invariant-loop-group l = record {
  long : length l.values.items ≡ length (all_of l.declared);
  right : (k : ℕ) (mark : Mark) → slice_get l.found.marks.items k ≡ Some mark → (mark.is_cyclic ≡ true) ⊎ (mark.group < l.group) → get_or l.values.items k None ≡ computed_value l.declared l.inherited (name_at l.declared k);
}
