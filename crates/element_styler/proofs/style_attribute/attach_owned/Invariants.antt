use Rattle.std.proofs.Common.{◌≡◌, ◌++◌}
use Rattle.std.specs.Prelude.{flat_map}
use Rattle.base_model.specs.Origin.{author}
use Rattle.layer_model.specs.Name.{no_layer}
use Rattle.layer_model.specs.Order.{layer_rank}
use Rattle.cascade_model.specs.Matching.{all_attached}
use Rattle.cascade_core.specs.View.{matched_of}
use Rattle.shorthands.specs.View.{declared_of}
use Rattle.element_styler.proofs.style_attribute.attach_owned.Given as goal

-- what is attached so far, and what is left, is the whole
abbrev pub invariant-loop-declared : goal.invariant-loop-declared
invariant-loop-declared l = record {
  attached : flat_map matched_of l.attached.items ++ all_attached l.layers l.index (flat_map declared_of l.declared-iterator.rest.items)
      ≡ flat_map matched_of l.initial.attached.items ++ all_attached l.layers 0 (flat_map declared_of l.fn.list.items);
  rank : l.rank ≡ layer_rank l.layers author no_layer;
}
