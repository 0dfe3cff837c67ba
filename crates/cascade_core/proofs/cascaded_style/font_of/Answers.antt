use Rattle.std.proofs.Common.{ap, sym, ◌∙◌}
use Rattle.std.specs.Option.{option_map_or}
use Rattle.value_model.specs.Style.{size_in, initial_size}
use Rattle.cascade_core.proofs.cascaded_style.font_of.Goals as goal

pub returns-clause-size : goal.returns-clause-size
returns-clause-size c =
    c.font_size-size.ensures ∙ sym (ap (λ o. option_map_or size_in o initial_size) c.value.ensures.value)
