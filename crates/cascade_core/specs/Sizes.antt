-- What the font sizes of the code stand for.
use Rattle.cascade_model.specs.Cascade as model
use Rattle.cascade_core.specs.declared.computed.Sizes.{Sizes}

abbrev pub sizes_seen : Sizes → model.Sizes
sizes_seen s = model.sizes s.element s.root
