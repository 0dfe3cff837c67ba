-- What the cascade compares of a declaration of a `style` attribute (css-cascade-5, section 6.3).
use Rattle.std.specs.Prelude.{ℕ, true}
use Rattle.base_model.specs.Specificity.{nothing}
use Rattle.layer_order.specs.declared.origin.Origin.TheVariants.{Author}
use Rattle.cascade_core.specs.declared.matched.CascadePriority.{CascadePriority}

-- it is the author's, where this is the rank of no layer, with so many before it
abbrev pub attached_at : ℕ → ℕ → CascadePriority
attached_at rank index = record {
  origin = Author;
  attached = true;
  layer = rank;
  specificity = nothing;
  sheet = 0;
  position = 0;
  index = index;
}
