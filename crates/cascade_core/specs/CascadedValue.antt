-- What the code's cascaded values stand for, by what their values do.
use Rattle.cascade_model.specs.Ending as model
use Rattle.cascade_core.specs.declared.cascaded_value.CascadedValue.{CascadedValue}
use Rattle.cascade_core.specs.declared.cascaded_value.CascadedValue.TheVariants.{Inherit, Initial, Unset, Value}

abbrev pub cascaded_seen : {V A : Type 0} → (V → A) → CascadedValue V → model.Ending A
cascaded_seen seen Inherit = model.inherits
cascaded_seen seen Initial = model.initially
cascaded_seen seen Unset = model.unsets
cascaded_seen seen (Value value) = model.ends_at (seen value)
