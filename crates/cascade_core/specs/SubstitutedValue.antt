-- What the code's substituted values stand for, by what their values do.
use Rattle.cascade_model.specs.Ending as model
use Rattle.css_tokens.specs.View.{wide_of}
use Rattle.cascade_core.specs.declared.substituted_value.SubstitutedValue.{SubstitutedValue}
use Rattle.cascade_core.specs.declared.substituted_value.SubstitutedValue.TheVariants.{Keyword, Value}

abbrev pub substituted_seen : {V A : Type 0} → (V → A) → SubstitutedValue V → model.Meaning A
substituted_seen seen (Keyword word) = model.keyword (wide_of word)
substituted_seen seen (Value value) = model.value (seen value)
