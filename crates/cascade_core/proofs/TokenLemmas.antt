-- What a value that refers to custom properties means, by the tokens that it expands to.
use Rattle.std.proofs.Common.{◌≡◌, ℕ, List, map, Option, Some, None, option_map, refl}
use Rattle.std.specs.Option.{option_map_or}
use Rattle.syntax_model.specs.Token.{Token}
use Rattle.syntax_model.specs.Wide.{Wide, unset}
use Rattle.custom_model.specs.Value.{CustomValue, unplaced}
use Rattle.custom_model.specs.Computed.{wide_of}
use Rattle.value_model.specs.Value.{Value}
use Rattle.sheet_model.specs.Shorthands.{PropertyName, value_for}
use Rattle.custom_model.proofs.Said.{said_unplaced}
use Rattle.cascade_model.specs.Ending.{Meaning, keyword, expanded_meaning, referring_meaning}
use Rattle.cascade_core.specs.Tokens.{keyword_or_value, token_meaning}

module _ (property : ℕ) (property_name : PropertyName) where
  by_word : (value : CustomValue) (word : Option Wide) → keyword_or_value word (value_for property_name property (map unplaced value)) ≡ expanded_meaning property property_name value word
  by_word value (Some word) = refl
  by_word value None = refl

  abbrev of_tokens : Option (List Token) → Meaning Value
  of_tokens o = option_map_or (token_meaning property property_name) o (keyword unset)

  pub expanded_means : (e : Option CustomValue) → of_tokens (option_map (map unplaced) e) ≡ referring_meaning property property_name e
  expanded_means None = refl
  expanded_means (Some value) = rw (said_unplaced value) (by_word value (wide_of value))
