-- What the declarations of a property come to, before any value is computed (css-cascade-5, section 7.3).
use Rattle.std.specs.Prelude.{ℕ, zero, suc, nat_lt, List, length, filter, map, Option, Some, None}
use Rattle.std.specs.Option.{option_map_or}
use Rattle.std.specs.Ordering.{is_lt}
use Rattle.base_model.specs.Origin.{origin_rank}
use Rattle.base_model.specs.Text.{Characters}
use Rattle.syntax_model.specs.Wide.{Wide, inherit, initial, unset, revert, revert_layer}
use Rattle.custom_model.specs.Value.{CustomValue, unplaced}
use Rattle.custom_model.specs.Expand.{Lookup, expansion}
use Rattle.custom_model.specs.Computed.{wide_of}
use Rattle.value_model.specs.Value.{Value}
use Rattle.sheet_model.specs.Shorthands.{PropertyName, value_for}
use Rattle.sheet_model.specs.Declared.{Given, wide, exactly, referring, holding}
use Rattle.cascade_model.specs.Key.{Matched, level_cmp}
use Rattle.cascade_model.specs.Winner.{greatest_of, declares_longhand, declares_custom}

-- what the declarations of a property come to, where its values are of some type
pub data Ending (A : Type 0) : Type 0 where
  -- it takes the parent's value
  inherits : Ending A
  -- it takes the initial value
  initially : Ending A
  -- it inherits if the property is inherited, and else takes the initial value
  unsets : Ending A
  ends_at : A → Ending A

-- what a declaration means for its property
pub data Meaning (A : Type 0) : Type 0 where
  keyword : Wide → Meaning A
  value : A → Meaning A

-- a value, or what behaves as `unset` where there is none (css-variables-1, section 3)
abbrev pub value_or_unset : {A : Type 0} → Option A → Meaning A
value_or_unset (Some given) = value given
value_or_unset None = keyword unset

-- What tokens mean for a property once they are expanded, as the value of it or of a shorthand: a CSS-wide keyword acts
-- as it, and what is not taken behaves as `unset`.
abbrev pub expanded_meaning : ℕ → PropertyName → CustomValue → Option Wide → Meaning Value
expanded_meaning id property_name tokens (Some word) = keyword word
expanded_meaning id property_name tokens None = value_or_unset (value_for property_name id (map unplaced tokens))

abbrev pub referring_meaning : ℕ → PropertyName → Option CustomValue → Meaning Value
referring_meaning id property_name None = keyword unset
referring_meaning id property_name (Some tokens) = expanded_meaning id property_name tokens (wide_of tokens)

-- what a declaration means for a property of the table, over the values of the custom properties
abbrev pub meaning_of : Lookup → ℕ → Given → Meaning Value
meaning_of values id (wide word) = keyword word
meaning_of values id (exactly given) = value given
meaning_of values id (referring property_name tokens) = referring_meaning id property_name (expansion values tokens)
meaning_of values id (holding tokens) = keyword unset

-- and for a custom property, whose value is expanded later
abbrev pub custom_meaning : Given → Meaning CustomValue
custom_meaning (wide word) = keyword word
custom_meaning (exactly given) = keyword unset
custom_meaning (referring property_name tokens) = keyword unset
custom_meaning (holding tokens) = value tokens

-- `revert` takes the cascade back to the origins below, of which there is none below the user agent's (section 7.3.4)
abbrev pub of_lower_origin : Matched → List Matched → List Matched
of_lower_origin winning ds = filter (λ d. nat_lt (origin_rank d.origin) (origin_rank winning.origin)) ds

-- and `revert-layer` to the levels below (section 7.3.5): both to normal and to important declarations
abbrev pub of_lower_level : Matched → List Matched → List Matched
of_lower_level winning ds = filter (λ d. is_lt (level_cmp d winning)) ds

-- what the declaration that wins comes to; where it takes the cascade back, what is left is asked again
abbrev pub ending_on : {A : Type 0} → (List Matched → Ending A) → List Matched → Matched → Meaning A → Ending A
ending_on again ds winning (keyword inherit) = inherits
ending_on again ds winning (keyword initial) = initially
ending_on again ds winning (keyword unset) = unsets
ending_on again ds winning (keyword revert) = again (of_lower_origin winning ds)
ending_on again ds winning (keyword revert_layer) = again (of_lower_level winning ds)
ending_on again ds winning (value given) = ends_at given

-- without a declaration a property is as if `unset`
abbrev pub ending_by : {A : Type 0} → (List Matched → Ending A) → (Given → Meaning A) → List Matched → Ending A
ending_by again means ds =
    option_map_or (λ winning. ending_on again ds winning (means winning.given)) (greatest_of ds) unsets

-- in so many rounds at most
abbrev pub ending_within : {A : Type 0} → ℕ → (Given → Meaning A) → List Matched → Ending A
ending_within zero means ds = unsets
ending_within (suc rounds) means ds = ending_by (ending_within rounds means) means ds

-- What the declarations of one property come to. Each round drops the one that won, so there are no more rounds than
-- declarations.
unfoldable pub ending_of : {A : Type 0} → (Given → Meaning A) → List Matched → Ending A
ending_of means ds = ending_within (length ds) means ds

-- what the declarations of a property of the table come to, over the values of the custom properties
abbrev pub ending : Lookup → ℕ → List Matched → Ending Value
ending values property ds = ending_of (meaning_of values property) (filter (declares_longhand property) ds)

-- what those of a custom property come to, before it is expanded
abbrev pub custom_ending : Characters → List Matched → Ending CustomValue
custom_ending name ds = ending_of custom_meaning (filter (declares_custom name) ds)
