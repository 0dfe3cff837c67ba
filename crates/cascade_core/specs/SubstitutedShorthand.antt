-- The values of a shorthand's longhands once the `var()`s in its value are substituted; what longhands are read over.
use Rattle.std.specs.Prelude.{◌≡◌, refl, ℕ, List, map, option_map}
use Rattle.std.specs.FinMap as finmap
use Rattle.custom_model.specs.Value.{CustomValue, CustomValues, values_code}
use Rattle.std.specs.Coded.{Coded, code_by, coded×, coded_ℕ}
use Rattle.custom_model.specs.Expand.{expansion}
use Rattle.value_model.specs.Value.{Value}
use Rattle.value_model.specs.Shorthand.{longhands_of}
use Rattle.sheet_model.specs.Shorthands.{shorthand}
use Rattle.cascade_model.specs.Ending.{Meaning, keyword, value_or_unset, referring_meaning}
use Rattle.css_tokens.specs.View.{wide_of}
use Rattle.property_table.specs.View.{value_seen}
use Rattle.shorthands.specs.View.{short_of}
use Rattle.shorthands.specs.declared.short.Short.{Short}
use Rattle.cascade_core.specs.declared.substituted_shorthand.SubstitutedShorthand.{SubstitutedShorthand}
use Rattle.cascade_core.specs.declared.substituted_shorthand.SubstitutedShorthand.TheVariants.{Keyword, Values}
use Rattle.cascade_core.specs.Tokens.{among}

-- the custom properties and the property that declarations are read as of
pub record Reading : Type 0 where
  pub custom : CustomValues
  pub property : ℕ

abbrev pub reading_code : Coded Reading
reading_code =
    code_by
    (CustomValues × ℕ)
    (coded× values_code coded_ℕ)
    (λ r. (r.custom, r.property))
    (λ p. record { custom = p.0; property = p.1 })
    (λ _. refl)

-- the value of one of these longhands
abbrev pub longhand_value : SubstitutedShorthand → List ℕ → ℕ → Meaning Value
longhand_value (Keyword word) ids p = keyword (wide_of word)
longhand_value (Values values) ids p = value_or_unset (among p ids (map (option_map value_seen) values))

-- they are the values where this value is declared for the shorthand
abbrev pub IsSubstituted : SubstitutedShorthand → Short → CustomValue → CustomValues → Type 0
IsSubstituted substituted short value custom =
    (p : ℕ) → longhand_value substituted (longhands_of (short_of short)) p
    ≡ referring_meaning p (shorthand (short_of short)) (expansion (finmap.get custom) value)
