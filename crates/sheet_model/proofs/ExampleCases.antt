-- How examples are written.
use Rattle.std.specs.Prelude.{◌≡◌, ℕ, ℤ, pos, neg_ℤ, true, false, List, map, Option, Some, is_none}
use Rattle.std.specs.List.{list_all}
use Rattle.base_model.specs.Text.{Characters}
use Rattle.syntax_model.specs.TokensIn.{tokens_in}
use Rattle.value_model.specs.Value.{Value, keyword, pixels}
use Rattle.sheet_model.specs.ValueIn.{value_in}
use Rattle.sheet_model.specs.Declared.{Declared, longhand, exactly}

-- a value, not important
abbrev pub declares : ℕ → Value → Declared
declares property value = record { target = longhand property; given = exactly value; important = false }

-- the values of a property in texts
abbrev pub reads : ℕ → List Characters → List (Option Value)
reads property texts = map (λ text. value_in property (tokens_in text)) texts

-- texts that are no value of it
abbrev pub reads_none : ℕ → List Characters → Type 0
reads_none property texts = list_all is_none (reads property texts) ≡ true

abbrev pub words : List Characters → List (Option Value)
words texts = map (λ text. Some (keyword text)) texts

-- amounts in thousandths, some below 0
abbrev pub minus : ℕ → ℤ
minus n = neg_ℤ (pos n)

abbrev pub all_pixels : List ℤ → List (Option Value)
all_pixels amounts = map (λ z. Some (pixels z)) amounts
