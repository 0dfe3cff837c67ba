-- Which declaration wins, and what the CSS-wide keywords come to, computed.
use Rattle.std.proofs.Common.{◌≡◌, ℕ, ◌&&◌, Bool, List, [], ◌∷◌, map, refl, false, true}
use Rattle.base_model.specs.Origin.{Origin, user_agent, user, author}
use Rattle.base_model.specs.Specificity.{Specificity, nothing, one_id, one_class}
use Rattle.syntax_model.specs.Wide.{Wide, inherit, initial, unset, revert, revert_layer}
use Rattle.value_model.specs.Value.{Value, same_value}
use Rattle.value_model.specs.Table.{color_property}
use Rattle.sheet_model.specs.Declared.{wide}
use Rattle.cascade_model.specs.Key.{Matched}
use Rattle.cascade_model.specs.Ending.{Ending, inherits, initially, unsets, ends_at, ending, ending_of}
use Rattle.cascade_model.proofs.ExampleCases.{red, blue, lime, plainly, no_custom}

-- Which of two declarations of `color` wins. Each here is of an author's sheet and of `*`, but for what is said.
abbrev is_red : Ending Value → Bool
is_red (ends_at value) = same_value value red
is_red end = false

-- the first wins over the second, in whichever order they come
abbrev beats : (Value → Matched) → (Value → Matched) → Bool
beats one other =
    is_red (ending no_custom color_property (one red ∷ other lime ∷ []))
    && is_red (ending no_custom color_property (other lime ∷ one red ∷ []))

-- each wins over the one before it
abbrev rises : {A : Type 0} → (A → Value → Matched) → (A → Value → Matched) → List A → Bool
rises strong weak [] = true
rises strong weak (a ∷ []) = true
rises strong weak (a ∷ b ∷ rest) = beats (strong b) (weak a) && rises strong weak (b ∷ rest)

abbrev specific : ℕ → ℕ → ℕ → Specificity
specific ids classes types = record { ids = ids; classes = classes; types = types }

abbrev with_specificity : Specificity → Value → Matched
with_specificity specificity value = record (plainly value) { specificity = specificity }

by_specificity : rises with_specificity (λ s value. record (with_specificity s value) { index = 9 }) (nothing ∷ specific 0 0 1 ∷ specific 0 0 9 ∷ specific 0 1 0 ∷ specific 0 9 9 ∷ specific 1 0 0 ∷ []) ≡ true
unfolding ending_of
by_specificity = refl

abbrev of_origin : Origin × Bool → Value → Matched
of_origin level value = record (plainly value) { origin = level.0; important = level.1 }

by_origin : rises of_origin (λ level value. record (of_origin level value) {
  attached = true;
  specificity = specific 9 9 9;
  position = 9;
  index = 9;
}) ((user_agent, false) ∷ (user, false) ∷ (author, false) ∷ (author, true) ∷ (user, true) ∷ (user_agent, true) ∷ []) ≡ true
unfolding ending_of
by_origin = refl

-- later in one sheet, and in a later one
abbrev with_index : ℕ → Value → Matched
with_index index value = record (plainly value) { index = index }

by_index : rises with_index with_index (0 ∷ 1 ∷ 9 ∷ 18446744073709551615 ∷ []) ≡ true
unfolding ending_of
by_index = refl

by_position : beats (λ value. record (plainly value) { position = 1 }) (λ value. record (plainly value) {
  sheet = 2;
  index = 9;
}) ≡ true
unfolding ending_of
by_position = refl

first_of_equal_ones : ending no_custom color_property (plainly red ∷ plainly lime ∷ []) ≡ ends_at red
unfolding ending_of
first_of_equal_ones = refl

-- the `style` attribute
abbrev of_attribute : Value → Matched
of_attribute value = record (plainly value) { attached = true }

attached_wins : beats of_attribute (λ value. record (plainly value) {
  specificity = one_id;
  layer = 3;
  index = 9;
}) ≡ true
unfolding ending_of
attached_wins = refl

important_wins : beats (λ value. record (plainly value) { important = true }) of_attribute ≡ true
unfolding ending_of
important_wins = refl

-- the later layer, and among important ones the earlier
later_layer : beats (λ value. record (plainly value) { layer = 1 }) (with_specificity one_class) ≡ true
unfolding ending_of
later_layer = refl

earlier_layer : beats (λ value. record (with_specificity one_class value) { important = true }) (λ value. record (plainly value) {
  important = true;
  layer = 1;
}) ≡ true
unfolding ending_of
earlier_layer = refl

no_ending : ending no_custom color_property [] ≡ unsets
unfolding ending_of
no_ending = refl

-- The CSS-wide keywords.
abbrev says : Wide → Matched
says keyword_given = record (plainly red) { given = wide keyword_given; index = 9 }

abbrev comes_to : List Matched → Ending Value
comes_to ds = ending no_custom color_property ds

three_keywords : map (λ w. comes_to (says w ∷ plainly lime ∷ [])) (inherit ∷ initial ∷ unset ∷ []) ≡ inherits ∷ initially ∷ unsets ∷ []
unfolding ending_of
three_keywords = refl

abbrev from : Origin → Value → Matched
from origin value = record (plainly value) { origin = origin }

abbrev in_layer : ℕ → Matched → Matched
in_layer layer d = record d { layer = layer }

abbrev importantly : Matched → Matched
importantly d = record d { important = true }

abbrev inline : Matched → Matched
inline d = record d { attached = true }

-- `revert` goes back to what is below its origin, whichever layers and places there are
reverts : comes_to (from user_agent blue ∷ from user lime ∷ plainly red ∷ says revert ∷ []) ≡ ends_at lime
unfolding ending_of
reverts = refl

reverts_twice : comes_to (from user_agent blue ∷ record (says revert) { origin = user } ∷ inline (says revert) ∷ plainly red ∷ []) ≡ ends_at blue
unfolding ending_of
reverts_twice = refl

important_reverts : comes_to (from user lime ∷ importantly (plainly red) ∷ inline (importantly (says revert)) ∷ []) ≡ ends_at lime
unfolding ending_of
important_reverts = refl

-- an important declaration of a lower origin is among what is below
keeps_importance : comes_to (from user_agent blue ∷ importantly (from user_agent lime) ∷ importantly (says revert) ∷ []) ≡ ends_at lime
unfolding ending_of
keeps_importance = refl

none_below : map (λ origin. comes_to (record (says revert) { origin = origin } ∷ [])) (user_agent ∷ user ∷ author ∷ []) ≡ unsets ∷ unsets ∷ unsets ∷ []
unfolding ending_of
none_below = refl

-- `revert-layer` goes back to the layers below its own
reverts_layer : comes_to (in_layer 0 (plainly red) ∷ in_layer 1 (plainly blue) ∷ in_layer 2 (plainly lime) ∷ in_layer 2 (says revert_layer) ∷ []) ≡ ends_at blue
unfolding ending_of
reverts_layer = refl

reverts_out_of_the_attribute : comes_to (in_layer 3 (plainly red) ∷ inline (plainly blue) ∷ inline (says revert_layer) ∷ []) ≡ ends_at red
unfolding ending_of
reverts_out_of_the_attribute = refl

important_rules_stay : comes_to (in_layer 3 (plainly red) ∷ importantly (in_layer 1 (plainly lime)) ∷ inline (importantly (says revert_layer)) ∷ []) ≡ ends_at lime
unfolding ending_of
important_rules_stay = refl

-- the lowest layer wins among important ones, and nothing of the author is below it
out_of_the_lowest_layer : comes_to (from user_agent blue ∷ importantly (in_layer 0 (says revert_layer)) ∷ importantly (in_layer 1 (plainly lime)) ∷ in_layer 2 (plainly red) ∷ []) ≡ ends_at blue
unfolding ending_of
out_of_the_lowest_layer = refl

layer_by_layer : comes_to (plainly lime ∷ in_layer 1 (says revert_layer) ∷ in_layer 2 (says revert_layer) ∷ in_layer 3 (says revert_layer) ∷ []) ≡ ends_at lime
unfolding ending_of
layer_by_layer = refl
