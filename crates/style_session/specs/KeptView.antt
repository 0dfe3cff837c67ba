-- The styles that a session keeps, as contracts see them.
use Rattle.std.specs.Prelude.{◌≡◌, ℕ, ◌≤◌, List, [], length, map, Bool, not, ◌&&◌, if◌then◌else◌, Option, None, option_and_then, option_map, slice_get, refl}
use Rattle.std.specs.Arc.{arc_value}
use Rattle.std.specs.Coded.{Coded, code_by, coded×, coded_ℕ, coded_list, coded_option}
use Rattle.std.specs.Option.{option_or}
use Rattle.std.specs.declared.sync.Arc.{Arc}
use Rattle.scene_model.specs.Element.{Element}
use Rattle.scene_model.specs.Lookups.{is_element}
use Rattle.scene_model.specs.Numbers.{is_in}
use Rattle.value_model.specs.Style.{Style, style_code}
use Rattle.session_model.specs.Walk.{Styled, result_at}

-- by number the style that the element had, if it was there, and the elements that the last restyle cascaded
pub record KeptView : Type 0 where
  pub styles : List (Option Style)
  pub recent : List ℕ

abbrev pub kept_code : Coded KeptView
kept_code =
    code_by (List (Option Style) × List ℕ) (coded× (coded_list (coded_option style_code)) (coded_list coded_ℕ))
    (λ k. (k.styles, k.recent))
    (λ p. record { styles = p.0; recent = p.1 })
    (λ _. refl)

abbrev pub no_styles : KeptView
no_styles = record { styles = []; recent = [] }

-- the style that is kept of a number, if one is
abbrev pub style_at : KeptView → ℕ → Option Style
style_at kept x = option_and_then (λ o. o) (slice_get kept.styles x)

-- the same at the places themselves
abbrev pub slot_at : {A : Type 0} → List (Option (Arc Style A)) → ℕ → Option Style
slot_at slots x = option_and_then (option_map arc_value) (slice_get slots x)

-- a number of the list that no element has
abbrev pub is_gone : List Element → List ℕ → ℕ → Bool
is_gone doc list x = is_in x list && not (is_element doc x)

-- there are so many places at least, and what is kept is as it was
pub record HasSlots (places there : ℕ) (before now : ℕ → Option Style) : Type 0 where
  pub enough : places ≤ there
  pub styles : (x : ℕ) → now x ≡ before x

-- the same of what contracts see
pub record HasPlaces (places : ℕ) (old new : KeptView) : Type 0 where
  pub enough : places ≤ length new.styles
  pub styles : (x : ℕ) → style_at new x ≡ style_at old x
  pub recent : new.recent ≡ old.recent

-- the new style of each that a restyle cascaded, in place of the one that was kept
pub record Commits (found : List Styled) (old new : KeptView) : Type 0 where
  pub styles : (x : ℕ) → style_at new x ≡ option_or (result_at found x) (style_at old x)
  pub recent : new.recent ≡ map (λ one. one.number) found

-- of the numbers of a list those that no element has keep no style
pub record DropsGone (doc : List Element) (gone : List ℕ) (old new : KeptView) : Type 0 where
  pub styles : (x : ℕ) → style_at new x ≡ (if is_gone doc gone x then None else style_at old x)
  pub recent : new.recent ≡ old.recent
