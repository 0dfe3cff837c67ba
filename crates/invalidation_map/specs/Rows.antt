-- The rows by which what is touched marks.
use Rattle.std.specs.Prelude.{◌≡◌, ℕ, ◌&&◌, Bool, List, Option, option_map, codes}
use Rattle.std.specs.List.{filter_map, flat_map, list_any}
use Rattle.scene_model.specs.Element.{Element}
use Rattle.scene_model.specs.Lookups.{numbers}
use Rattle.scene_model.specs.Numbers.{is_in}
use Rattle.selector_model.specs.Selector.{Selector}
use Rattle.selector_model.specs.Key.{Key, key_of}
use Rattle.edit_model.specs.Touched.{Touch, attribute}
use Rattle.edit_model.specs.TouchedBy.{is_listed, same_touch}
use Rattle.edit_model.specs.Dependencies.{Step, Dependency, dependencies, reaches, touch_of}
use Rattle.edit_model.specs.MarkedAfter.{bears_around}

-- that of an element's own `style`
abbrev pub style_touch : Touch
style_touch = attribute (codes "style")

-- a dependency that can be touched, of a selector with that key
pub record Row : Type 0 where
  pub touch : Touch
  pub path : List Step
  pub key : Key

abbrev pub row_of : Key → Dependency → Option Row
row_of key d = option_map (λ touch. record { touch = touch; path = d.path; key = key }) (touch_of d.part)

abbrev pub rows_of_selector : Selector → List Row
rows_of_selector selector = filter_map (row_of (key_of selector)) (dependencies selector)

abbrev pub rows_of : List Selector → List Row
rows_of selectors = flat_map rows_of_selector selectors

-- something is listed that leads to x
abbrev pub is_led_to : List Element → List (Touch × ℕ) → Touch → List Step → ℕ → Bool
is_led_to doc pairs touch path x = list_any (λ y. is_listed pairs touch y && reaches doc path y x) (numbers doc)

-- what a row marks
abbrev pub marks_by_row : List Element → List (Touch × ℕ) → Row → ℕ → Bool
marks_by_row doc pairs row x = bears_around (is_listed pairs) doc row.key x && is_led_to doc pairs row.touch row.path x

-- what a row without a path marks
abbrev pub marks_here : List Element → List (Touch × ℕ) → Touch → Key → ℕ → Bool
marks_here doc pairs touch key x = bears_around (is_listed pairs) doc key x && is_listed pairs touch x

-- these are the elements that are touched so
abbrev pub AreTouchedIn : List (Touch × ℕ) → Touch → List ℕ → Type 0
AreTouchedIn pairs touch elements = (y : ℕ) → is_in y elements ≡ is_listed pairs touch y

-- what the rows of a touch mark
abbrev pub marks_by_touch : List Element → List (Touch × ℕ) → List Row → Touch → ℕ → Bool
marks_by_touch doc pairs rows touch x =
    list_any (λ row. same_touch row.touch touch && marks_by_row doc pairs row x) rows
