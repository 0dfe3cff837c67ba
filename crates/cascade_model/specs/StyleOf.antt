-- The style of each element: from the root down, each over the style of its parent.
use Rattle.std.specs.Prelude.{ℕ, ℤ, List, [], ◌∷◌, true, if◌then◌else◌, Option, Some, None, is_none}
use Rattle.std.specs.Option.{option_map_or}
use Rattle.scene_model.specs.Element.{Element}
use Rattle.scene_model.specs.Lookups.{parent_of}
use Rattle.scene_model.specs.Ancestors.{ancestors}
use Rattle.value_model.specs.Style.{Style, initial_style, initial_size, font_size_of}
use Rattle.sheet_model.specs.Sources.{Sources}
use Rattle.cascade_model.specs.Matching.{matching}
use Rattle.cascade_model.specs.Cascade.{cascaded}

-- the first element is the root
abbrev pub root_of : List Element → Option ℕ
root_of [] = None
root_of (element ∷ doc) = Some element.number

-- the font size of an element without a parent
abbrev pub root_size_at : List Element → Sources → ℕ → ℤ
root_size_at doc sources x =
    font_size_of (cascaded true initial_style initial_size (matching doc sources x)).values

-- what `rem` stands for (css-values-4, section 6.1)
unfoldable pub root_size_of : List Element → Sources → ℤ
root_size_of doc sources = option_map_or (root_size_at doc sources) (root_of doc) initial_size

-- the style of an element over its parent's; at the root the font size that is handed in is the initial one
abbrev pub styled_over : List Element → Sources → ℤ → Style → ℕ → Style
styled_over doc sources size parent x =
    let is_root = is_none (parent_of doc x) in
    cascaded is_root parent (if is_root then initial_size else size) (matching doc sources x)

-- the style of the first of a list of elements that leads up to the root, whose parent has all initial values
abbrev pub style_along : List Element → Sources → ℤ → List ℕ → Style
style_along doc sources size [] = initial_style
style_along doc sources size (x ∷ above) = styled_over doc sources size (style_along doc sources size above) x

unfoldable pub style_of : List Element → Sources → ℕ → Style
style_of doc sources x = style_along doc sources (root_size_of doc sources) (x ∷ ancestors doc x)

-- what an element's style is over: its parent's, and all initial values at the root
abbrev pub parent_style : List Element → Sources → Option ℕ → Style
parent_style doc sources None = initial_style
parent_style doc sources (Some p) = style_of doc sources p
