-- What shorthands and declarations of the code stand for.
use Rattle.std.specs.Prelude.{ℕ, ◌+◌, ◌-◌, ◌==◌, nat_le, nat_lt, ◌||◌, List, [], ◌∷◌, map, length, position, unwrap_or, if◌then◌else◌}
use Rattle.value_model.specs.Shorthand as shorthand_model
use Rattle.value_model.specs.Shorthand.{longhands_of}
use Rattle.sheet_model.specs.Shorthands as name_model
use Rattle.sheet_model.specs.Shorthands.{longhands_named}
use Rattle.sheet_model.specs.Declared as model
use Rattle.css_tokens.specs.View.{wide_of}
use Rattle.property_table.specs.View.{property_of, value_seen}
use Rattle.shorthands.specs.declared.short.Short.{Short}
use Rattle.shorthands.specs.declared.short.Short.TheVariants as short
use Rattle.shorthands.specs.declared.property_name.PropertyName.{PropertyName}
use Rattle.shorthands.specs.declared.property_name.PropertyName.TheVariants as property_name
use Rattle.shorthands.specs.declared.declared.Target.{Target}
use Rattle.shorthands.specs.declared.declared.Target.TheVariants.{Longhand, Shorthand, Custom}
use Rattle.shorthands.specs.declared.declared.Given.{Given}
use Rattle.shorthands.specs.declared.declared.Given.TheVariants.{Wide, Exactly, Referring, Holding}
use Rattle.shorthands.specs.declared.declared.Declared.{Declared}

abbrev pub short_of : Short → shorthand_model.Short
short_of short.Margin = shorthand_model.margin
short_of short.Padding = shorthand_model.padding
short_of short.BorderWidth = shorthand_model.border_width
short_of short.BorderStyle = shorthand_model.border_style
short_of short.BorderColor = shorthand_model.border_color
short_of short.Overflow = shorthand_model.overflow
short_of short.All = shorthand_model.all

abbrev pub property_name_of : PropertyName → name_model.PropertyName
property_name_of (property_name.Longhand id) = name_model.single (property_of id)
property_name_of (property_name.Shorthand short) = name_model.shorthand (short_of short)

-- What takes the value that a declaration gives. That of a custom property refers to nothing that is to be taken, so
-- any would do for it.
abbrev pub taker_of : Target → name_model.PropertyName
taker_of (Longhand id) = name_model.single (property_of id)
taker_of (Shorthand short) = name_model.shorthand (short_of short)
taker_of (Custom name) = name_model.single 0

-- what is declared, in the order of the table
abbrev pub targets_of : Target → List model.Target
targets_of (Longhand id) = model.longhand (property_of id) ∷ []
targets_of (Shorthand short) = map model.longhand (longhands_of (short_of short))
targets_of (Custom name) = model.custom name ∷ []

abbrev pub given_of : name_model.PropertyName → Given → model.Given
given_of property_name (Wide wide) = model.wide (wide_of wide)
given_of property_name (Exactly value) = model.exactly (value_seen value)
given_of property_name (Referring value) = model.referring property_name value
given_of property_name (Holding value) = model.holding value

-- the declaration of one of the targets
abbrev pub declared_as : Declared → model.Target → model.Declared
declared_as d target = record { target = target; given = given_of (taker_of d.target) d.given; important = d.important }

-- the declarations that one of the code stands for
abbrev pub declared_of : Declared → List model.Declared
declared_of d = map (declared_as d) (targets_of d.target)

-- how many they are
abbrev pub declared_count : Declared → ℕ
declared_count d = length (declared_of d)

abbrev pub target_longhands : Target → List ℕ
target_longhands (Longhand id) = property_of id ∷ []
target_longhands (Shorthand short) = longhands_of (short_of short)
target_longhands (Custom name) = []

-- the properties of the table that are declared
abbrev pub declared_longhands : Declared → List ℕ
declared_longhands d = target_longhands d.target

-- how many come before a property in a list; 0 where it is not in it
abbrev pub place_in : List ℕ → ℕ → ℕ
place_in properties property = unwrap_or (position (λ other. other == property) properties) 0

-- how many of the properties of a declaration come before this one; 0 where it declares it not
abbrev pub offset_of : Declared → ℕ → ℕ
offset_of d property = place_in (declared_longhands d) property

-- how many rows come before a row, of so many that begin with the first; 0 where it is none of them
abbrev pub rows_before : ℕ → ℕ → ℕ → ℕ
rows_before first count row = if nat_lt row first || nat_le (first + count) row then 0 else row - first

-- how many rows but one come before a row; 0 where it is that one
abbrev pub rows_but : ℕ → ℕ → ℕ
rows_but other row = if nat_lt row other then row else if row == other then 0 else row - 1
