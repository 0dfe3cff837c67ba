-- What a cascade is over, as one list.
use Rattle.std.specs.Prelude.{◌≡◌, ℕ, ℤ, zero, suc, List, ◌++◌, Bool, Option, None, slice_get, flat_map}
use Rattle.value_model.specs.Style.{Style}
use Rattle.cascade_model.specs.Key as model
use Rattle.cascade_model.specs.Cascade.{cascaded}
use Rattle.cascade_core.specs.View.{lent_of}
use Rattle.cascade_core.specs.declared.declarations.Declarations.{Declarations}
use Rattle.cascade_core.specs.declared.matched.LentMatched.{LentMatched}

-- those of the rules, and after them those of the `style` attribute
abbrev pub in_order : Declarations → List LentMatched
in_order declarations = declarations.matched.now ++ declarations.attached.now

-- the same, where a declaration of a shorthand is one of each of its longhands
abbrev pub all_matched : Declarations → List model.Matched
all_matched declarations = flat_map lent_of (in_order declarations)

-- the declaration at a place, which is its number from 1
abbrev pub at_place : List LentMatched → ℕ → Option LentMatched
at_place list zero = None
at_place list (suc index) = slice_get list index

-- the style by these declarations, over that of the parent
abbrev pub IsCascaded : Bool → Style → ℤ → List model.Matched → Style → Type 0
IsCascaded is_root parent root_size list style = style ≡ cascaded is_root parent root_size list
