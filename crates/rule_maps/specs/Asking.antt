-- Whether a selector asks for something of an element's ancestors.
use Rattle.std.specs.Prelude.{List, [], ◌∷◌, Bool, true, false}
use Rattle.base_model.specs.Text.{Characters}

abbrev pub has_some : List Characters → Bool
has_some [] = false
has_some (name ∷ names) = true
