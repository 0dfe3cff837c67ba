-- The CSS-wide keywords (css-cascade-5, section 7.3).
use Rattle.std.specs.Prelude.{List, [], ◌∷◌, find, Option, codes}
use Rattle.base_model.specs.Text.{Characters, is_word}

pub data Wide : Type 0 where
  inherit : Wide
  initial : Wide
  unset : Wide
  revert : Wide
  revert_layer : Wide

abbrev pub wide_word : Wide → Characters
wide_word inherit = codes "inherit"
wide_word initial = codes "initial"
wide_word unset = codes "unset"
wide_word revert = codes "revert"
wide_word revert_layer = codes "revert-layer"

abbrev pub wide_keywords : List Wide
wide_keywords = inherit ∷ initial ∷ unset ∷ revert ∷ revert_layer ∷ []

-- the keyword that a text is, ignoring ASCII case
abbrev pub wide_named : Characters → Option Wide
wide_named text = find (λ wide. is_word (wide_word wide) text) wide_keywords
