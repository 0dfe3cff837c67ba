-- The parts of a value as one list of steps, in the order of its tokens.
use Rattle.std.specs.Prelude.{List, [], ◌∷◌, ◌++◌, Option, option_map}
use Rattle.base_model.specs.Text.{Characters}
use Rattle.syntax_model.specs.Token.{Said}
use Rattle.custom_model.specs.Value.{CustomValue}
use Rattle.custom_model.specs.Parts.{Parts, done, plain, reference, with_fallback, parts}

pub data Step : Type 0 where
  -- a token that stands for itself
  token : Said → Step
  -- a `var()` without a fallback
  alone : Characters → Step
  -- a `var()` whose fallback begins
  begins : Characters → Step
  -- a fallback, and its `var()`, ends
  ends : Step

abbrev pub steps : Parts → List Step
steps done = []
steps (plain said rest) = token said ∷ steps rest
steps (reference name rest) = alone name ∷ steps rest
steps (with_fallback name fallback rest) = begins name ∷ steps fallback ++ ends ∷ steps rest

-- the steps of a value, where it is valid
unfoldable pub steps_in : CustomValue → Option (List Step)
steps_in tokens = option_map steps (parts tokens)
