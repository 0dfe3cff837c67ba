-- What comes after brackets are closed.
use Rattle.std.specs.Prelude.{List, [], ◌∷◌, if◌then◌else◌}
use Rattle.base_model.specs.Lists.{is_nil}
use Rattle.syntax_model.specs.Token.{Token}
use Rattle.syntax_model.specs.Brackets.{Bracket, open_past}

-- what comes after the token that closes the last of these brackets: nothing, if none does
abbrev pub after_closer : List Bracket → List Token → List Token
after_closer pending [] = []
after_closer pending (token ∷ tokens) =
    if is_nil pending then (token ∷ tokens) else after_closer (open_past pending token) tokens
