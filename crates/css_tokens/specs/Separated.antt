-- The parts that are left of a list with commas.
use Rattle.std.specs.Prelude.{List, [], Option, Some, None}
use Rattle.syntax_model.specs.Token.{Token}
use Rattle.syntax_model.specs.TokenKinds.{is_comma}
use Rattle.syntax_model.specs.Outside.{parts_between}

-- those of the tokens that are left, if a part is left
abbrev pub parts_left : Option (List Token) → List (List Token)
parts_left None = []
parts_left (Some tokens) = parts_between is_comma tokens
