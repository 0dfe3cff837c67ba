-- What tokens say does not go with their places.
use Rattle.std.proofs.Common.{◌≡◌, [], ◌∷◌, map, refl, ap}
use Rattle.syntax_model.specs.Token.{said}
use Rattle.custom_model.specs.Value.{CustomValue, unplaced}

pub said_unplaced : (value : CustomValue) → map said (map unplaced value) ≡ value
said_unplaced [] = refl
said_unplaced (token ∷ tokens) = ap (λ rest. token ∷ rest) (said_unplaced tokens)
