-- The parts of a shorthand's value.
use Rattle.std.specs.Prelude.{List, map, take}
use Rattle.syntax_model.specs.Token.{Token}
use Rattle.shorthands.specs.declared.parts.Parts.{Parts}

abbrev pub parts_seen : Parts → List (List Token)
parts_seen p = map (λ part. part.now) (take p.len p.parts)
