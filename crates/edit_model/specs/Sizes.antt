-- Texts and attributes of a given size, for limits.
use Rattle.std.specs.Prelude.{ℕ, zero, suc, [], replicate}
use Rattle.std.specs.FinMap as finmap
use Rattle.base_model.specs.Text.{Characters}
use Rattle.scene_model.specs.Element.{Attributes}

-- so many letters, each of one byte
unfoldable pub letters : ℕ → Characters
letters n = replicate n 97

-- so many attributes, whose names are as many letters
unfoldable pub many : ℕ → Attributes
many zero = finmap.empty
many (suc n) = finmap.insert (many n) (letters (suc n)) []
