-- The lists of one node that the insertions of a generated job put in.
use Rattle.std.specs.Prelude.{◌≡◌, ℕ, ◌+◌, ◌*◌, ◌<◌, List, [], ◌∷◌, Option, Some, length, slice_get}
use Rattle.scene_model.specs.Nodes.{Node}
use Rattle.job_json.specs.Gen.{inserted_node}

-- what is made, by the number of the tag and that of the class, is the node that these choose
pub record AreInsertions (made : List (Option (List Node))) : Type 0 where
  pub room : length made ≡ 64
  pub right : (tag class : ℕ) (nodes : List Node) → class < 16
      → slice_get made (tag * 16 + class) ≡ Some (Some nodes) → nodes ≡ inserted_node tag class ∷ []
