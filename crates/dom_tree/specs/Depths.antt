-- The depths of the nodes of a list.
use Rattle.std.specs.Prelude.{ℕ, List, map}
use Rattle.scene_model.specs.Lookups.{numbers}
use Rattle.scene_model.specs.Ancestors.{depth_of}
use Rattle.scene_model.specs.Nodes.{Node, listed, scene_of}

-- the depth of each node in the document, in list order
abbrev pub depths_of : List Node → List ℕ
depths_of nodes = map (depth_of (scene_of nodes)) (numbers (listed nodes))
