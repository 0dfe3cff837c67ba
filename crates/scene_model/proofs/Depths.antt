-- The depth of each node of a list in the document that it stands for.
use Rattle.std.proofs.Common.{◌≡◌, ℕ, ◌+◌, List, Some, None, option_map, slice_get, ap, ◌∙◌}
use Rattle.scene_model.specs.Lookups.{parent_of}
use Rattle.scene_model.specs.Ancestors.{depth_of}
use Rattle.scene_model.specs.Nodes.{Node, IsNodeList, scene_of}
use Rattle.scene_model.proofs.Climbing.{depth_of-child, depth_of-root}
use Rattle.scene_model.proofs.Listed.{parent_of-listed}
use Rattle.scene_model.proofs.TreeOrder.{parent_of-scene_of, IsValid-scene_of}

module _ (nodes : List Node) (v : IsNodeList nodes) where
  pub parent_of-node : (k : ℕ) (node : Node) → slice_get nodes k ≡ Some node → parent_of (scene_of nodes) (k + 1) ≡ option_map (λ p. p + 1) node.parent
  parent_of-node k node h = parent_of-scene_of nodes v (k + 1) ∙ parent_of-listed nodes k node h

  pub depth_of-node : (k : ℕ) (node : Node) (p : ℕ) → slice_get nodes k ≡ Some node → node.parent ≡ Some p → depth_of (scene_of nodes) (k + 1) ≡ depth_of (scene_of nodes) (p + 1) + 1
  depth_of-node k node p h e =
      depth_of-child (scene_of nodes) (IsValid-scene_of nodes v) (k + 1) (p + 1) (parent_of-node k node h ∙ ap (option_map (λ q. q + 1)) e)

  pub depth_of-first : (k : ℕ) (node : Node) → slice_get nodes k ≡ Some node → node.parent ≡ None → depth_of (scene_of nodes) (k + 1) ≡ 1
  depth_of-first k node h e =
      depth_of-root (scene_of nodes) (IsValid-scene_of nodes v) (k + 1) (parent_of-node k node h ∙ ap (option_map (λ q. q + 1)) e)
