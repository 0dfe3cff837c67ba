-- That nodes are a list is no more than true.
use Rattle.std.proofs.Common.{◌≡◌, ℕ, ◌+◌, List, [], ◌∷◌, Option, Some, None}
use Rattle.std.proofs.Props.{props}
use Rattle.std.proofs.Math.Logic.{∥∥₁_elim}
use Rattle.scene_model.specs.Nodes.{Node, HaveParentsFrom, IsNodeList, IsParentAt}
use Rattle.edit_model.specs.Edit.{DocEdit, IsShaped, insert, remove, move, set, unset, set_state}

parent-prop : (k : ℕ) (parent : Option ℕ) → IsProp (IsParentAt k parent)
parent-prop k None = hlevel props
parent-prop k (Some p) = hlevel props

parents-prop : (k : ℕ) (nodes : List Node) → IsProp (HaveParentsFrom k nodes)
parents-prop k [] = hlevel props
parents-prop k (node ∷ nodes) = let one = parent-prop k node.parent in let rest = parents-prop (k + 1) nodes in hlevel (props, one, rest)

nodes-prop : (nodes : List Node) → IsProp (IsNodeList nodes)
nodes-prop nodes = let parents = parents-prop 0 nodes in hlevel (props, parents)

shaped-prop : (edit : DocEdit) → IsProp (IsShaped edit)
shaped-prop (insert p index nodes) = nodes-prop nodes
shaped-prop (remove n) = hlevel props
shaped-prop (move n p index) = hlevel props
shaped-prop (set x name text) = hlevel props
shaped-prop (unset x name) = hlevel props
shaped-prop (set_state x state on) = hlevel props

-- so it can be told again
pub is-shaped : (edit : DocEdit) → ∥ IsShaped edit ∥₁ → IsShaped edit
is-shaped edit h = ∥∥₁_elim h (shaped-prop edit) (λ shaped. shaped)
