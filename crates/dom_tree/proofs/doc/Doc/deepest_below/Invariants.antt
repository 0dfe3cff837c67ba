use Rattle.std.proofs.Common.{◌≡◌, ◌+◌, ◌≤◌, ◌&&◌, ℕ, nat_le, take}
use Rattle.std.specs.List.{list_all}
use Rattle.base_model.specs.Limits.{element_limit}
use Rattle.scene_model.specs.Ancestors.{depth_of, position_of}
use Rattle.scene_model.specs.Lookups.{IsElement}
use Rattle.dom_tree.proofs.doc.Doc.deepest_below.Given as goal

abbrev pub invariant-loop-y : goal.invariant-loop-y
invariant-loop-y l = record {
  there : IsElement l.self.elements l.last;
  at : position_of l.self.elements l.last ≡ position_of l.self.elements l.x + l.y-index;
  depth : l.depth ≡ depth_of l.self.elements l.last;
  few : l.most ≤ element_limit;
  most : (n : ℕ) → nat_le l.most n ≡ (nat_le (depth_of l.self.elements l.x) n && list_all (λ y. nat_le (depth_of l.self.elements y) n) (take l.y-index l.below));
}
