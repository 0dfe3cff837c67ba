-- What holds of every document.
use Rattle.std.specs.Prelude.{ℕ, ◌<◌, ◌≡◌, nat_eq, List, Some, None}
use Rattle.std.specs.List.{IsDistinct}
use Rattle.scene_model.specs.Element.{Element}
use Rattle.scene_model.specs.Lookups.{numbers, parent_of, IsElement}
use Rattle.scene_model.specs.Ancestors.{position_of}

-- No number is given twice. Each parent is an element and is before its child. Only the first has none.
pub record IsValid (doc : List Element) : Type 0 where
  pub distinct : IsDistinct nat_eq (numbers doc)
  pub parents : (x p : ℕ) → parent_of doc x ≡ Some p → IsElement doc p × (position_of doc p < position_of doc x)
  pub root : (x : ℕ) → IsElement doc x → parent_of doc x ≡ None → position_of doc x ≡ 0
