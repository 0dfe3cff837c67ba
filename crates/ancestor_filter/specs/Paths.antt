-- The ancestors of an element, with the filter that counts their names.
use Rattle.std.specs.Prelude.{◌≡◌, ◌⊎◌, ℕ, List, [], Some, slice_get}
use Rattle.scene_model.specs.Element.{Element}
use Rattle.scene_model.specs.Lookups.{IsElement, parent_of}
use Rattle.scene_model.specs.Ancestors.{ancestors}
use Rattle.scene_model.specs.Valid.{IsValid}
use Rattle.ancestor_model.specs.Counts.{all_at}
use Rattle.ancestor_model.specs.Path.{IsPath}
use Rattle.ancestor_filter.specs.Names.{StandsFor}

-- The elements that were added, the last first, and the filter.
pub record Pushed : Type 0 where
  pub elements : List ℕ
  pub filter : List ℕ

-- no elements, and all counters at one number
abbrev pub nothing_pushed : ℕ → Pushed
nothing_pushed n = record { elements = []; filter = all_at n }

-- they are an element and its ancestors, or none, and the filter counts their names
abbrev pub IsRight : List Element → Pushed → Type 0
IsRight doc pushed = IsPath doc pushed.elements × StandsFor doc pushed.elements pushed.filter

-- what each step begins with or leads to

pub record IsRightIn (doc : List Element) (pushed : Pushed) : Type 0 where
  pub valid : IsValid doc
  pub right : IsRight doc pushed

-- x is a child of p
pub record IsBelow (doc : List Element) (x p : ℕ) : Type 0 where
  pub valid : IsValid doc
  pub there : IsElement doc x
  pub parent : parent_of doc x ≡ Some p

-- x may be added: its ancestors are there
pub record IsNext (doc : List Element) (x : ℕ) (pushed : Pushed) : Type 0 where
  pub there : IsElement doc x
  pub right : IsRight doc pushed
  pub above : pushed.elements ≡ ancestors doc x

-- nothing is left, or p is the first
pub record IsRightAt (doc : List Element) (p : ℕ) (pushed : Pushed) : Type 0 where
  pub right : IsRight doc pushed
  pub at : (pushed.elements ≡ []) ⊎ (slice_get pushed.elements 0 ≡ Some p)
