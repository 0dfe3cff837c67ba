-- Elements with one parent that are alike in all but their places and children.
use Rattle.std.specs.Prelude.{◌≡◌, ℕ, ◌==◌, List, [], ◌∷◌, Bool, true, false, ◌&&◌, Option, Some, None}
use Rattle.std.specs.Bool.{beq}
use Rattle.std.specs.FinMap as finmap
use Rattle.base_model.specs.Text.{Characters, same_text}
use Rattle.scene_model.specs.Element.{Element, Attributes, State, hover_state, active_state, focus_state}
use Rattle.scene_model.specs.Lookups.{is_element, IsElement, parent_of, tag_of, attributes_of, state_of}

pub record IsTwin (doc : List Element) (y x : ℕ) : Type 0 where
  pub there : IsElement doc y
  pub here : IsElement doc x
  pub parent : (p : ℕ) × (parent_of doc y ≡ Some p) × (parent_of doc x ≡ Some p)
  pub tag : tag_of doc y ≡ tag_of doc x
  pub attributes : attributes_of doc y ≡ attributes_of doc x
  pub states : (state : State) → state_of doc y state ≡ state_of doc x state

-- the same as a test

abbrev pub same_pairs : List (Characters × Characters) → List (Characters × Characters) → Bool
same_pairs [] [] = true
same_pairs [] (q ∷ qs) = false
same_pairs (p ∷ ps) [] = false
same_pairs (p ∷ ps) (q ∷ qs) = (same_text p.0 q.0 && same_text p.1 q.1) && same_pairs ps qs

abbrev pub same_attributes : Attributes → Attributes → Bool
same_attributes a b = same_pairs (finmap.entries a) (finmap.entries b)

-- both are there, and the same
abbrev pub same_parent : Option ℕ → Option ℕ → Bool
same_parent (Some p) (Some q) = p == q
same_parent (Some p) None = false
same_parent None o = false

abbrev pub same_state : List Element → ℕ → ℕ → State → Bool
same_state doc y x state = beq (state_of doc y state) (state_of doc x state)

abbrev pub same_states : List Element → ℕ → ℕ → Bool
same_states doc y x =
    same_state doc y x hover_state && (same_state doc y x active_state && same_state doc y x focus_state)

-- the same tag, attributes and states
abbrev pub is_alike : List Element → ℕ → ℕ → Bool
is_alike doc y x =
    same_text (tag_of doc y) (tag_of doc x)
    && (same_attributes (attributes_of doc y) (attributes_of doc x) && same_states doc y x)

abbrev pub is_twin : List Element → ℕ → ℕ → Bool
is_twin doc y x =
    (is_element doc y && is_element doc x) && (same_parent (parent_of doc y) (parent_of doc x) && is_alike doc y x)
