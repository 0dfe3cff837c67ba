-- What a first walk in tree order has found out.
use Rattle.std.specs.Prelude.{◌≡◌, ℕ, ◌<◌, ◌==◌, List, [], ◌∷◌, ◌++◌, length, map, false, if◌then◌else◌, min, Option, IsSome, None, Some, option_map, slice_get, slice_set}
use Rattle.std.specs.Arc.{arc_value}
use Rattle.std.specs.declared.sync.Arc.{Arc}
use Rattle.scene_model.specs.Document.{Document}
use Rattle.scene_model.specs.Element.{Element}
use Rattle.scene_model.specs.Lookups.{IsElement, is_element, numbers, parent_of}
use Rattle.scene_model.specs.Numbers.{is_in}
use Rattle.scene_model.specs.Scene.{Scene, elements_of}
use Rattle.change_model.specs.Sound.{IsSound}
use Rattle.value_model.specs.Style.{Style}
use Rattle.invalidation_map.specs.Steps.{HasRoom}
use Rattle.element_styler.specs.declared.prepared.Inputs.{Inputs}
use Rattle.session_model.specs.Standing.{root_size_in, style_in}
use Rattle.style_session.specs.KeptView.{KeptView, slot_at, style_at}
use Rattle.style_session.specs.Lent.{IsRoot, scene_lent}
use Rattle.style_session.specs.declared.derived.StyleCache.{StyleCache}
use Rattle.style_session.specs.declared.first_restyle.FirstWalk.{FirstWalk}

-- in place of the number of a style that is not known
abbrev pub unknown : ℕ
unknown = 4294967295

-- the number that is kept of a style
abbrev pub place_of : ℕ → ℕ
place_of style = min style unknown

-- the styles of all elements and no others, at their places by number, and the numbers in tree order
pub record AreAll (scene : Scene) (made : KeptView) : Type 0 where
  pub styles : (x : ℕ) → IsElement (elements_of scene) x → style_at made x ≡ Some (style_in scene x)
  pub absent : (x : ℕ) → is_element (elements_of scene) x ≡ false → style_at made x ≡ None
  pub order : made.recent ≡ numbers (elements_of scene)

-- these elements have their styles at their places, and no others
abbrev pub AreKept : {A : Type 0} → Scene → List ℕ → List (Option (Arc Style A)) → Type 0
AreKept scene front kept =
    (x : ℕ) → slot_at kept x ≡ (if is_in x front then Some (style_in scene x) else None)

-- where a number is kept of an element's style, it is the one of this style in the table
abbrev pub IsRight : List Style → List ℕ → ℕ → Style → Type 0
IsRight table known x own = (n : ℕ) → slice_get known x ≡ Some n → n < unknown → slice_get table n ≡ Some own

-- there is a place for the element
pub record HasPlace (walk : FirstWalk) (x : ℕ) : Type 0 where
  pub kept : x < length walk.kept.items
  pub known : x < length walk.known.items

-- its style is there
pub record HasPlaceKept (walk : FirstWalk) (x : ℕ) : Type 0 where
  pub place : HasPlace walk x
  pub kept : IsSome (slot_at walk.kept.items x)

-- There are places for all elements, and the numbers that are kept are right. What is known is for the root's font
-- size.
pub record IsFirstWalk (scene : Scene) (cache : StyleCache) (walk : FirstWalk) : Type 0 where
  pub places : HasRoom (elements_of scene) (length walk.kept.items)
  pub room : HasRoom (elements_of scene) (length walk.known.items)
  pub known : (x : ℕ) → IsRight cache.styler.table walk.known.items x (style_in scene x)
  pub size : cache.size ≡ root_size_in scene

-- it has met these elements
pub record IsFirstWalkTo (scene : Scene) (front : List ℕ) (cache : StyleCache) (now : FirstWalk) : Type 0 where
  pub walk : IsFirstWalk scene cache now
  pub kept : AreKept scene front now.kept.items

-- it has met one more
pub record GoesOnFirst (scene : Scene) (x : ℕ) (old : FirstWalk) (cache : StyleCache) (now : FirstWalk) : Type 0 where
  pub walk : IsFirstWalk scene cache now
  pub kept : (front : List ℕ) → AreKept scene front old.kept.items
      → AreKept scene (front ++ x ∷ []) now.kept.items

-- an element below one that was met
pub record IsNextFirst (inputs : Inputs) (x : ℕ) (cache : StyleCache) (now : FirstWalk) : Type 0 where
  pub sound : IsSound inputs.doc.now
  pub there : IsElement inputs.doc.now.elements x
  pub child : IsSome (parent_of inputs.doc.now.elements x)
  pub walk : IsFirstWalk (scene_lent inputs) cache now
  pub parent : (p : ℕ) → parent_of inputs.doc.now.elements x ≡ Some p
      → slot_at now.kept.items p ≡ Some (style_in (scene_lent inputs) p)

-- the style of one element more is at its place
pub record Keeps (x style : ℕ) (own : Style) (old now : FirstWalk) : Type 0 where
  pub places : length now.kept.items ≡ length old.kept.items
  pub kept : (y : ℕ) → slot_at now.kept.items y ≡ (if x == y then Some own else slot_at old.kept.items y)
  pub known : now.known.items ≡ slice_set old.known.items x (place_of style)

-- there are places for all elements, without styles, and nothing is known yet
pub record IsBareFirst (doc : List Element) (walk : FirstWalk) : Type 0 where
  pub places : HasRoom doc (length walk.kept.items)
  pub empty : (x : ℕ) → slot_at walk.kept.items x ≡ None
  pub room : HasRoom doc (length walk.known.items)
  pub known : (x n : ℕ) → slice_get walk.known.items x ≡ Some n → n ≡ unknown

-- the same of a document that is sound, before its root
pub record IsBareAtFirst (document : Document) (x : ℕ) (walk : FirstWalk) : Type 0 where
  pub root : IsRoot document x
  pub bare : IsBareFirst document.elements walk

-- the styles that it has found, and the elements in their order
abbrev pub finished : FirstWalk → List ℕ → KeptView
finished walk order = record { styles = map (option_map arc_value) walk.kept.items; recent = order }
