-- What a walk in tree order has found out.
use Rattle.std.specs.Prelude.{◌≡◌, ℕ, ◌<◌, ◌==◌, List, [], ◌∷◌, ◌++◌, filter, length, map, Bool, true, ◌&&◌, ◌||◌, not, if◌then◌else◌, Option, IsSome, Some, None, slice_get, slice_index_or}
use Rattle.scene_model.specs.Element.{Element}
use Rattle.scene_model.specs.Lookups.{IsElement, children, parent_of}
use Rattle.scene_model.specs.Numbers.{is_in}
use Rattle.scene_model.specs.Scene.{elements_of}
use Rattle.cascade_model.specs.StyleOf.{root_of}
use Rattle.invalidation_map.specs.Members.{Members}
use Rattle.invalidation_map.specs.Steps.{HasRoom}
use Rattle.session_model.specs.Standing.{Standing, is_cascaded, is_matched, is_style, kept_at, root_size_differs, root_size_in, style_in}
use Rattle.session_model.specs.Walk as model
use Rattle.style_session.specs.Answers.{styled_seen}
use Rattle.style_session.specs.FirstWalking.{unknown}
use Rattle.style_session.specs.Laws.{styled_now}
use Rattle.style_session.specs.declared.derived.StyleCache.{StyleCache}
use Rattle.style_session.specs.declared.walk.Walk.{Walk}

-- a number that is kept of a style, if it is one
abbrev pub some_style : ℕ → Option ℕ
some_style n = if n == unknown then None else Some n

-- the number of the new style of an element, if it is known
abbrev pub known_at : List ℕ → ℕ → Option ℕ
known_at known x = some_style (slice_index_or known x unknown)

-- An element that was met: where nothing is known of it, its kept style is the one that it has, and where that is
-- another than the kept one, its children are known to be cascaded.
pub record IsMet (st : Standing) (walk : Walk) (x : ℕ) : Type 0 where
  pub there : IsElement (elements_of st.scene) x
  pub style : known_at walk.known.items x ≡ None → kept_at st x ≡ Some (style_in st.scene x)
  pub below : (y : ℕ) → parent_of (elements_of st.scene) y ≡ Some x
      → not (is_style (style_in st.scene x) (kept_at st x)) ≡ true → is_in y walk.due.items ≡ true

-- so is its parent
abbrev pub IsParentMet : Standing → Walk → ℕ → Type 0
IsParentMet st walk x = (p : ℕ) → parent_of (elements_of st.scene) x ≡ Some p → IsMet st walk p

-- What is known is right, of styles and of what is cascaded, for the root's font size.
pub record IsWalk (st : Standing) (cache : StyleCache) (walk : Walk) : Type 0 where
  pub room : HasRoom (elements_of st.scene) (length walk.known.items)
  pub due_room : HasRoom (elements_of st.scene) walk.due.room
  pub known : (x style : ℕ) → known_at walk.known.items x ≡ Some style
      → slice_get cache.styler.table style ≡ Some (style_in st.scene x)
  pub due : (x : ℕ) → IsElement (elements_of st.scene) x → is_in x walk.due.items ≡ true → is_cascaded st x ≡ true
  pub all : (x : ℕ) → IsElement (elements_of st.scene) x → (is_matched st x || root_size_differs st) ≡ true
      → is_in x walk.due.items ≡ true
  pub size : cache.size ≡ root_size_in st.scene

-- these elements were met, and those of them that are cascaded were handed on
pub record HasMet (st : Standing) (front : List ℕ) (walk : Walk) : Type 0 where
  pub met : (x : ℕ) → is_in x front ≡ true → IsMet st walk x
  pub styled : map styled_seen walk.styled.items ≡ map (styled_now st) (filter (is_cascaded st) front)

-- a walk that has met these elements
pub record IsWalkTo (st : Standing) (front : List ℕ) (cache : StyleCache) (now : Walk) : Type 0 where
  pub walk : IsWalk st cache now
  pub met : HasMet st front now

-- it has met one more
pub record GoesOn (st : Standing) (x : ℕ) (old : Walk) (cache : StyleCache) (now : Walk) : Type 0 where
  pub walk : IsWalk st cache now
  pub met : (front : List ℕ) → HasMet st front old → HasMet st (front ++ x ∷ []) now

-- an element that is cascaded, below one that was met
pub record IsNext (st : Standing) (x : ℕ) (walk : Walk) : Type 0 where
  pub there : IsElement (elements_of st.scene) x
  pub child : IsSome (parent_of (elements_of st.scene) x)
  pub cascaded : is_cascaded st x ≡ true
  pub parent : IsParentMet st walk x

-- the number of the new style of an element that was met; what was met still is
pub record IsStyleOf (st : Standing) (x style : ℕ) (old : Walk) (cache : StyleCache) (now : Walk) : Type 0 where
  pub at : slice_get cache.styler.table style ≡ Some (style_in st.scene x)
  pub walk : IsWalk st cache now
  pub met : (front : List ℕ) → HasMet st front old → HasMet st front now

-- there is a place for the element, and room for all
pub record HasPlaceOf (st : Standing) (x : ℕ) (walk : Walk) : Type 0 where
  pub there : IsElement (elements_of st.scene) x
  pub due : HasRoom (elements_of st.scene) walk.due.room
  pub known : x < length walk.known.items

-- those numbers of a list that are elements were added
pub record AddsElements (doc : List Element) (numbers : List ℕ) (old new : Members) : Type 0 where
  pub room : new.room ≡ old.room
  pub each : (x : ℕ) → IsElement doc x → is_in x new.items ≡ (is_in x old.items || is_in x numbers)

-- the style of one element more is known
pub record Learns (x style : ℕ) (old now : Walk) : Type 0 where
  pub room : length now.known.items ≡ length old.known.items
  pub known : (y : ℕ) → known_at now.known.items y
      ≡ (if x == y then Some style else known_at old.known.items y)
  pub due : now.due ≡ old.due
  pub styled : now.styled ≡ old.styled

-- of these it is known, if something differs, that they are cascaded
pub record Widens (numbers : List ℕ) (differs : Bool) (old now : Walk) : Type 0 where
  pub room : now.due.room ≡ old.due.room
  pub due : (y : ℕ) → is_in y now.due.items ≡ (is_in y old.due.items || (differs && is_in y numbers))
  pub known : now.known ≡ old.known
  pub styled : now.styled ≡ old.styled

-- an element was met, with its style and whether that is another than the kept one
pub record Meets (doc : List Element) (x style : ℕ) (differs : Bool) (old now : Walk) : Type 0 where
  pub mid : Walk
  pub widens : Widens (children doc x) differs old mid
  pub learns : Learns x style mid now

-- this is handed on behind what was
pub record HandsOn (one : model.Styled) (old now : Walk) : Type 0 where
  pub styled : map styled_seen now.styled.items ≡ map styled_seen old.styled.items ++ one ∷ []
  pub known : now.known ≡ old.known
  pub due : now.due ≡ old.due

-- no style is known yet, and of the elements only that the matched ones are cascaded; there is room for each, and none
-- was handed on
pub record IsBare (st : Standing) (walk : Walk) : Type 0 where
  pub room : HasRoom (elements_of st.scene) (length walk.known.items)
  pub due_room : HasRoom (elements_of st.scene) walk.due.room
  pub known : (x : ℕ) → known_at walk.known.items x ≡ None
  pub due : (x : ℕ) → IsElement (elements_of st.scene) x → is_in x walk.due.items ≡ is_matched st x
  pub styled : walk.styled.items ≡ []

-- the same, before the root
pub record IsBareAt (st : Standing) (x : ℕ) (walk : Walk) : Type 0 where
  pub root : root_of (elements_of st.scene) ≡ Some x
  pub bare : IsBare st walk
