-- What holds of a session between its calls.
use Rattle.std.specs.Prelude.{◌≡◌, ℕ, false, Option, Some, None, option_and_then}
use Rattle.scene_model.specs.Lookups.{IsElement, parent_of}
use Rattle.scene_model.specs.Scene.{Scene, elements_of}
use Rattle.change_model.specs.Sound.{IsSound}
use Rattle.value_model.specs.Style.{Style, initial_style, font_size_of}
use Rattle.sheet_model.specs.Sources.{sources_of}
use Rattle.cascade_model.specs.StyleOf.{root_of, styled_over}
use Rattle.edit_model.specs.Edit.{Edit, IsShapedEdit}
use Rattle.session_model.specs.Calm.{IsCalm}
use Rattle.session_model.specs.Standing.{Standing, Change, style_in, kept_at, is_matched, started, restyled, edited}

-- the style that is kept of the parent, and all initial values at the root
abbrev pub kept_parent : Standing → Option ℕ → Option Style
kept_parent st None = Some initial_style
kept_parent st (Some p) = kept_at st p

-- the style over a parent's, with the font size of a root's
abbrev pub over_kept : Standing → Style → Style → ℕ → Style
over_kept st root parent x =
    styled_over (elements_of st.scene) (sources_of st.scene.sheets) (font_size_of root.values) parent x

-- Its kept style is the cascade of what applies to it now over
-- its parent's kept style and the kept root's font size.
pub record Keeps (st : Standing) (x : ℕ) : Type 0 where
  pub parent : Style
  pub root : Style
  pub of_parent : kept_parent st (parent_of (elements_of st.scene) x) ≡ Some parent
  pub of_root : option_and_then (kept_at st) (root_of (elements_of st.scene)) ≡ Some root
  pub own : kept_at st x ≡ Some (over_kept st root parent x)

-- each element that is neither marked nor fresh
abbrev pub AllKeep : Standing → Type 0
AllKeep st = (x : ℕ) → IsElement (elements_of st.scene) x → is_matched st x ≡ false → Keeps st x

-- an element that has stayed as it was from one scene to another
abbrev pub IsCalmFrom : Scene → Scene → ℕ → Type 0
IsCalmFrom before after x =
    IsCalm (elements_of before) (elements_of after) (sources_of before.sheets) (sources_of after.sheets) x

-- The invariant: since a scene what is neither marked nor fresh has stayed as it was, and it keeps its style.
pub record StandingInvariant (was : Scene) (st : Standing) : Type 0 where
  pub calm : (x : ℕ) → IsElement (elements_of st.scene) x → is_matched st x ≡ false → IsCalmFrom was st.scene x
  pub keeps : AllKeep st

-- an element that an edit neither makes fresh nor marks
pub record IsLeft (change : Change) (x : ℕ) : Type 0 where
  pub fresh : change.freshens x ≡ false
  pub marked : change.marks x ≡ false

-- What is known of an accepted edit: the root stays, and what is neither marked nor made fresh has stayed as it was.
pub record IsCovered (old : Scene) (change : Change) : Type 0 where
  pub root : root_of (elements_of old) ≡ root_of (elements_of change.after)
  pub calm : (x : ℕ) → IsElement (elements_of change.after) x → IsLeft change x → IsCalmFrom old change.after x

-- the standings that edits and restyles lead to
pub data IsReached : Standing → Type 0 where
  at_start : (scene : Scene) → IsSound scene.document → IsReached (started scene)
  by_edit : (st : Standing) (edit : Edit) → IsShapedEdit edit → IsReached st → IsReached (edited st edit)
  by_restyle : (st : Standing) → IsReached st → IsReached (restyled st)

-- the same, with the scene of the last restyle, or of the start where there was none
pub data IsSince : Scene → Standing → Type 0 where
  since_start : (scene : Scene) → IsSound scene.document → IsSince scene (started scene)
  since_edit :
      (was : Scene) (st : Standing) (edit : Edit) → IsShapedEdit edit → IsSince was st → IsSince was (edited st edit)
  since_restyle : (st : Standing) → IsReached st → IsSince st.scene (restyled st)

-- a style that is kept for a number is the one that its element has in the scene
abbrev pub IsStyleIn : Scene → ℕ × Style → Type 0
IsStyleIn scene e = e.1 ≡ style_in scene e.0
