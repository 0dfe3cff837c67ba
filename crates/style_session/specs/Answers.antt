-- What a session answers.
use Rattle.std.specs.Prelude.{◌≡◌, ℕ, true, false}
use Rattle.std.specs.Arc.{arc_value}
use Rattle.scene_model.specs.Lookups.{is_element}
use Rattle.scene_model.specs.Scene.{Scene, elements_of}
use Rattle.stylo_base.specs.declared.refusal.EditRefused.{EditRefused}
use Rattle.stylo_base.specs.declared.refusal.EditRefused.TheVariants.{NoMemory}
use Rattle.edit_model.specs.Edit.{Edit}
use Rattle.edit_model.specs.Refusal.{Outcome, refused, accepted}
use Rattle.dom_edits.specs.EditView.{refusal_answered}
use Rattle.session_model.specs.Standing.{Standing, cascaded_count, is_open, matched_count, scene_applied, style_in}
use Rattle.session_model.specs.Walk as walk
use Rattle.style_session.specs.declared.session.StyleAnswer.{StyleAnswer}
use Rattle.style_session.specs.declared.session.StyleAnswer.TheVariants.{Kept, Stale, NoNode}
use Rattle.style_session.specs.declared.counts.Counts.{Counts}
use Rattle.style_session.specs.declared.styled.Styled.{Styled}

-- the answer for a number: none off the document; stale exactly where the element is open; else the style that it has
abbrev pub IsAnswer : Standing → ℕ → StyleAnswer → Type 0
IsAnswer st n (Kept style) =
    (is_element (elements_of st.scene) n ≡ true) × ((is_open st n ≡ false) × (style.now ≡ style_in st.scene n))
IsAnswer st n Stale = (is_element (elements_of st.scene) n ≡ true) × (is_open st n ≡ true)
IsAnswer st n NoNode = is_element (elements_of st.scene) n ≡ false

-- how many elements a restyle matches, and how many it cascades
abbrev pub counts_of : Standing → Counts
counts_of st = record { matched = matched_count st; cascaded = cascaded_count st }

-- an element that a restyle cascaded, with its new style
abbrev pub styled_seen : Styled → walk.Styled
styled_seen one = record { number = one.number; style = arc_value one.style; matched = one.matched }

-- the error of an edit: its refusal, and where there is none, that memory ran out
abbrev pub error_of : Outcome Scene → EditRefused
error_of (refused why) = refusal_answered why
error_of (accepted scene) = NoMemory

abbrev pub refusal_of : Scene → Edit → EditRefused
refusal_of scene edit = error_of (scene_applied scene edit)
