-- A standing in which nothing is marked or fresh.
use Rattle.std.proofs.Common.{◌≡◌, ℕ, [], ◌||◌, ◌⊎◌, inl, inr, true, false, Some, sym, ap, ◌∙◌, subst}
use Rattle.std.specs.List.{list_any}
use Rattle.scene_model.specs.Ancestors.{ancestors}
use Rattle.scene_model.specs.Lookups.{IsElement, is_element}
use Rattle.scene_model.specs.Numbers.{is_in}
use Rattle.scene_model.specs.Scene.{elements_of}
use Rattle.change_model.specs.Sound.{IsSound}
use Rattle.session_model.specs.Standing.{Standing, is_matched, is_open, kept_at, listed_at, style_in}
use Rattle.session_model.proofs.ListedLemmas.{listed-styles}
use Rattle.style_session.specs.Answers.{IsAnswer}
use Rattle.style_session.specs.declared.session.StyleAnswer.{StyleAnswer}
use Rattle.style_session.specs.declared.session.StyleAnswer.TheVariants.{NoNode, Stale}
use Rattle.style_session.proofs.SessionParts.{none-pass}
use Rattle.style_cli.specs.Printing.{IsSettled}

not_matched : (st : Standing) → IsSettled st → (x : ℕ) → is_matched st x ≡ false
not_matched st settled x =
    ap (λ l. is_in x l || is_in x st.fresh) settled.marked ∙ ap (λ l. is_in x [] || is_in x l) settled.fresh

pub not_open : (st : Standing) → IsSettled st → (x : ℕ) → is_open st x ≡ false
not_open st settled x =
    ap (λ b. b || list_any (is_matched st) (ancestors (elements_of st.scene) x)) (not_matched st settled x)
    ∙ none-pass (is_matched st) (not_matched st settled) (ancestors (elements_of st.scene) x)

-- each element keeps the style that it has
pub kept-settled : (st : Standing) → IsSettled st → IsSound st.scene.document → (x : ℕ) → IsElement (elements_of st.scene) x → kept_at st x ≡ Some (style_in st.scene x)
kept-settled st settled sound x there =
    ap (λ l. listed_at l x) settled.kept ∙ listed-styles st.scene sound x there

-- so it is told
pub told_style : (st : Standing) (n : ℕ) (answer : StyleAnswer) → IsElement (elements_of st.scene) n → IsSettled st → IsAnswer st n answer → (answer ≡ Stale) ⊎ (answer ≡ NoNode) → ⊥
told_style st n answer there settled is (inl stale) =
    let is_stale = subst (IsAnswer st n) stale is in
    let both : true ≡ false = sym is_stale.1 ∙ not_open st settled n in cc
told_style st n answer there settled is (inr none) =
    let is_none : is_element (elements_of st.scene) n ≡ false = subst (IsAnswer st n) none is in
    let both : true ≡ false = sym there ∙ is_none in cc
