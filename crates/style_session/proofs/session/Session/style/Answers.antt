use Rattle.std.proofs.Common.{◌≡◌, Some, true, false, option_map, sym, ap, subst, ◌∙◌}
use Rattle.std.specs.Arc.{arc_value}
use Rattle.std.proofs.lemmas.Option.{same_Some, none-some}
use Rattle.scene_model.specs.Lookups.{IsElement, is_element}
use Rattle.scene_model.specs.Scene.{elements_of}
use Rattle.session_model.specs.Standing.{Standing, is_open, style_in}
use Rattle.style_session.specs.KeptView.{style_at}
use Rattle.style_session.specs.PendingView.{is_fresh_in}
use Rattle.style_session.specs.SessionView.{scene_seen, standing_seen}
use Rattle.style_session.proofs.SessionLemmas.{kept-with, open-with}
use Rattle.style_session.proofs.session.Session.style.Goals as goal

pub returns-then-is_open : goal.returns-then-is_open
returns-then-is_open c =
    let self = c.self.inside in
    let there : IsElement self.content.doc.elements c.args.n = cc in
    subst (λ (st : Standing). (is_element (elements_of st.scene) c.args.n ≡ true) × (is_open st c.args.n ≡ true)) c.self.view_is (
      there,
      open-with (scene_seen self.content.doc self.content.sheets) self.pending.marked (is_fresh_in self.pending) (style_at self.kept) self.kept.recent
          c.self.invariant.sound.valid c.args.n there
          ∙ (sym c.is_open.ensures ∙ c.if-is_open.true),
    )

-- what is not open keeps its style at its place

pub returns-in-Some : goal.returns-in-Some
returns-in-Some c =
    let self = c.self.inside in
    let scene = scene_seen self.content.doc self.content.sheets in
    let there : IsElement self.content.doc.elements c.args.n = cc in
    let closed : is_open (standing_seen self.content.doc self.content.sheets self.pending self.kept) c.args.n ≡ false =
    open-with scene self.pending.marked (is_fresh_in self.pending) (style_at self.kept) self.kept.recent c.self.invariant.sound.valid c.args.n there
    ∙ (sym c.is_open.ensures ∙ c.if-is_open.false) in
    let kept = kept-with scene self.pending.marked (is_fresh_in self.pending) (style_at self.kept) self.kept.recent c.self.invariant.sound c.self.invariant.keeps c.args.n there closed in
    let same : Some (arc_value c.in-Some.style.now) ≡ Some (style_in scene c.args.n) =
    sym (ap (option_map (λ style. arc_value style.now)) c.in-Some.is) ∙ (c.style.ensures ∙ kept) in
    subst (λ (st : Standing). (is_element (elements_of st.scene) c.args.n ≡ true) × ((is_open st c.args.n ≡ false) × (c.deref.result.now ≡ style_in st.scene c.args.n))) c.self.view_is
    (there, (closed, c.deref.ensures ∙ same_Some _ _ same))

pub returns-in-None : goal.returns-in-None
returns-in-None c =
    let self = c.self.inside in
    let scene = scene_seen self.content.doc self.content.sheets in
    let there : IsElement self.content.doc.elements c.args.n = cc in
    let closed : is_open (standing_seen self.content.doc self.content.sheets self.pending self.kept) c.args.n ≡ false =
    open-with scene self.pending.marked (is_fresh_in self.pending) (style_at self.kept) self.kept.recent c.self.invariant.sound.valid c.args.n there
    ∙ (sym c.is_open.ensures ∙ c.if-is_open.false) in
    let kept = kept-with scene self.pending.marked (is_fresh_in self.pending) (style_at self.kept) self.kept.recent c.self.invariant.sound c.self.invariant.keeps c.args.n there closed in
    absurd (none-some (style_in scene c.args.n) (sym (ap (option_map (λ style. arc_value style.now)) c.in-None.is) ∙ (c.style.ensures ∙ kept)))
