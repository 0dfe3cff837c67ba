use Rattle.std.proofs.Common.{◌≡◌, ◌<◌, ℕ, List, length, not, sym, ap, subst, ◌∙◌}
use Rattle.std.proofs.lemmas.Option.{same_Some}
use Rattle.std.proofs.lemmas.Result.{on_ok_weaker}
use Rattle.scene_model.specs.Lookups.{children}
use Rattle.invalidation_map.specs.Members.{AreBelow}
use Rattle.session_model.specs.Standing.{is_style}
use Rattle.style_session.specs.KeptView.{style_at}
use Rattle.style_session.specs.Walking.{Widens}
use Rattle.style_session.proofs.WalkLemmas.{children-below}
use Rattle.style_session.proofs.walk.Walk.meet.Goals as goal

pub cascade_later-requires : goal.cascade_later-requires
cascade_later-requires c =
    let doc = c.args.lists.now.inputs.now.doc.now.elements in
    subst (λ (xs : List ℕ). AreBelow c.args.self.now.due.room xs) (sym c.children.ensures.children)
    (children-below doc c.args.self.now.due.room c.args.number c.children.ensures.valid c.requires.place.due)

pub learn-requires : goal.learn-requires
learn-requires c =
    subst (λ n. c.args.number < n) (sym (ap (λ v. length v.items) c.cascade_later.ensures.known)) c.requires.place.known

pub returns : goal.returns
returns c own at =
    let doc = c.args.lists.now.inputs.now.doc.now.elements in
    let slot = style_at c.args.lists.now.kept.now c.args.number in
    let was = c.args.self.now in
    let mid = c.cascade_later.new.self in
    let is : c.deref.result.now ≡ own = c.deref.ensures ∙ same_Some _ _ (sym c.style.ensures ∙ at) in
    let told : c.is_other_style-differs.result ≡ not (is_style own slot) = c.is_other_style-differs.ensures ∙ ap (λ s. not (is_style s slot)) is in
    on_ok_weaker c.learn.result (λ learns. record {
      mid = mid;
      widens = subst (λ b. Widens (children doc c.args.number) b was mid) told
          (subst (λ (xs : List ℕ). Widens xs c.is_other_style-differs.result was mid) c.children.ensures.children c.cascade_later.ensures);
      learns = learns;
    }) c.learn.ensures
