use Rattle.std.proofs.Common.{ap, refl, sym, subst, ◌∙◌}
use Rattle.edit_model.specs.Apply.{after}
use Rattle.dom_edits.specs.PlannedView.{planned_seen}
use Rattle.dom_edits.proofs.ShapeLemmas.{is-shaped}
use Rattle.style_session.specs.Edits.{TakesOut}
use Rattle.style_session.specs.PendingView.{PendingMembers}
use Rattle.style_session.proofs.ListEdits.{gone-kept, gone-taken, taken-there}
use Rattle.style_session.proofs.SessionParts.{pending_of}
use Rattle.style_session.proofs.pending.Pending.take_out.Goals as goal

pub add_gone_below-requires-clause-element : goal.add_gone_below-requires-clause-element
add_gone_below-requires-clause-element c =
    taken-there c.args.doc.now c.requires.fits.sound (planned_seen c.args.planned.now) c.requires.fits.accepted c.in-Some.x (sym c.taken.ensures ∙ c.in-Some.is)

pub returns-in-Some : goal.returns-in-Some
returns-in-Some c =
    let d = c.args.doc.now in
    let edit = planned_seen c.args.planned.now in
    let all = c.self.inside.all_fresh in
    subst (λ (p : PendingMembers). TakesOut d (after d edit) p (pending_of all c.add_gone_below.new.self)) c.self.view_is
    (record {
      gone = gone-taken d c.requires.fits.sound edit c.requires.fits.accepted c.in-Some.x (sym c.taken.ensures ∙ c.in-Some.is) c.self.inside.sets.gone
          c.add_gone_below.new.self.gone c.add_gone_below.ensures.grown.each;
      others = ap (pending_of all) c.add_gone_below.ensures.others;
    })

pub returns-in_default : goal.returns-in_default
returns-in_default c = record {
  gone = gone-kept c.args.doc.now c.requires.fits.sound (planned_seen c.args.planned.now) (is-shaped (planned_seen c.args.planned.now) c.args.planned.now.shaped)
      c.requires.fits.accepted (sym c.taken.ensures ∙ c.in_default.is) c.args.self.now.gone;
  others = refl;
}
