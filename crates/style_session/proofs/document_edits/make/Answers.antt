use Rattle.std.proofs.Common.{◌≡◌, ◌≤◌, ◌||◌, ℕ, List, Option, IfSome, nat_lt, false, arith, sym, ap, subst, ◌∙◌}
use Rattle.std.specs.Option.{option_map_or}
use Rattle.scene_model.specs.Document.{Document}
use Rattle.scene_model.specs.Lookups.{IsElement}
use Rattle.change_model.specs.Sound.{is_below}
use Rattle.edit_model.specs.Apply.{after}
use Rattle.dom_edits.specs.Plans.{element_moved}
use Rattle.dom_edits.specs.PlannedView.{planned_seen}
use Rattle.dom_edits.proofs.ShapeLemmas.{is-shaped}
use Rattle.invalidation_map.specs.RowView.{rows_in}
use Rattle.invalidation_map.specs.Steps.{HasRoom}
use Rattle.style_session.specs.Edits.{AreFreshToo, AreGoneToo}
use Rattle.style_session.specs.PendingView.{PendingMembers, is_fresh_in, marks_in}
use Rattle.style_session.proofs.ListEdits.{accepted_is, fresh-after, freshens, moved-there, room-after, room-before}
use Rattle.style_session.proofs.SessionEdits.{adds-marks}
use Rattle.style_session.proofs.document_edits.make.Goals as goal

pub take_out-requires-clause-room : goal.take_out-requires-clause-room
take_out-requires-clause-room c =
    let fits = c.requires.fits in
    let edit = planned_seen c.args.planned in
    room-before c.args.doc.now fits.sound edit (is-shaped edit c.args.planned.shaped) fits.accepted c.reserve.new.self.room
    (omega (arith, c.in_ok-reserve.ensures.room, c.requires.tells.last))

pub freshen-requires-clause-there : goal.freshen-requires-clause-there
freshen-requires-clause-there c =
    let fits = c.requires.fits in
    let edit = planned_seen c.args.planned in
    let (none, same) = accepted_is c.args.doc.now c.commit.new.doc edit c.in_ok-touched.ensures.ok in
    subst (λ (o : Option ℕ). IfSome o (IsElement c.commit.new.doc.elements)) (sym (c.moved-moved.ensures ∙ c.requires.tells.moved))
    (subst (λ (e : Document). IfSome (element_moved c.args.doc.now edit) (IsElement e.elements)) same (moved-there c.args.doc.now fits.sound edit none))

pub freshen-requires-clause-room : goal.freshen-requires-clause-room
freshen-requires-clause-room c =
    let fits = c.requires.fits in
    let edit = planned_seen c.args.planned in
    let (none, same) = accepted_is c.args.doc.now c.commit.new.doc edit c.in_ok-touched.ensures.ok in
    let taken = ap (λ (p : PendingMembers). p.room) c.take_out.ensures.others in
    subst (λ (e : Document). HasRoom e.elements c.take_out.new.self.room) same
    (room-after c.args.doc.now fits.sound edit (is-shaped edit c.args.planned.shaped) none c.take_out.new.self.room
    (omega (arith, c.in_ok-reserve.ensures.room, taken, c.requires.tells.last)))

pub mark-requires-clause-room : goal.mark-requires-clause-room
mark-requires-clause-room c =
    let fits = c.requires.fits in
    let edit = planned_seen c.args.planned in
    let (none, same) = accepted_is c.args.doc.now c.commit.new.doc edit c.in_ok-touched.ensures.ok in
    let taken = ap (λ (p : PendingMembers). p.room) c.take_out.ensures.others in
    let freshened = ap (λ (p : PendingMembers). p.room) c.freshen.ensures.others in
    subst (λ (e : Document). HasRoom e.elements c.freshen.new.self.room) same
    (room-after c.args.doc.now fits.sound edit (is-shaped edit c.args.planned.shaped) none c.freshen.new.self.room
    (omega (arith, c.in_ok-reserve.ensures.room, taken, freshened, c.requires.tells.last)))

pub returns-clause-ok : goal.returns-clause-ok
returns-clause-ok c =
    let fits = c.requires.fits in
    let tells = c.requires.tells in
    let d = c.args.doc.now in
    let edit = planned_seen c.args.planned in
    let w = is-shaped edit c.args.planned.shaped in
    let was : PendingMembers = c.args.pending.now in
    let wide = c.in_ok-reserve.ensures.others in
    let out = c.take_out.ensures.others in
    let fresh = c.freshen.ensures.others in
    let marked = c.mark.ensures.others in
    let (none, same) = accepted_is d c.commit.new.doc edit c.in_ok-touched.ensures.ok in
    let fresh_was : is_fresh_in c.take_out.new.self ≡ is_fresh_in was = ap is_fresh_in out ∙ ap is_fresh_in wide in
    let moved = c.moved-moved.ensures ∙ tells.moved in
    let grown : (x : ℕ) → x ≤ (after d edit).last → is_fresh_in c.mark.new.self x ≡ (is_fresh_in was x || freshens d fits.sound edit x) = λ x l.
    ap (λ (p : PendingMembers). is_fresh_in p x) marked
    ∙ (c.freshen.ensures.each x (omega (arith, l, c.last-last.ensures, tells.last))
    ∙ (λ i. fresh_was i x || (nat_lt (c.last-before.ensures.last i) x || option_map_or (λ top. is_below (sym same i).elements top x) (moved i) false))) in
    let marks_same = ap (λ (p : PendingMembers). p.marked) fresh ∙ (ap (λ (p : PendingMembers). p.marked) out ∙ ap (λ (p : PendingMembers). p.marked) wide) in
    let gone_now = ap (λ (p : PendingMembers). p.gone) marked ∙ ap (λ (p : PendingMembers). p.gone) fresh in
    record {
      accepts = c.in_ok-touched.ensures.ok;
      marked = adds-marks d c.commit.new.doc edit c.in_ok-touched.touched (rows_in c.args.map.now) was.marked (marks_in c.freshen.new.self) (marks_in c.mark.new.self)
          fits.sound w c.in_ok-touched.ensures.ok c.in_ok-touched.ensures.touched marks_same c.mark.ensures.marked;
      fresh = subst (λ (e : Document). AreFreshToo d e edit was c.mark.new.self) same (fresh-after d fits.sound edit w none was c.mark.new.self grown);
      gone = subst (λ (e : Document). AreGoneToo d e was.gone c.mark.new.self.gone) same
          (subst (λ (l : List ℕ). AreGoneToo d (after d edit) was.gone l) (sym gone_now)
          (subst (λ (l : List ℕ). AreGoneToo d (after d edit) l c.take_out.new.self.gone) (ap (λ (p : PendingMembers). p.gone) wide) c.take_out.ensures.gone));
    }
