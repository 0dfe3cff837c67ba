use Rattle.std.proofs.Common.{◌≡◌, None, Some, false, sym, ◌∙◌}
use Rattle.scene_model.specs.Lookups.{parent_of}
use Rattle.style_session.specs.PendingView.{is_pending_in}
use Rattle.style_session.proofs.SessionParts.{passed-top, passed-up}
use Rattle.style_session.proofs.pending.Pending.contains_up.Goals as goal

pub returns-in-None : goal.returns-in-None
returns-in-None c =
    let top : parent_of c.args.doc.now.elements c.loop-at.at ≡ None = sym c.in-None.ensures.parent in
    let free : is_pending_in c.args.self.now c.loop-at.at ≡ false = cc in
    sym (c.loop-at.invariant.same ∙ passed-top c.args.doc.now.elements c.parent.ensures.valid (is_pending_in c.args.self.now) c.loop-at.at top free)

pub loop-at-preserved : goal.loop-at-preserved
loop-at-preserved c =
    let hangs : parent_of c.args.doc.now.elements c.loop-at.at ≡ Some c.in-Some.parent = sym c.in-Some.ensures.parent in
    let free : is_pending_in c.args.self.now c.loop-at.at ≡ false = cc in
    record {
      there = (c.parent.ensures.valid.parents c.loop-at.at c.in-Some.parent hangs).0;
      same = c.loop-at.invariant.same
          ∙ passed-up c.args.doc.now.elements c.parent.ensures.valid (is_pending_in c.args.self.now) c.loop-at.at c.in-Some.parent hangs free;
    }
