use Rattle.std.proofs.Common.{ap, subst}
use Rattle.invalidation_map.specs.RowView.{rows_in}
use Rattle.style_session.specs.PendingView.{MarksTouched, PendingMembers}
use Rattle.style_session.proofs.SessionParts.{pending_of}
use Rattle.style_session.proofs.pending.Pending.mark.Goals as goal

pub returns : goal.returns
returns c =
    let all = c.self.inside.all_fresh in
    subst (λ (p : PendingMembers). MarksTouched c.args.doc.now.elements c.args.touched.now (rows_in c.args.map.now) p (pending_of all c.mark.new.self)) c.self.view_is
    (record { marked = c.mark.ensures.marked; others = ap (pending_of all) c.mark.ensures.others })
