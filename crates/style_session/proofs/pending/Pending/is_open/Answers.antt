use Rattle.std.proofs.Common.{◌∷◌, sym, ◌∙◌}
use Rattle.scene_model.specs.Ancestors.{ancestors}
use Rattle.style_session.specs.PendingView.{is_pending_in}
use Rattle.style_session.proofs.SessionParts.{none-pass, settled-none}
use Rattle.style_session.proofs.pending.Pending.is_open.Goals as goal

pub returns-then-is_settled : goal.returns-then-is_settled
returns-then-is_settled c =
    let pending = c.args.self.now in
    sym (none-pass (is_pending_in pending) (settled-none pending (sym c.is_settled.ensures ∙ c.if-is_settled.true)) (c.args.x ∷ ancestors c.args.doc.now.elements c.args.x))
