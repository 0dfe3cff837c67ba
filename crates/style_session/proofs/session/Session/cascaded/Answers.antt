use Rattle.std.proofs.Common.{ap, ◌∙◌}
use Rattle.session_model.specs.Standing.{Standing}
use Rattle.style_session.proofs.session.Session.cascaded.Goals as goal

pub returns-clause-list : goal.returns-clause-list
returns-clause-list c = c.recent.ensures ∙ ap (λ (st : Standing). st.recent) c.self.view_is
