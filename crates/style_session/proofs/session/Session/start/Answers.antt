use Rattle.std.proofs.Common.{ap, ◌∙◌}
use Rattle.std.proofs.lemmas.Result.{IfOk-weaker}
use Rattle.scene_model.specs.Document.{document_of}
use Rattle.session_model.specs.Standing.{started}
use Rattle.style_session.proofs.SessionStarts.{scene-started}
use Rattle.style_session.proofs.session.Session.start.Goals as goal

pub returns-clause-started : goal.returns-clause-started
returns-clause-started c =
    let scene = scene-started c.in_ok-doc.doc c.in_ok-sheets.sheets (document_of c.args.nodes.now) c.args.sheets.now c.in_ok-doc.ensures c.in_ok-sheets.ensures in
    IfOk-weaker c.of_parts.result _ _ (λ session e. e ∙ ap started scene) c.of_parts.ensures.started
