use Rattle.std.proofs.Common.{ap, ◌∙◌}
use Rattle.std.proofs.lemmas.Result.{IfOk-weaker}
use Rattle.scene_model.specs.Document.{document_of}
use Rattle.session_model.specs.Standing.{started}
use Rattle.style_session.proofs.SessionStarts.{scene-started}
use Rattle.style_cli.proofs.beginning.session_of.Goals as goal

pub returns-clause-session : goal.returns-clause-session
returns-clause-session c =
    let scene = scene-started c.in_ok-doc.doc c.in_ok-rules.rules (document_of c.args.nodes) c.args.sheets c.in_ok-doc.ensures c.in_ok-rules.ensures in
    IfOk-weaker c.of_parts.result _ _ (λ session e. e ∙ ap started scene) c.of_parts.ensures.started
