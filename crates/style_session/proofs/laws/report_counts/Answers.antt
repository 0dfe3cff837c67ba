use Rattle.std.proofs.Common.{sym}
use Rattle.session_model.proofs.InvariantLemmas.{sound-reached, keeps-reached}
use Rattle.session_model.proofs.WalkLemmas.{length-results, matched-results}
use Rattle.style_session.proofs.laws.report_counts.Goals as goal

pub returns-clause-cascaded : goal.returns-clause-cascaded
returns-clause-cascaded c = λ st reached.
    sym (length-results st (sound-reached st reached).valid (keeps-reached st reached))

pub returns-clause-matched : goal.returns-clause-matched
returns-clause-matched c = λ st reached.
    sym (matched-results st (sound-reached st reached).valid (keeps-reached st reached))
