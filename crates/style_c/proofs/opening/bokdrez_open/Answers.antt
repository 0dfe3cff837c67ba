use Rattle.std.proofs.Common.{inr, sym, ap, ◌∙◌, subst}
use Rattle.std.specs.Prelude.{Some}
use Rattle.session_model.specs.Standing.{started}
use Rattle.style_session.specs.SessionView.{scene_from}
use Rattle.style_c.specs.Told.{IsTold, quiet}
use Rattle.style_c.proofs.ToldLemmas.{gives, not_read, opened_is}
use Rattle.style_c.proofs.opening.bokdrez_open.Goals as goal

pub returns-then-job-gt-INPUT_LIMIT : goal.returns-then-job-gt-INPUT_LIMIT
returns-then-job-gt-INPUT_LIMIT c =
    let old = c.args.session.now.session in
    gives _ _ old old _ _ _ _ (not_read c.args.job.now old _ c.if-job-gt-INPUT_LIMIT.true) (c.tell_fault.ensures old)

pub returns-in-Ok-boxed_session : goal.returns-in-Ok-boxed_session
returns-in-Ok-boxed_session c =
    let old = c.args.session.now.session in
    let new = started (scene_from c.in-Ok.job.nodes c.in-Ok.job.sheets) in
    let put = c.put.ensures ∙ ap Some c.in-Ok-boxed_session.ensures in
    gives _ _ old _ _ _ c.args.path.now 0 (opened_is c.args.job.now old c.in-Ok.job c.if-job-gt-INPUT_LIMIT.false c.in-Ok.ensures.ok)
    (subst (λ s. IsTold (quiet 0 (Some new)) c.tell.result c.tell.new.why c.args.path.now 0 s) (sym put) (c.tell.ensures (Some new) c.args.path.now))

pub returns : goal.returns
returns c = inr (c.tell-in-Err-boxed_session.ensures c.args.session.now.session c.args.path.now)
