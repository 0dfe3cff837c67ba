use Rattle.std.proofs.Common.{sym, subst}
use Rattle.session_model.specs.StandingInvariant.{IsReached, at_start}
use Rattle.style_session.specs.SessionView.{scene_seen}
use Rattle.style_session.specs.declared.content.Content.{Content}
use Rattle.style_session.proofs.SessionStarts.{session-started, started-seen}
use Rattle.style_session.proofs.session.Session.of_parts.Goals as goal

pub invariant_of-result : goal.invariant_of-result
invariant_of-result c =
    let content : Content = record { doc = c.args.doc; sheets = c.args.sheets } in
    session-started content c.start-2.result c.start-3.result c.start-2.ensures c.start-3.ensures c.in_ok-derived.derived c.in_tree_order.ensures.sound c.in_ok-derived.ensures

pub returns-clause-started : goal.returns-clause-started
returns-clause-started c =
    let content : Content = record { doc = c.args.doc; sheets = c.args.sheets } in
    started-seen content c.start-2.result c.start-3.result c.start-2.ensures c.start-3.ensures

pub returns-clause-reached : goal.returns-clause-reached
returns-clause-reached c =
    subst IsReached (sym (returns-clause-started c)) (at_start (scene_seen c.args.doc c.args.sheets) c.in_tree_order.ensures.sound)
