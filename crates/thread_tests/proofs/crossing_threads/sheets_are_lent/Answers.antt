use denote.Param.Send.{sendable}
use Rattle.std.proofs.Crossing.{crosses}
use Rattle.style_session.proofs.Crossing.{kept_send, kept_sync, layers_send, layers_sync, rule_send, rule_sync, selector_send, selector_sync}
use Rattle.thread_tests.proofs.crossing_threads.sheets_are_lent.Goals as goal

pub may_be_lent-requires-send-T : goal.may_be_lent-requires-send-T
may_be_lent-requires-send-T c κs = search (kept_send, rule_send, layers_send, selector_send, sendable, crosses) depth 40 fits 20000

pub may_be_lent-requires-sync-T : goal.may_be_lent-requires-sync-T
may_be_lent-requires-sync-T c κs = search (kept_sync, rule_sync, layers_sync, selector_sync, sendable, crosses) depth 40 fits 20000
