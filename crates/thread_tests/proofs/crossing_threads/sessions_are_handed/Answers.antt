use denote.Param.Send.{sendable}
use Rattle.std.proofs.Crossing.{crosses}
use Rattle.style_session.proofs.Crossing.{session_send}
use Rattle.thread_tests.proofs.crossing_threads.sessions_are_handed.Goals as goal

pub may_be_handed-requires-send-T : goal.may_be_handed-requires-send-T
may_be_handed-requires-send-T c κs = search (session_send, sendable, crosses) depth 40 fits 20000
