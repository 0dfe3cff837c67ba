use Rattle.std.proofs.lemmas.Iterator.{YieldsList-from_chars}
use Rattle.std.proofs.lemmas.Iterator.Consumers.{YieldsList-turn, YieldsList-end}
use Rattle.std.proofs.lemmas.List.{length_push}
use Rattle.job_json.proofs.PointerLaws.{escaped_more, escaped_all}
use Rattle.job_json.proofs.pointer.push_escaped.Goals as goal

pub loop-c-preserved : goal.loop-c-preserved
loop-c-preserved c =
    let turn = YieldsList-turn (YieldsList-from_chars c.args.key.now c.utf8.key cc) c.loop-c.yielded _ c.loop-c.yielded_by _ _ c.in-Some.c c.in-Some.is c.next.ensures.steps in
    rw (length_push c.loop-c.yielded c.in-Some.c) (escaped_more _ _ _ _ _ _ turn c.in_ok-push_one.ensures c.loop-c.invariant)

pub returns : goal.returns
returns c =
    let ends = YieldsList-end (YieldsList-from_chars c.args.key.now c.utf8.key cc) c.loop-c.yielded _ c.loop-c.yielded_by _ _ c.in-None.is c.next.ensures.steps in
    escaped_all _ _ _ _ ends.1 c.loop-c.invariant
