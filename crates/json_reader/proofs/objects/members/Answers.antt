use Rattle.std.proofs.Common.{◌≡◌, Some, arith}
use Rattle.json.specs.Json.{read_key}
use Rattle.serde_json.specs.Data.{put}
use Rattle.json_reader.proofs.Turns.{members_more, members_stop, members_no_key, members_end}
use Rattle.json_reader.proofs.objects.members.Goals as goal

pub returns-in_err-key-clause-err : goal.returns-in_err-key-clause-err
returns-in_err-key-clause-err g c refused =
    let l = c.members in
    members_no_key c.args.depth _ _ l.reader l.invariant.0 l.invariant.1 c.in_err-key.ensures.value

pub members-preserved : goal.members-preserved
members-preserved g c =
    let l = c.members in
    let k = c.in-Some.key.now in
    let s = c.next_key.new.self in
    let named : read_key l.reader ≡ Some (Some k, s) = grind arith in
    let done = c.in_ok-member.ensures in
    let more = members_more c.args.depth _ _ l.reader l.invariant.0 l.invariant.1 k s done.ok.0 c.member.new.reader named done.ok.1 done.shorter in
    (put k done.ok.0 l.invariant.0, more, done.ok.2 l.invariant.0 l.invariant.2)

pub returns-in_err-member-clause-err : goal.returns-in_err-member-clause-err
returns-in_err-member-clause-err g c refused =
    let l = c.members in
    let k = c.in-Some.key.now in
    let s = c.next_key.new.self in
    let named : read_key l.reader ≡ Some (Some k, s) = grind arith in
    members_stop c.args.depth _ _ l.reader l.invariant.0 l.invariant.1 k s named (c.member.ensures.err (grind arith))

pub returns-clause-ok : goal.returns-clause-ok
returns-clause-ok g c =
    let l = c.members in
    (l.invariant.0, members_end c.args.depth _ _ l.reader l.invariant.0 l.invariant.1 c.next_key.new.self (grind arith), l.invariant.2)
