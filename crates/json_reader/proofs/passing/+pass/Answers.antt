use Rattle.std.proofs.Common.{◌≡◌, [], ◌∷◌, ◌++◌, length, Some, None, sym, ap, ◌∙◌, subst, arith}
use Rattle.json.specs.Json.{after_end_array, read_key}
use Rattle.json.specs.Reads.{token_of}
use Rattle.json.specs.Token.{number}
use Rattle.serde_json.specs.View.{items_of}
use Rattle.std.proofs.lemmas.Result.{on_ok_weaker}
use Rattle.json_reader.specs.Taken.{taken, IsTaken}
use Rattle.json_reader.proofs.Outcomes.{on_err}
use Rattle.json_reader.proofs.First.{taken_nothing, none_begun, scalar_taken, array_taken, object_taken}
use Rattle.json_reader.proofs.Turns.{items_more, items_stop, items_end, members_begin, members_more, members_stop, members_no_key, members_end}
use Rattle.serde_json.specs.Data.{no_members, put}
use Rattle.json_reader.proofs.passing.+pass.Goals as goal

pub pass-returns-in_err-token-clause-err : goal.pass-returns-in_err-token-clause-err
pass-returns-in_err-token-clause-err t c =
    let empty : c.args.reader.now ≡ [] = grind arith in
    on_err _ (ap (taken c.args.depth) empty ∙ taken_nothing c.args.depth)

pub pass_after-returns-in-String-clause-ok : goal.pass_after-returns-in-String-clause-ok
pass_after-returns-in-String-clause-ok t c = scalar_taken c.args.depth (token_of c.args.token) c.args.reader.now (grind arith)

pub pass_after-returns-in-EndObject-clause-err : goal.pass_after-returns-in-EndObject-clause-err
pass_after-returns-in-EndObject-clause-err t c = none_begun c.args.depth (token_of c.args.token) c.args.reader.now (grind arith)

pub pass_items-items-preserved : goal.pass_items-items-preserved
pass_items-items-preserved t c =
    let l = c.items in
    let going : (after_end_array l.reader ≡ None) × (c.take_end_array.new.self ≡ l.reader) = grind arith in
    let done = c.in_ok-pass.ensures in
    let more = items_more c.args.depth _ _ l.reader l.invariant.0 l.invariant.1 done.ok.0 c.pass.new.reader going.0 (ap (taken c.args.depth) (sym going.1) ∙ done.ok.1) (omega (arith, ap length going.1, done.shorter)) in
    (l.invariant.0 ++ done.ok.0 ∷ [], more)

pub pass_items-returns-in_err-pass-clause-err : goal.pass_items-returns-in_err-pass-clause-err
pass_items-returns-in_err-pass-clause-err t c =
    let l = c.items in
    let going : (after_end_array l.reader ≡ None) × (c.take_end_array.new.self ≡ l.reader) = grind arith in
    on_err _ (items_stop c.args.depth _ _ l.reader l.invariant.0 l.invariant.1 going.0 (ap (taken c.args.depth) (sym going.1) ∙ c.in_err-pass.ensures.err))

pub pass_items-returns-clause-ok : goal.pass_items-returns-clause-ok
pass_items-returns-clause-ok t c =
    let l = c.items in
    (items_of l.invariant.0, items_end c.args.depth _ _ l.reader l.invariant.0 l.invariant.1 c.take_end_array.new.self (grind arith))

pub pass_members-members-init : goal.pass_members-members-init
pass_members-members-init t c = (no_members, members_begin c.args.depth no_members c.args.reader.now)

pub pass_members-returns-in_err-_key-clause-err : goal.pass_members-returns-in_err-_key-clause-err
pass_members-returns-in_err-_key-clause-err t c =
    let l = c.members in
    on_err _ (members_no_key c.args.depth _ _ l.reader l.invariant.0 l.invariant.1 c.in_err-_key.ensures.value)

pub pass_members-members-preserved : goal.pass_members-members-preserved
pass_members-members-preserved t c =
    let l = c.members in
    let k = c.in-Some._key.now in
    let s = c.next_key.new.self in
    let named : read_key l.reader ≡ Some (Some k, s) = grind arith in
    let done = c.in_ok-pass.ensures in
    (put k done.ok.0 l.invariant.0, members_more c.args.depth _ _ l.reader l.invariant.0 l.invariant.1 k s done.ok.0 c.pass.new.reader named done.ok.1 done.shorter)

pub pass_members-returns-in_err-pass-clause-err : goal.pass_members-returns-in_err-pass-clause-err
pass_members-returns-in_err-pass-clause-err t c =
    let l = c.members in
    let k = c.in-Some._key.now in
    let s = c.next_key.new.self in
    let named : read_key l.reader ≡ Some (Some k, s) = grind arith in
    on_err _ (members_stop c.args.depth _ _ l.reader l.invariant.0 l.invariant.1 k s named c.in_err-pass.ensures.err)

pub pass_members-returns-clause-ok : goal.pass_members-returns-clause-ok
pass_members-returns-clause-ok t c =
    let l = c.members in
    (l.invariant.0, members_end c.args.depth _ _ l.reader l.invariant.0 l.invariant.1 c.next_key.new.self (grind arith))

pub pass_after-returns-else-not-is_number_in_range-clause-ok : goal.pass_after-returns-else-not-is_number_in_range-clause-ok
pass_after-returns-else-not-is_number_in_range-clause-ok t c =
    let ts = c.args.reader.now in
    subst (λ k. IsTaken (taken c.args.depth (token_of k ∷ ts)) ts) (sym c.in-Number.is) (scalar_taken c.args.depth (number c.in-Number.text.now) ts (sym c.is_number_in_range.ensures ∙ c.if-not-is_number_in_range.false))

pub pass_after-returns-else-depth-eq0-clause-ok : goal.pass_after-returns-else-depth-eq0-clause-ok
pass_after-returns-else-depth-eq0-clause-ok t c =
    let ts = c.args.reader.now in
    let r = c.pass_items.new.reader in
    on_ok_weaker c.pass_items.result (λ all. subst (λ k. IsTaken (taken c.args.depth (token_of k ∷ ts)) r) (sym c.in-BeginArray.is) (array_taken c.args.depth ts (omega arith) r all)) c.pass_items.ensures.ok

pub pass_after-returns-else-depth-eq0-2-clause-ok : goal.pass_after-returns-else-depth-eq0-2-clause-ok
pass_after-returns-else-depth-eq0-2-clause-ok t c =
    let ts = c.args.reader.now in
    let r = c.pass_members.new.reader in
    on_ok_weaker c.pass_members.result (λ all. subst (λ k. IsTaken (taken c.args.depth (token_of k ∷ ts)) r) (sym c.in-BeginObject.is) (object_taken c.args.depth ts (omega arith) r all)) c.pass_members.ensures.ok
