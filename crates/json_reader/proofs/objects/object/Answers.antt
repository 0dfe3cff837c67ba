use Rattle.std.proofs.Common.{◌≡◌, [], ◌∷◌, sym, ap, ◌∙◌, arith}
use Rattle.json.specs.Reads.{token_of}
use Rattle.json_reader.specs.Taken.{taken}
use Rattle.json_reader.proofs.First.{taken_nothing}
use Rattle.json_reader.proofs.Opened.{other_object, refused_object, kept_object}
use Rattle.json_reader.proofs.objects.object.Goals as goal

pub returns-in_err-token-clause-err : goal.returns-in_err-token-clause-err
returns-in_err-token-clause-err g c refused =
    let empty : c.args.reader.now ≡ [] = grind arith in
    ap (taken c.args.depth) empty ∙ taken_nothing c.args.depth

pub returns-then-not-opens-clause-ok : goal.returns-then-not-opens-clause-ok
returns-then-not-opens-clause-ok g c =
    let first : c.args.reader.now ≡ token_of c.in_ok-token.token ∷ c.next.new.self = grind arith in
    let done = c.in_ok-pass_after.ensures.ok in
    (done.0, ap (taken c.args.depth) first ∙ done.1, other_object g.K.KeepMembers.keeps c.args.kept.now c.args.depth (token_of c.in_ok-token.token) c.next.new.self _ done.0 (sym c.opens.ensures ∙ c.if-not-opens.true) done.1)

pub returns-in_err-members-clause-err : goal.returns-in_err-members-clause-err
returns-in_err-members-clause-err g c refused =
    let first : c.args.reader.now ≡ token_of c.in_ok-token.token ∷ c.next.new.self = grind arith in
    ap (taken c.args.depth) first ∙ refused_object c.args.depth (token_of c.in_ok-token.token) c.next.new.self (sym c.opens.ensures ∙ c.if-not-opens.false) (c.members.ensures.err (grind arith))

pub returns-clause-ok : goal.returns-clause-ok
returns-clause-ok g c =
    let first : c.args.reader.now ≡ token_of c.in_ok-token.token ∷ c.next.new.self = grind arith in
    let done = c.in_ok-members.ensures.ok in
    let kept = kept_object c.args.depth (token_of c.in_ok-token.token) c.next.new.self (sym c.opens.ensures ∙ c.if-not-opens.false) g.K.KeepMembers.keeps c.members.new.kept c.members.new.reader done.0 done.1 done.2 in
    (kept.0, ap (taken c.args.depth) first ∙ kept.1, kept.2)
