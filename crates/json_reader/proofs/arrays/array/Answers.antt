use Rattle.std.proofs.Common.{◌≡◌, [], ◌∷◌, sym, ap, ◌∙◌, arith}
use Rattle.json.specs.Reads.{token_of}
use Rattle.json_reader.specs.Taken.{taken}
use Rattle.json_reader.proofs.First.{taken_nothing}
use Rattle.json_reader.proofs.Opened.{other_array, refused_array, kept_array}
use Rattle.json_reader.proofs.arrays.array.Goals as goal

pub returns-in_err-token-clause-err : goal.returns-in_err-token-clause-err
returns-in_err-token-clause-err g c refused =
    let empty : c.args.reader.now ≡ [] = grind arith in
    ap (taken c.args.depth) empty ∙ taken_nothing c.args.depth

pub returns-then-not-opens-clause-ok : goal.returns-then-not-opens-clause-ok
returns-then-not-opens-clause-ok g c =
    let first : c.args.reader.now ≡ token_of c.in_ok-token.token ∷ c.next.new.self = grind arith in
    let done = c.in_ok-pass_after.ensures.ok in
    (done.0, ap (taken c.args.depth) first ∙ done.1, other_array g.K.KeepItems.keeps c.args.kept.now c.args.depth (token_of c.in_ok-token.token) c.next.new.self _ done.0 (sym c.opens.ensures ∙ c.if-not-opens.true) done.1)

pub returns-in_err-items-clause-err : goal.returns-in_err-items-clause-err
returns-in_err-items-clause-err g c refused =
    let first : c.args.reader.now ≡ token_of c.in_ok-token.token ∷ c.next.new.self = grind arith in
    ap (taken c.args.depth) first ∙ refused_array c.args.depth (token_of c.in_ok-token.token) c.next.new.self (sym c.opens.ensures ∙ c.if-not-opens.false) (c.items.ensures.err (grind arith))

pub returns-clause-ok : goal.returns-clause-ok
returns-clause-ok g c =
    let first : c.args.reader.now ≡ token_of c.in_ok-token.token ∷ c.next.new.self = grind arith in
    let done = c.in_ok-items.ensures.ok in
    let kept = kept_array c.args.depth (token_of c.in_ok-token.token) c.next.new.self (sym c.opens.ensures ∙ c.if-not-opens.false) g.K.KeepItems.keeps c.items.new.kept c.items.new.reader done.0 done.1 done.2 in
    (kept.0, ap (taken c.args.depth) first ∙ kept.1, kept.2)
