use Rattle.std.proofs.Common.{◌≡◌, [], ◌∷◌, sym, ap, ◌∙◌, arith}
use Rattle.json.specs.Reads.{token_of}
use Rattle.json_reader.specs.Taken.{taken}
use Rattle.json_reader.proofs.Outcomes.{on_err}
use Rattle.json_reader.proofs.First.{taken_nothing, begins}
use Rattle.json_reader.proofs.scalar.boolean.Goals as goal

pub returns-in_err-token-clause-err : goal.returns-in_err-token-clause-err
returns-in_err-token-clause-err c =
    let empty : c.args.reader.now ≡ [] = grind arith in
    on_err _ (ap (taken c.args.depth) empty ∙ taken_nothing c.args.depth)

pub returns-clause-ok : goal.returns-clause-ok
returns-clause-ok c =
    let first : c.args.reader.now ≡ token_of c.in_ok-token.token ∷ c.next.new.self = grind arith in
    let done = c.in_ok-pass_after.ensures.ok in
    (done.0, ap (taken c.args.depth) first ∙ done.1, (begins c.args.depth (token_of c.in_ok-token.token) c.next.new.self _ done.0 done.1).boolean ∙ sym c.boolean_at.ensures)
