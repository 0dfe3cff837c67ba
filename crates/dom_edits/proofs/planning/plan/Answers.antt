use Rattle.std.proofs.Common.{◌≡◌, ap, option_map, rules, sym, ◌∙◌}
use Rattle.std.specs.Result.{result_err}
use Rattle.edit_model.specs.Apply.{refusal}
use Rattle.dom_edits.specs.EditView.{doc_edit_seen, refusal_answered}
use Rattle.dom_edits.proofs.PlanLemmas.{lists-told, moved-told}
use Rattle.dom_edits.proofs.SaysLemmas.{says_alike}
use Rattle.dom_edits.proofs.planning.plan.Goals as goal

pub last_after-last-requires-clause-accepted : goal.last_after-last-requires-clause-accepted
last_after-last-requires-clause-accepted c =
    let judged = c.in_ok-accepted.ensures.judged in
    ap (refusal c.args.doc.now) judged.0 ∙ judged.1.0

pub returns-clause-fits : goal.returns-clause-fits
returns-clause-fits c =
    let judged = c.in_ok-accepted.ensures.judged in
    record { sound = c.in_ok-accepted.ensures.sound; accepted = ap (refusal c.args.doc.now) judged.0 ∙ judged.1.0 }

pub returns-clause-tells : goal.returns-clause-tells
returns-clause-tells c =
    let still = c.in_ok-accepted.ensures.judged.1.1 in
    record {
      last = c.last_after-last.ensures;
      lists = lists-told c.args.doc.now c.in_ok-accepted.accepted still;
      moved = moved-told c.args.doc.now c.in_ok-accepted.accepted still;
    }

pub returns-clause-refused : goal.returns-clause-refused
returns-clause-refused c = sym (ap (option_map refusal_answered) c.in_ok-accepted.ensures.judged.1.0)

pub returns-clause-every : goal.returns-clause-every
returns-clause-every c = λ said says.
    sym (ap (option_map refusal_answered) (sym (says_alike c.args.doc.now c.args.edit.now said says) ∙ c.in_ok-accepted.ensures.judged.1.0))

pub returns-in_err-accepted-clause-every : goal.returns-in_err-accepted-clause-every
returns-in_err-accepted-clause-every c = λ said says.
    let refused : result_err c.from_residual.result ≡ option_map refusal_answered (refusal c.args.doc.now (doc_edit_seen c.args.edit.now)) = search rules in
    refused ∙ ap (option_map refusal_answered) (says_alike c.args.doc.now c.args.edit.now said says)
