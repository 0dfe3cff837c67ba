use Rattle.std.proofs.Common.{◌≡◌, ap, ◌∙◌, ◌++◌, false}
use Rattle.std.specs.Str.{chars}
use Rattle.std.specs.String.{string_bytes}
use Rattle.std.proofs.lemmas.Iterator.{YieldsList-from_chars}
use Rattle.std.proofs.lemmas.Iterator.Consumers.{YieldsList-turn, YieldsList-end}
use Rattle.std.proofs.lemmas.List.{length_push}
use Rattle.std.proofs.lemmas.Str.{chars-nil}
use Rattle.syntax_model.specs.Preprocess.{preprocessed, preprocessed_after}
use Rattle.css_tokens.proofs.InputLemmas.{given_all, given_more, ready_all}
use Rattle.css_tokens.proofs.input.preprocess_each.Goals as goal

pub loop-c-init : goal.loop-c-init
loop-c-init c =
    ap (λ cs. cs ++ preprocessed_after false (chars c.args.text.now)) (ap chars c.in_ok-out.ensures.bytes ∙ chars-nil)

pub loop-c-preserved : goal.loop-c-preserved
loop-c-preserved c =
    let turn = YieldsList-turn (YieldsList-from_chars c.args.text.now c.utf8.text cc) c.loop-c.yielded _ c.loop-c.yielded_by _ _ c.in-Some.c c.in-Some.is c.next.ensures.steps in
    rw (length_push c.loop-c.yielded c.in-Some.c) (given_more _ _ _ _ _ _ turn c.in_ok-push_given.ensures c.loop-c.invariant)

-- what was read is the whole text
whole : (c : goal.In-None) → chars (string_bytes c.loop-c.out) ≡ preprocessed (chars c.args.text.now)
whole c =
    let ends = YieldsList-end (YieldsList-from_chars c.args.text.now c.utf8.text cc) c.loop-c.yielded _ c.loop-c.yielded_by _ _ c.in-None.is c.next.ensures.steps in
    given_all _ _ _ _ ends.1 c.loop-c.invariant

pub returns-clause-text : goal.returns-clause-text
returns-clause-text c = whole c

pub returns-clause-ready : goal.returns-clause-ready
returns-clause-ready c = ready_all (chars c.args.text.now) _ (whole c)
