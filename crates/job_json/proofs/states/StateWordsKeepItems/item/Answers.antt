use Rattle.std.proofs.Common.{◌≡◌, ◌∙◌, [], Ok, Err, option_map, option_and_then, sym, ap}
use Rattle.std.specs.Prelude.{decimal}
use Rattle.stylo_base.specs.StateView.{state_seen}
use Rattle.job_json.specs.Checked.{wanted, below}
use Rattle.job_json.specs.Words.{state_named}
use Rattle.job_json.specs.Shape.{state_in}
use Rattle.job_json.specs.Kept.{HasStates}
use Rattle.job_json.proofs.CheckedLaws.{passed_over, read_bad, read_one}
use Rattle.job_json.proofs.StateLaws.{one_state}
use Rattle.job_json.proofs.states.StateWordsKeepItems.item.Goals as goal

pub returns-then-is_some-clause-ok : goal.returns-then-is_some-clause-ok
returns-then-is_some-clause-ok c =
    let old = c.args.self.now in
    let done = c.in_ok-pass.ensures.ok in
    (done.0, done.1, λ ds kept. passed_over (λ k. state_in) ds done.0 old.bad (HasStates old) (HasStates old) (sym c.is_some.ensures ∙ c.if-is_some.true) kept)

pub returns-in_ok-self-in-Some-clause-ok : goal.returns-in_ok-self-in-Some-clause-ok
returns-in_ok-self-in-Some-clause-ok c =
    let old = c.args.self.now in
    let done = c.in_ok-text.ensures.ok in
    let state = state_seen c.in-Some.state in
    let said : state_in done.0 ≡ Ok state = ap (λ o. wanted (option_and_then state_named o)) done.2 ∙ ap wanted (sym c.state_named.ensures ∙ ap (option_map state_seen) c.in-Some.is) in (
      done.0,
      done.1,
      λ ds kept.
          read_one (λ k. state_in) ds done.0 old.bad (HasStates old) _ old.count state (sym c.is_some.ensures ∙ c.if-is_some.false) kept (λ named has. has.count) said
          (λ named before now has. one_state old _ named state has c.in_ok-self-in-Some.ensures c.with_state-self.ensures),
    )

pub returns-in_ok-in_item-in-None-clause-ok : goal.returns-in_ok-in_item-in-None-clause-ok
returns-in_ok-in_item-in-None-clause-ok c =
    let old = c.args.self.now in
    let done = c.in_ok-text.ensures.ok in
    let said : state_in done.0 ≡ Err [] = ap (λ o. wanted (option_and_then state_named o)) done.2 ∙ ap wanted (sym c.state_named.ensures ∙ ap (option_map state_seen) c.in-None.is) in
    let path = c.in_ok-in_item-in-None.ensures ∙ ap (below (decimal old.count)) c.new.ensures in (
      done.0,
      done.1,
      λ ds kept.
          read_bad (λ k. state_in) ds done.0 old.bad (HasStates old) old.count [] (sym c.is_some.ensures ∙ c.if-is_some.false) kept (λ named has. has.count) said ∙ ap (λ p. Err p) (sym path),
    )
