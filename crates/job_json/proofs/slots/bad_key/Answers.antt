use Rattle.std.proofs.Common.{◌∙◌, [], None, sym, get_or}
use Rattle.std.proofs.lemmas.List.{drop_more}
use Rattle.job_json.specs.declared.slots.Slot.{Slot}
use Rattle.job_json.proofs.LatestLaws.{is_after, key_here, key_again, key_good, contrary, no_pair, a_pair}
use Rattle.job_json.proofs.slots.bad_key.Goals as goal
use Rattle.job_json.proofs.slots.bad_key.Goals.{else-is_latest-via-then-is_latest+else-is_none, else-is_latest-via-else-is_latest}

-- what stands in the place of a slot that is not there
abbrev nothing : Slot
nothing = record { name = record { ref_ptr = (0, 0); now = [] }; value = None }

pub returns-then-is_none : goal.returns-then-is_none
returns-then-is_none c =
    let slots = c.args.slots.now in
    let i = c.loop-place.place in
    let slot = get_or slots i nothing in
    let is = drop_more slots i nothing c.loop-place-test.true in
    let latest = is_after slots i slot.name.now c.is_latest.result c.is_latest.ensures in
    let none = no_pair _ _ _ c.attr.ensures.pair c.is_none.ensures c.if-is_none.true in
    sym (c.loop-place.invariant ∙ key_here slots i slot is (contrary _ _ _ latest c.if-is_latest.true) none)

pub loop-place-preserved : goal.loop-place-preserved
loop-place-preserved c =
    let slots = c.args.slots.now in
    let i = c.loop-place.place in
    let slot = get_or slots i nothing in
    let is = drop_more slots i nothing c.loop-place-test.true in
    let latest = is_after slots i slot.name.now c.is_latest.result c.is_latest.ensures in
    elim c.else-is_latest.branch [
      | else-is_latest-via-then-is_latest+else-is_none w ↦
          let some = a_pair _ _ _ w.attr.ensures.pair w.is_none.ensures w.if-is_none.false in
          c.loop-place.invariant ∙ key_good slots i slot is (contrary _ _ _ latest w.if-is_latest.true) some
      | else-is_latest-via-else-is_latest w ↦
          c.loop-place.invariant ∙ key_again slots i slot is (contrary _ _ _ latest w.if-is_latest.false)
    ]
