use Rattle.std.proofs.Common.{◌≡◌, ◌≤◌, ◌∙◌, length, map, true, Ok, Err, option_map, sym, ap, arith}
use Rattle.std.proofs.lemmas.List.{length-map}
use Rattle.base_model.specs.Limits.{attribute_limit}
use Rattle.dom_tree.specs.View.{pair_of}
use Rattle.job_json.specs.Checked.{map_ok}
use Rattle.job_json.specs.Limits.{count_of}
use Rattle.job_json.specs.Slots.{slot_pair, latest, first_bad_key}
use Rattle.job_json.specs.Kept.{filled, slots_read}
use Rattle.job_json.proofs.AttrLaws.{map_of, attrs_few, many_right, many_bad, as_within}
use Rattle.job_json.proofs.SlotLaws.{count_of-slots}
use Rattle.job_json.proofs.attributes.AttrList.judge.Goals as goal

pub returns-in-None : goal.returns-in-None
returns-in-None c ms kept =
    let are : c.args.self.now.slots.are_many ≡ true = sym c.are_many.ensures ∙ c.if-are_many.true in
    let found = c.bad_key.ensures ∙ (ap (λ l. first_bad_key (latest (map slot_pair l))) c.as_slice.ensures ∙ ap first_bad_key (c.in_ok-sort.ensures.sorted ms kept are)) in
    many_right ms (kept.many are).0 (sym found ∙ ap (option_map (λ key. key.now)) c.in-None.is)

pub returns-in_ok-to_member-in-Some : goal.returns-in_ok-to_member-in-Some
returns-in_ok-to_member-in-Some c ms kept =
    let are : c.args.self.now.slots.are_many ≡ true = sym c.are_many.ensures ∙ c.if-are_many.true in
    let found = c.bad_key.ensures ∙ (ap (λ l. first_bad_key (latest (map slot_pair l))) c.as_slice.ensures ∙ ap first_bad_key (c.in_ok-sort.ensures.sorted ms kept are)) in
    many_bad ms c.in-Some.key.now (kept.many are).0 (sym found ∙ ap (option_map (λ key. key.now)) c.in-Some.is) ∙ ap (λ path. Err path) (sym c.in_ok-to_member-in-Some.ensures)

pub returns-in-Ok : goal.returns-in-Ok
returns-in-Ok c ms kept =
    let listed = kept.few (sym c.are_many.ensures ∙ c.if-are_many.false) in
    let long : length (map slot_pair c.args.self.now.slots.list.items) ≡ length c.args.self.now.slots.list.items = simp length-map in
    let few : count_of ms ≤ attribute_limit = omega (arith, listed.1, count_of-slots ms, ap length listed.0, long) in
    let read = c.in_ok-passed.ensures ∙ (ap (λ l. slots_read (map slot_pair l)) c.as_slice-2.ensures ∙ ap slots_read listed.0) in
    let list = c.fill.new.list.items in
    attrs_few ms few ∙ (ap (map_ok (map_ok map_of)) (sym read) ∙ (ap (λ p. map_ok (map_ok map_of) (filled p list)) c.in-Ok.is ∙ ap (λ w. Ok w) (as_within c.in-Ok.passed (map pair_of list))))

pub returns-in-Err : goal.returns-in-Err
returns-in-Err c ms kept =
    let listed = kept.few (sym c.are_many.ensures ∙ c.if-are_many.false) in
    let long : length (map slot_pair c.args.self.now.slots.list.items) ≡ length c.args.self.now.slots.list.items = simp length-map in
    let few : count_of ms ≤ attribute_limit = omega (arith, listed.1, count_of-slots ms, ap length listed.0, long) in
    let read = c.in_ok-passed.ensures ∙ (ap (λ l. slots_read (map slot_pair l)) c.as_slice-2.ensures ∙ ap slots_read listed.0) in
    attrs_few ms few ∙ (ap (map_ok (map_ok map_of)) (sym read) ∙ ap (λ p. map_ok (map_ok map_of) (filled p c.fill.new.list.items)) c.in-Err.is)
