use Rattle.std.proofs.Common.{◌≡◌, ◌+◌, ◌-◌, ◌++◌, [], true, false, flat_map, map, take, drop, sym, ap, ◌∙◌, arith, append-nil}
use Rattle.std.proofs.Math.Logic.{∥∥₁_map}
use Rattle.std.proofs.lemmas.Bool.{cond-false}
use Rattle.std.proofs.lemmas.Result.{on_ok_weaker}
use Rattle.selector_types.specs.SimpleView.{key_seen}
use Rattle.sheet_edit_model.specs.SheetMarks.{keys_in}
use Rattle.sheet_set.specs.Kept.{kept_seen}
use Rattle.sheet_set.specs.Planned.{at_place}
use Rattle.sheet_set.specs.StepOf.{keys_of}
use Rattle.sheet_set.proofs.MovedRules.{front-within}
use Rattle.sheet_set.proofs.SheetAt.{seen-at}
use Rattle.sheet_set.proofs.StepKeys.{at-within, keys-at, total-at}
use Rattle.sheet_set.proofs.sheet_keys.add_keys_at.Goals as goal

pub returns-then-not-is_enabled : goal.returns-then-not-is_enabled
returns-then-not-is_enabled c =
    let it = c.index-sheets-place.result in
    let old = map key_seen c.args.keys.now.items in
    let off : it.enabled ≡ false = sym c.is_enabled.ensures ∙ c.if-not-is_enabled.true in
    let none : flat_map keys_in (at_place c.args.place (map kept_seen c.args.sheets.now)) ≡ [] =
    ap (flat_map keys_in) (seen-at c.args.sheets.now c.args.place it c.requires.within c.index-sheets-place.is)
    ∙ (append-nil (keys_in (kept_seen it)) ∙ cond-false it.enabled _ [] off) in
    ∣ sym (append-nil old) ∙ ap (λ l. old ++ l) (sym none) ∣₁

pub taking_count-at-requires : goal.taking_count-at-requires
taking_count-at-requires c =
    let sheets = c.args.sheets.now in
    let total = total-at sheets c.args.selectors.now c.requires.selectors in
    let front = front-within sheets c.args.place in
    omega (arith, total, front)

pub overflow_add-at : goal.overflow_add-at
overflow_add-at c =
    let it = c.index-sheets-place.result in
    let on : it.enabled ≡ true = sym c.is_enabled.ensures ∙ c.if-not-is_enabled.false in
    let within = at-within c.args.sheets.now c.args.place it c.requires.within c.index-sheets-place.is on c.args.selectors.now c.requires.selectors in
    omega (arith, within, c.taking_count-at.ensures, c.count.ensures, it.counted)

pub offset_bounds-selectors-at : goal.offset_bounds-selectors-at
offset_bounds-selectors-at c =
    let it = c.index-sheets-place.result in
    let on : it.enabled ≡ true = sym c.is_enabled.ensures ∙ c.if-not-is_enabled.false in
    let within = at-within c.args.sheets.now c.args.place it c.requires.within c.index-sheets-place.is on c.args.selectors.now c.requires.selectors in
    omega (arith, within, c.taking_count-at.ensures, c.count.ensures, it.counted)

pub slice_bounds-add_keys-end : goal.slice_bounds-add_keys-end
slice_bounds-add_keys-end c =
    let it = c.index-sheets-place.result in
    let on : it.enabled ≡ true = sym c.is_enabled.ensures ∙ c.if-not-is_enabled.false in
    let within = at-within c.args.sheets.now c.args.place it c.requires.within c.index-sheets-place.is on c.args.selectors.now c.requires.selectors in
    omega (arith, within, c.taking_count-at.ensures, c.count.ensures, it.counted)

pub returns : goal.returns
returns c =
    let sheets = c.args.sheets.now in
    let lists = c.args.selectors.now in
    let place = c.args.place in
    let at = c.taking_count-at.result in
    let it = c.index-sheets-place.result in
    let old = map key_seen c.args.keys.now.items in
    let on : it.enabled ≡ true = sym c.is_enabled.ensures ∙ c.if-not-is_enabled.false in
    let sized : at + c.count.result - at ≡ it.count = omega (arith, c.count.ensures, it.counted) in
    let seen : flat_map keys_in (at_place place (map kept_seen sheets)) ≡ keys_in (kept_seen it) =
    ap (flat_map keys_in) (seen-at sheets place it c.requires.within c.index-sheets-place.is) ∙ append-nil (keys_in (kept_seen it)) in
    on_ok_weaker c.add_keys.result (λ added. ∥∥₁_map (keys-at sheets place it c.requires.within c.index-sheets-place.is on lists c.requires.selectors at (sym c.taking_count-at.ensures)) (λ keys.
    added ∙ (ap (λ n. old ++ keys_of (take n (drop at lists))) sized ∙ ap (λ l. old ++ l) (keys ∙ sym seen)))) c.add_keys.ensures
