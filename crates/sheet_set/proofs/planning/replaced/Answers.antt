use Rattle.std.proofs.Common.{◌≡◌, ℕ, ◌+◌, Option, Some, true, false, subst, sym, ap, ◌∙◌, arith}
use Rattle.std.specs.Option.{SomeIff}
use Rattle.std.proofs.lemmas.Bool.{cond-true, false≢true, false_from_ne_true}
use Rattle.std.proofs.lemmas.Slice.Eq.{bytes_eq-Decides}
use Rattle.base_model.specs.Text.{Characters, same_text}
use Rattle.layer_order.specs.View.{origin_of}
use Rattle.layer_order.specs.declared.origin.Origin.{Origin}
use Rattle.edit_model.specs.SheetApply.{with_text}
use Rattle.sheet_set.specs.Kept.{kept_seen}
use Rattle.sheet_set.specs.Rules.{sheet_made}
use Rattle.sheet_set.proofs.StepsTo.{put-to, stay-to}
use Rattle.sheet_set.proofs.planning.replaced.Goals as goal

value_of : (o : Option ℕ) (P : Type 0) (x v : ℕ) → o ≡ Some x → SomeIff o P v → x ≡ v
value_of o P x v is h = let some : SomeIff (Some x) P v = subst (λ o. SomeIff o P v) is h in some.1

same_made : (text : Characters) (m n e f : ℕ) (o p : Origin) → m ≡ n → origin_of o ≡ origin_of p → e ≡ f → sheet_made m o false text e ≡ sheet_made n p false text f
same_made text m n e f o p number origin edition = cc

pub returns-then-is_same : goal.returns-then-is_same
returns-then-is_same c = λ n last alone.
    let it = c.index-sheets-place.result in
    let text = c.args.text.now in
    let same : same_text text it.text ≡ true = (bytes_eq-Decides text it.text).1 (sym (c.is_same.ensures.0 c.if-is_same.true) ∙ c.text.ensures) in
    stay-to c.args.sheets.now c.args.place it c.requires c.index-sheets-place.is n last alone (with_text text)
    (cond-true (same_text text it.text) (kept_seen it) (record (kept_seen it) { text = text; edition = it.edition + 1 }) same)

pub returns : goal.returns
returns c = λ n last alone.
    let it = c.index-sheets-place.result in
    let text = c.args.text.now in
    let room = c.in_ok-room.room in
    let edition = c.in_ok-ok_or.field-0 in
    let other : same_text text it.text ≡ false =
    false_from_ne_true (same_text text it.text) (λ same. false≢true (sym c.if-is_same.false ∙ c.is_same.ensures.1 (c.text.ensures ∙ sym ((bytes_eq-Decides text it.text).0 same)))) in
    let later : edition ≡ it.edition + 1 = value_of c.checked_add.result _ edition _ c.in_ok-ok_or.ensures.ok_part c.checked_add.ensures ∙ ap (λ e. e + 1) c.edition.ensures in
    let new_is = c.in_ok-sheet.ensures ∙ same_made text c.number.result it.number edition (it.edition + 1) c.origin.result it.origin c.number.ensures c.origin.ensures later in
    put-to c.args.sheets.now c.args.place it c.requires c.index-sheets-place.is n last alone text other c.in_ok-sheet.sheet new_is room
    (omega (arith, c.in_ok-room.ensures.rules, c.count.ensures, it.counted))
    (omega (arith, c.in_ok-room.ensures.selectors, c.count.ensures, it.counted))
