use Rattle.std.proofs.Common.{◌≡◌, ◌+◌, ◌∷◌, drop, refl, ap, arith}
use Rattle.std.proofs.lemmas.List.Sums.{sum_by-drop_more}
use Rattle.layer_order.specs.View.{origin_of}
use Rattle.shorthands.specs.View.{declared_count}
use Rattle.sheet_set.specs.View.{placed_rule_of, put_at}
use Rattle.sheet_set.proofs.Left.{item_at}
use Rattle.element_styler.proofs.AppliedLemmas.{rule_added}
use Rattle.element_styler.proofs.matching.add_declarations.Goals as goal

pub loop-declared-preserved : goal.loop-declared-preserved
loop-declared-preserved c =
    let items = c.declarations-declared-items.result.now in
    let d = c.declared-item.result in
    let i = c.loop-declared.declared-index in
    let here : drop i items ≡ d ∷ drop (i + 1) items = item_at items i d c.loop-declared-test.true c.declared-item.is in
    record {
      added = λ layers selectors ranked.
          rule_added layers (put_at c.args.place.position (placed_rule_of c.args.rule.now selectors)) c.args.specificity c.loop-declared.list.items c.extend_from_slice.new.self.items _ d (drop i items) (drop (i + 1) items) _ _ c.in_ok-extend_from_slice.ensures.items (record { origin = ap origin_of c.origin.ensures; detached = refl; layer = ranked; specificity = refl; sheet = c.sheet.ensures; position = refl }) refl (ap (λ n. c.loop-declared.index + n) c.count-index.ensures) here (c.loop-declared.invariant.added layers selectors ranked);
      index = omega (arith, c.loop-declared.invariant.index, c.count-index.ensures, sum_by-drop_more declared_count items i d c.loop-declared-test.true, ap (λ x. declared_count x) c.declared-item.is);
    }
