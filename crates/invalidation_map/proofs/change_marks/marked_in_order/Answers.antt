use Rattle.std.proofs.Common.{◌≡◌, List, [], map, nat_eq, sym, ap, subst, ◌∙◌}
use Rattle.std.specs.List.{IsDistinct}
use Rattle.std.proofs.lemmas.Bool.{eqb-true}
use Rattle.std.proofs.lemmas.List.{nil_from_length}
use Rattle.std.proofs.lemmas.Result.{IfOk-weaker}
use Rattle.selector_types.specs.SimpleView.{key_seen}
use Rattle.selector_types.specs.declared.keys.Key.{Key}
use Rattle.invalidation_map.specs.KeySets.{AreSetsOf}
use Rattle.invalidation_map.proofs.SheetMarkLemmas.{bearers_marked, marked_once, none_marked}
use Rattle.invalidation_map.proofs.change_marks.marked_in_order.Goals as goal

pub returns-then-not-change-clause-order : goal.returns-then-not-change-clause-order
returns-then-not-change-clause-order c =
    let doc = c.args.doc.now.elements in
    let change = c.args.change.now in
    let count : change.keys.len ≡ 0 = eqb-true change.keys.len 0 (sym c.is_empty.ensures ∙ c.if-is_empty.true) in
    let empty : change.keys.items ≡ [] = nil_from_length change.keys.items (sym change.keys.ok.0 ∙ count) in
    c.new.ensures.items ∙ none_marked doc (map key_seen change.keys.items) change.swapped c.if-not-change.true (ap (map key_seen) empty)

pub returns-then-not-change-clause-once : goal.returns-then-not-change-clause-once
unfolding IsDistinct
returns-then-not-change-clause-once c = subst (IsDistinct nat_eq) (sym c.new.ensures.items) tt

pub returns : goal.returns
returns c =
    let doc = c.args.doc.now.elements in
    let change = c.args.change.now in
    let sets = c.in_ok-sets.sets in
    let are : AreSetsOf (map key_seen change.keys.items) change.swapped sets =
    subst (λ (keys : List Key). AreSetsOf (map key_seen keys) change.swapped sets) c.deref.ensures.value c.in_ok-sets.ensures in
    let marked = bearers_marked doc (map key_seen change.keys.items) sets change.swapped are in
    let once = marked_once doc (map key_seen change.keys.items) change.swapped c.bearers.ensures.once in
    record {
      order = IfOk-weaker c.bearers.result _ _ (λ v found. found ∙ marked) c.bearers.ensures.order;
      once = IfOk-weaker c.bearers.result _ _ (λ v found. subst (IsDistinct nat_eq) (sym (found ∙ marked)) once) c.bearers.ensures.order;
    }
