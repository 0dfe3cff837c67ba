use Rattle.std.proofs.Common.{◌≡◌, ◌+◌, length, slice_get, slice_set, true, Option, Some, None, Vec, Global, replicate, inl, inr, ⊎_elim, refl, sym, ap, subst, ◌∙◌, arith}
use Rattle.std.specs.FinMap as finmap
use Rattle.std.proofs.lemmas.List.{length-replicate, length-set}
use Rattle.std.proofs.lemmas.Option.{slice_get_read}
use Rattle.css_tokens.specs.declared.custom.value.CustomValue.{CustomValue}
use Rattle.cycle_search.specs.Confirmed.{is_in_group}
use Rattle.custom_properties.proofs.EntryLemmas.{length_of_entries}
use Rattle.custom_properties.proofs.GraphLemmas.{all_of}
use Rattle.custom_properties.proofs.OrderLemmas.{AreRight, in_group_within, right_first, right_set, right_kept, right_whole, listed_value_seen}
use Rattle.custom_properties.proofs.ordered.values_in_order.Goals as goal
use Rattle.custom_properties.proofs.ordered.values_in_order.Goals.{then-is_in_group+in_ok-value, else-is_in_group}

pub loop-group-init : goal.loop-group-init
loop-group-init c =
    let full : length c.args.found.now.marks.items ≡ length (all_of c.args.declared.now) = c.requires.marks ∙ finmap.len-entries c.args.declared.now in
    let many = length_of_entries c.args.declared.now c.entries-entries.result.now c.entries-entries.ensures in
    let none : c.in_ok-values.values.items ≡ replicate (length (all_of c.args.declared.now)) None = c.in_ok-values.ensures ∙ ap (λ n. replicate n None) many in
    record {
      long = ap length none ∙ length-replicate (length (all_of c.args.declared.now)) None;
      right = subst (λ l. AreRight c.args.declared.now c.args.inherited.now c.args.found.now.marks.items c.args.found.now.order.items c.requires.confirmed full l 0) (sym none)
          (right_first c.args.declared.now c.args.inherited.now c.args.found.now.marks.items c.args.found.now.order.items c.requires.confirmed full);
    }

pub value_at-requires : goal.value_at-requires
value_at-requires c =
    let full : length c.args.found.now.marks.items ≡ length (all_of c.args.declared.now) = c.requires.marks ∙ finmap.len-entries c.args.declared.now in
    let many = length_of_entries c.args.declared.now c.entries-entries.result.now c.entries-entries.ensures in
    let chosen : is_in_group c.loop-group.group (slice_get c.args.found.now.marks.items c.index-place.result.now) ≡ true =
    ap (λ l. is_in_group c.loop-group.group (slice_get l c.index-place.result.now)) (sym c.deref.ensures.value) ∙ (sym c.is_in_group.ensures ∙ c.if-is_in_group.true) in
    let within = in_group_within c.args.found.now.marks.items c.index-place.result.now c.loop-group.group chosen in
    omega arith

pub put-requires : goal.put-requires
put-requires c =
    let full : length c.args.found.now.marks.items ≡ length (all_of c.args.declared.now) = c.requires.marks ∙ finmap.len-entries c.args.declared.now in
    let chosen : is_in_group c.loop-group.group (slice_get c.args.found.now.marks.items c.index-place.result.now) ≡ true =
    ap (λ l. is_in_group c.loop-group.group (slice_get l c.index-place.result.now)) (sym c.deref.ensures.value) ∙ (sym c.is_in_group.ensures ∙ c.if-is_in_group.true) in
    let within = in_group_within c.args.found.now.marks.items c.index-place.result.now c.loop-group.group chosen in
    omega (arith, c.loop-group.invariant.long)

pub loop-group-preserved : goal.loop-group-preserved
loop-group-preserved c =
    let declared = c.args.declared.now in
    let inherited = c.args.inherited.now in
    let marks = c.args.found.now.marks.items in
    let order = c.args.found.now.order.items in
    let group = c.loop-group.group in
    let place = c.index-place.result.now in
    let values = c.loop-group.values.items in
    let full : length c.args.found.now.marks.items ≡ length (all_of c.args.declared.now) = c.requires.marks ∙ finmap.len-entries c.args.declared.now in
    let ordered : slice_get order group ≡ Some place = slice_get_read order (length order) group place refl (omega arith) c.index-place.ensures in
    let asked : is_in_group group (slice_get marks place) ≡ c.is_in_group.result =
    ap (λ l. is_in_group group (slice_get l place)) (sym c.deref.ensures.value) ∙ sym c.is_in_group.ensures in
    elim c.if-is_in_group.branch [
      | then-is_in_group+in_ok-value w ↦
          let many = length_of_entries declared c.entries-entries.result.now c.entries-entries.ensures in
          let chosen = asked ∙ w.if-is_in_group.true in
          let inside = in_group_within marks place group chosen in
          let now : c.if-is_in_group.values.items ≡ slice_set values place w.in_ok-value.value = ap (λ (v : Vec (Option CustomValue) Global). v.items) w.values-is ∙ w.put.ensures in
          record {
            long = ap length now ∙ (length-set values place w.in_ok-value.value ∙ c.loop-group.invariant.long);
            right = subst (λ l. AreRight declared inherited marks order c.requires.confirmed full l (group + 1)) (sym now)
                (right_set declared inherited marks order c.requires.confirmed full values group place w.in_ok-value.value c.loop-group.invariant.long c.loop-group.invariant.right ordered chosen
                (listed_value_seen declared inherited c.entries-entries.result.now place values w.deref-then-is_in_group.result.now w.in_ok-value.value c.entries-entries.ensures (omega arith) w.deref-then-is_in_group.ensures.value w.in_ok-value.ensures));
          }
      | else-is_in_group w ↦
          let now : c.if-is_in_group.values.items ≡ values = ap (λ (v : Vec (Option CustomValue) Global). v.items) w.values-is in
          record {
            long = ap length now ∙ c.loop-group.invariant.long;
            right = subst (λ l. AreRight declared inherited marks order c.requires.confirmed full l (group + 1)) (sym now)
                (right_kept declared inherited marks order c.requires.confirmed full values group place c.loop-group.invariant.right ordered (asked ∙ w.if-is_in_group.false));
          }
    ]

pub returns : goal.returns
returns c =
    let full : length c.args.found.now.marks.items ≡ length (all_of c.args.declared.now) = c.requires.marks ∙ finmap.len-entries c.args.declared.now in
    right_whole c.args.declared.now c.args.inherited.now c.args.found.now.marks.items c.args.found.now.order.items c.requires.confirmed full c.loop-group.values.items c.loop-group.invariant.long
    (λ k mark at why. c.loop-group.invariant.right k mark at (⊎_elim (λ e. inl e) (λ l. inr (omega (arith, l))) why))
