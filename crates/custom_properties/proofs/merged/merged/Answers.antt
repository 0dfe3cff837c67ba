use Rattle.std.proofs.Common.{◌≡◌, ◌++◌, ◌<◌, length, get_or, map, None, IfOk, sym, ap, subst, ◌∙◌, arith}
use Rattle.std.specs.FinMap as finmap
use Rattle.std.proofs.lemmas.List.{drop_all, get_or_read}
use Rattle.css_tokens.specs.CustomView.{entry_of}
use Rattle.custom_properties.specs.Merged.{merged, with_values}
use Rattle.custom_properties.proofs.EntryLemmas.{length_of_entries, name_of_entry}
use Rattle.custom_properties.proofs.MergedLemmas.{merge_more, length-with_values, length_of_values, whole_of, whole_resolved, list_sorted}
use Rattle.custom_properties.proofs.merged.merged.Goals as goal

pub loop-place-preserved : goal.loop-place-preserved
loop-place-preserved c =
    let declared = c.args.declared.now in
    let place = c.loop-place.place in
    let list = c.entries-entries.result.now in
    let long = length_of_values declared c.args.inherited.now c.args.values.now c.requires in
    let many = length_of_entries declared list c.entries-entries.ensures in
    let within : place < length list = c.loop-place-test.true in
    merge_more (finmap.entries declared) c.args.values.now place (get_or list place c.index-entries-place.result).name.now c.index-values-place.result
    (map entry_of c.loop-place.list.items) (map entry_of c.push_before.new.list.items) (map entry_of c.push_value.new.list.items) (map entry_of c.loop-place.left.now) (map entry_of c.in_ok-left.left.now)
    (whole_of declared c.args.inherited.now c.args.values.now)
    (omega arith) long (name_of_entry declared list place c.index-entries-place.result c.entries-entries.ensures within) (get_or_read c.args.values.now place c.index-values-place.result (omega arith) c.index-values-place.is None)
    c.in_ok-left.ensures.pushed c.in_ok-left.ensures.behind c.in_ok-push_value.ensures c.loop-place.invariant

pub of_entries-requires : goal.of_entries-requires
of_entries-requires c =
    let declared = c.args.declared.now in
    let ds = with_values (finmap.entries declared) c.args.values.now in
    let long = length_of_values declared c.args.inherited.now c.args.values.now c.requires in
    let lengths = length-with_values (finmap.entries declared) c.args.values.now long in
    let many = length_of_entries declared c.entries-entries.result.now c.entries-entries.ensures in
    list_sorted declared c.args.inherited.now (map entry_of c.push_all.new.list.items) c.args.values.now
    (c.in_ok-push_all.ensures ∙ (ap (λ l. map entry_of c.loop-place.list.items ++ merged l (map entry_of c.loop-place.left.now)) (sym (drop_all c.loop-place.place ds (omega arith))) ∙ c.loop-place.invariant))

pub returns : goal.returns
returns c =
    let declared = c.args.declared.now in
    let ds = with_values (finmap.entries declared) c.args.values.now in
    let long = length_of_values declared c.args.inherited.now c.args.values.now c.requires in
    let lengths = length-with_values (finmap.entries declared) c.args.values.now long in
    let many = length_of_entries declared c.entries-entries.result.now c.entries-entries.ensures in
    subst (λ x. IfOk c.of_entries.result (λ m. m ≡ x))
    (whole_resolved declared c.args.inherited.now (map entry_of c.push_all.new.list.items)
    (c.in_ok-push_all.ensures ∙ (ap (λ l. map entry_of c.loop-place.list.items ++ merged l (map entry_of c.loop-place.left.now)) (sym (drop_all c.loop-place.place ds (omega arith))) ∙ (c.loop-place.invariant ∙ ap (whole_of declared c.args.inherited.now) c.requires))))
    c.of_entries.ensures
