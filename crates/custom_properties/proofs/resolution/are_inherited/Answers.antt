use Rattle.std.proofs.Common.{◌<◌, length, None, below_more, refl, sym, ap, ◌∙◌, arith}
use Rattle.std.specs.FinMap as finmap
use Rattle.std.proofs.lemmas.List.{get_or_read}
use Rattle.custom_properties.proofs.EntryLemmas.{length_of_entries, name_of_entry}
use Rattle.custom_properties.proofs.MergedLemmas.{inherited_each, inherited_whole, length_of_values}
use Rattle.custom_properties.proofs.resolution.are_inherited.Goals as goal

pub loop-place-preserved : goal.loop-place-preserved
loop-place-preserved c =
    let declared = c.args.declared.now in
    let list = c.entries-entries.result.now in
    let place = c.loop-place.place in
    let long = length_of_values declared c.args.inherited.now c.args.values.now c.requires in
    let many = length_of_entries declared list c.entries-entries.ensures in
    let within : place < length list = c.loop-place-test.true in
    below_more _ _ c.loop-place.invariant
    (ap (finmap.get c.args.inherited.now) (sym (name_of_entry declared list place c.index-entries-place.result c.entries-entries.ensures within))
    ∙ (ap (finmap.get c.args.inherited.now) (sym c.as_str.ensures)
    ∙ (sym c.get.ensures
    ∙ (c.is_same.ensures.0 c.if-not-is_same.false
    ∙ get_or_read c.args.values.now place c.index-values-place.result (omega arith) c.index-values-place.is None))))

pub returns-then-not-is_same : goal.returns-then-not-is_same
returns-then-not-is_same c =
    let declared = c.args.declared.now in
    let list = c.entries-entries.result.now in
    let place = c.loop-place.place in
    let long = length_of_values declared c.args.inherited.now c.args.values.now c.requires in
    let many = length_of_entries declared list c.entries-entries.ensures in
    let within : place < length list = c.loop-place-test.true in (
      λ t. cc,
      λ e.
          let same =
          c.is_same.ensures.1
          (c.get.ensures
          ∙ (ap (finmap.get c.args.inherited.now) c.as_str.ensures
          ∙ (ap (finmap.get c.args.inherited.now) (name_of_entry declared list place c.index-entries-place.result c.entries-entries.ensures within)
          ∙ (inherited_each declared c.args.inherited.now c.args.values.now c.requires e place (omega arith)
          ∙ sym (get_or_read c.args.values.now place c.index-values-place.result (omega arith) c.index-values-place.is None))))) in
          cc,
    )

pub returns : goal.returns
returns c =
    let many = length_of_entries c.args.declared.now c.entries-entries.result.now c.entries-entries.ensures in (
      λ _. inherited_whole c.args.declared.now c.args.inherited.now c.args.values.now c.requires (λ k within. c.loop-place.invariant k (omega arith)),
      λ _. refl,
    )
