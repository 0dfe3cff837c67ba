-- The edits that the items of a batch say.
use Rattle.std.proofs.Common.{◌≡◌, ◌+◌, List, [], ◌∷◌, ◌++◌, Option, Some, None, Ok, option_map, refl, sym, ap, ◌∙◌}
use Rattle.std.proofs.lemmas.List.{length_push}
use Rattle.serde_json.specs.Data.{Data, Items, Members}
use Rattle.serde_json.specs.Find.{as_array}
use Rattle.serde_json.specs.View.{items_of}
use Rattle.scene_model.specs.Element.{Characters}
use Rattle.stylo_base.specs.StateView.{state_seen}
use Rattle.stylo_base.specs.declared.state.State.{State}
use Rattle.stylo_base.specs.declared.state.State.TheVariants.{Hover, Active, Focus}
use Rattle.dom_edits.specs.declared.edits.Edit.{Edit}
use Rattle.job_json.specs.declared.edit.EditParts.{EditParts}
use Rattle.job_json.specs.declared.edit_items.EditItems.{EditItems}
use Rattle.job_json.specs.Checked.{Checked, ◌>>=◌, wanted}
use Rattle.job_json.specs.Shape.{items_in}
use Rattle.job_json.specs.Edits.{state_answered, edit_of, edit_in, batch_in}
use Rattle.job_json.specs.Kept.{AreRead, bad_or}
use Rattle.job_json.specs.KeptEdits.{IsEditOf, edit_kept, HasEdits, AreEditsOf, KeepsEdit}

-- the edit of the members
pub edit_is : (s : EditParts) (ms : Members) → IsEditOf s ms → edit_of ms ≡ edit_kept s
edit_is s ms kept =
    let input = kept.input in
    sym (rw (kept.op, kept.node, kept.parent, kept.index, kept.nodes, kept.name, kept.value, kept.state, kept.on, kept.sheet, input.origin, input.enabled, input.text) refl)

pub answered_seen : (o : Option State) → option_map state_answered (option_map state_seen o) ≡ o
answered_seen None = refl
answered_seen (Some Hover) = refl
answered_seen (Some Active) = refl
answered_seen (Some Focus) = refl

-- ---- one more edit

pub one_edit : (old new : EditItems) (edit : Edit) (edits : List Edit) → HasEdits old edits → KeepsEdit old edit new → HasEdits new (edits ++ edit ∷ [])
one_edit old new edit edits has keeps = record {
  count = length_push edits edit ∙ (ap (λ n. n + 1) has.count ∙ sym keeps.count);
  kept = keeps.list ∙ ap (λ l. l ++ edit ∷ []) has.kept;
}

-- ---- the whole batch

abbrev of_items : Option Items → Checked (List Edit)
of_items items = wanted items >>= items_in (λ k. edit_in) 0

by_read : (bad : Option Characters) (s : EditItems) (ds : List Data) → AreRead (λ k. edit_in) bad (HasEdits s) ds → items_in (λ k. edit_in) 0 (items_of ds) ≡ bad_or bad s.list.items
by_read None s ds kept = kept.1 ∙ ap (λ l. Ok l) (sym (kept.2).kept)
by_read (Some path) s ds kept = kept

pub edits_end : (d : Data) (ds : List Data) (s : EditItems) → as_array d ≡ Some (items_of ds) → AreEditsOf s ds → batch_in d ≡ bad_or s.bad s.list.items
edits_end d ds s is kept = ap of_items is ∙ by_read s.bad s ds kept
