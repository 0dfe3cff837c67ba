-- The labels of nodes: the id of a value, and the labels so far after one more.
use Rattle.std.proofs.Common.{◌≡◌, ℕ, suc, ◌+◌, ◌<◌, ◌==◌, Bool, cond, sym, ap, ◌∙◌, subst, subst₂, refl, arith, inl, inr}
use Rattle.std.proofs.Common.{List, [], ◌∷◌, ◌++◌, length, codes, Option, Some, None, IfSome, option_map, option_and_then, unwrap_or, slice_get}
use Rattle.std.specs.FinMap as finmap
use Rattle.std.specs.Str.{chars, IsUtf8}
use Rattle.std.proofs.lemmas.Bool.{cases_eq, ne_eqb}
use Rattle.std.proofs.lemmas.List.{length_push}
use Rattle.std.proofs.lemmas.Option.{IfSome_then, slice_get_within}
use Rattle.std.proofs.lemmas.Str.{chars-nil, IsUtf8-nil}
use Rattle.base_model.specs.Text.{is_empty_text, same_text}
use Rattle.base_model.proofs.Lists.{get_push_below, get_push_last, slice_get_some}
use Rattle.stylo_base.proofs.TextLemmas.{same_test}
use Rattle.scene_model.specs.Element.{Characters}
use Rattle.scene_model.specs.Nodes.{Node}
use Rattle.dom_tree.specs.declared.labels.Label.{Label}
use Rattle.dom_tree.specs.Classes.{list_of}
use Rattle.dom_tree.specs.Kept.{Table, text_of}
use Rattle.dom_tree.specs.Labels.{AreCuts, IsLabel, IsLabelOf, KeepsLists, class_words, id_text}
use Rattle.dom_tree.proofs.ColumnLemmas.{AtIndex}
use Rattle.dom_tree.proofs.NameLemmas.{text_is}
use Rattle.dom_tree.proofs.Parts.{Lists, Cuts}
use Rattle.dom_tree.proofs.Places.{at_some, if_some}

no_length : (b : List ℕ) → is_empty_text b ≡ (length b == 0)
no_length [] = refl
no_length (c ∷ b) = sym (ne_eqb (suc (length b)) 0 (λ e. omega arith))

-- a text is empty where it has no bytes
pub empty_test : (b : List ℕ) (e : Bool) → IsUtf8 b → e ≡ (length b == 0) → is_empty_text (chars b) ≡ e
empty_test b e u h = sym (same_test b [] u IsUtf8-nil ∙ ap (same_text (chars b)) chars-nil) ∙ (no_length b ∙ sym h)

-- the id of a value, whose text was asked whether it is empty
pub id_among-is : (names : List Characters) (b : List ℕ) {name : ℕ} {value : Option ℕ} {e empty : Bool} → value ≡ Some name → slice_get names name ≡ Some (chars b) → IsUtf8 b
    → e ≡ (length b == 0) → e ≡ empty → cond empty None (Some (text_of names name)) ≡ option_and_then id_text (option_map (text_of names) value)
id_among-is names b {name} {value} {e} is at u h f =
    ap (λ c. cond c None (Some (text_of names name))) (sym (ap is_empty_text (text_is names name (chars b) at) ∙ (empty_test b e u h ∙ f)))
    ∙ sym (ap (λ v. option_and_then id_text (option_map (text_of names) v)) is)

-- lists that were appended stay

index_kept : (old new : Lists) (index : Option ℕ) → KeepsLists old new → IfSome index (λ k. k < length old) → (list_of new index ≡ list_of old index) × IfSome index (λ k. k < length new)
index_kept old new None kept h = (refl, tt)
index_kept old new (Some k) kept h =
    let (list, at) = slice_get_some old k h in
    (ap (λ o. unwrap_or o []) (kept k list at) ∙ sym (ap (λ o. unwrap_or o []) at), slice_get_within new k list (kept k list at))

pub label_kept : {old new : Lists} {names : List Characters} {node : Node} {label : Label} → KeepsLists old new → IsLabel names old node label → IsLabel names new node label
label_kept {old} {new} {label = label} kept is =
    let (same, within) = index_kept old new label.classes kept is.listed in
    record { id = is.id; named = is.named; classes = same ∙ is.classes; listed = within }

-- the label at an index is that of the node there

abbrev pub LabelledAt : Table → Lists → List Label → ℕ → Type 0
LabelledAt table lists labels i = IfSome (slice_get labels i) (λ label. AtIndex table i (IsLabelOf table.names lists label))

module _ (table : Table) (lists : Lists) (labels : List Label) (i : ℕ) where
  pub labelled_at : {label : Label} {node : Node} → slice_get labels i ≡ Some label → slice_get table.nodes i ≡ Some node → IsLabel table.names lists node label → LabelledAt table lists labels i
  labelled_at {label} there at is =
      if_some (λ label. AtIndex table i (IsLabelOf table.names lists label)) there (if_some (IsLabelOf table.names lists label) at is)

  -- where it is the same label of the same node
  pub still_labelled : (later : Table) (longer : Lists) (relabelled : List Label) → slice_get relabelled i ≡ slice_get labels i → slice_get later.nodes i ≡ slice_get table.nodes i
      → ((label : Label) (node : Node) → IsLabel table.names lists node label → IsLabel later.names longer node label) → LabelledAt table lists labels i → LabelledAt later longer relabelled i
  still_labelled later longer relabelled e f more h =
      subst₂ (λ o q. IfSome o (λ label. IfSome q (IsLabelOf later.names longer label))) (sym e) (sym f)
      (IfSome_then (slice_get labels i) h (λ label is. IfSome_then (slice_get table.nodes i) is (more label)))

-- the value of an attribute of the node at an index
abbrev pub HasValue : Table → ℕ → Characters → Option ℕ → Type 0
HasValue table k name value = AtIndex table k (λ node. option_map (text_of table.names) value ≡ finmap.get node.attrs name)

abbrev pub id_name : Characters
id_name = chars (codes "id")

abbrev pub class_name : Characters
class_name = chars (codes "class")

-- the labels so far, and the lists that were cut for them
pub record AreLabelsSoFar (table : Table) (lists : Lists) (labels : List Label) (cuts : Cuts) (k : ℕ) : Type 0 where
  pub count : length labels ≡ k
  pub cuts_of : AreCuts table.names lists cuts
  pub each : (i : ℕ) → i < length labels → LabelledAt table lists labels i

-- a label that was made of a value of `id` and one of `class`
pub record IsMadeOf (names : List Characters) (lists : Lists) (id value : Option ℕ) (label : Label) : Type 0 where
  pub id_is : option_map (text_of names) label.id ≡ option_and_then id_text (option_map (text_of names) id)
  pub named : IfSome label.id (λ name. name < length names)
  pub list_is : list_of lists label.classes ≡ class_words (option_map (text_of names) value)
  pub listed : IfSome label.classes (λ n. n < length lists)

-- after one more
module _ {table : Table} {old : Lists} {labels : List Label} {cuts : Cuts} {k : ℕ} (so_far : AreLabelsSoFar table old labels cuts k) where
  pub labels_next : {new : Lists} {names : List Characters} {id value : Option ℕ} {label : Label} {longer : List Label} {recut : Cuts}
      → KeepsLists old new → k < length table.nodes → names ≡ table.names → IsMadeOf names new id value label
      → HasValue table k id_name id → HasValue table k class_name value → AreCuts names new recut → longer ≡ labels ++ label ∷ [] → AreLabelsSoFar table new longer recut (k + 1)
  labels_next {new = new} {id = id} {value = value} {label = label} {recut = recut} kept l same named is_id is_class cut e =
      let (node, at) = slice_get_some table.nodes k l in
      let made = subst (λ n. IsMadeOf n new id value label) same named in
      let is : IsLabel table.names new node label = record {
        id = made.id_is ∙ ap (option_and_then id_text) (at_some (λ (node : Node). option_map (text_of table.names) id ≡ finmap.get node.attrs id_name) at is_id);
        named = made.named;
        classes = made.list_is ∙ ap class_words (at_some (λ (node : Node). option_map (text_of table.names) value ≡ finmap.get node.attrs class_name) at is_class);
        listed = made.listed;
      } in
      record {
        count = omega (arith, ap length e, length_push labels label, so_far.count);
        cuts_of = subst (λ n. AreCuts n new recut) same cut;
        each = λ i h. elim (cases_eq i k) [
          | inl f ↦ labelled_at table new _ i (ap (λ l. slice_get l i) e ∙ get_push_last labels i label (f ∙ sym so_far.count)) (ap (slice_get table.nodes) f ∙ at) is
          | inr f ↦
              let below : i < length labels = omega (arith, h, ap length e, length_push labels label, so_far.count) in
              still_labelled table old labels i table new _ (ap (λ l. slice_get l i) e ∙ get_push_below labels i label below) refl (λ label node was. label_kept kept was) (so_far.each i below)
        ];
      }
