-- Labels once there are more names and class lists, and once a node is changed.
use Rattle.std.proofs.Common.{◌≡◌, ℕ, ◌<◌, List, length, Option, Some, None, IfSome, option_and_then, option_map, slice_get, slice_set, sym, ap, ◌∙◌, subst, refl, arith, inl, inr}
use Rattle.std.specs.FinMap as finmap
use Rattle.std.proofs.lemmas.Bool.{cases_eq}
use Rattle.std.proofs.lemmas.List.{length-set}
use Rattle.std.proofs.lemmas.Option.{slice_get_within}
use Rattle.base_model.proofs.Lists.{slice_get_some}
use Rattle.scene_model.specs.Element.{Characters}
use Rattle.scene_model.specs.Nodes.{Node}
use Rattle.dom_tree.specs.declared.labels.Label.{Label}
use Rattle.dom_tree.specs.Kept.{KeepsTexts, Table, put_node, text_of}
use Rattle.dom_tree.specs.Labels.{AreLabels, IsLabel, IsLabelOf, KeepsLists, class_words, id_text}
use Rattle.dom_tree.proofs.ChangeLemmas.{length-put, put_is}
use Rattle.dom_tree.proofs.ColumnLemmas.{AtIndex}
use Rattle.dom_tree.proofs.LabelLemmas.{class_name, id_name, label_kept, labelled_at, still_labelled}
use Rattle.dom_tree.proofs.NameLemmas.{below_more_names, text_kept}
use Rattle.dom_tree.proofs.Parts.{Lists}
use Rattle.dom_tree.proofs.Places.{at_some, get_set_same, get_set_other, set_same}

id_kept : (names more : List Characters) (id : Option ℕ) → KeepsTexts names more → IfSome id (λ n. n < length names)
    → (option_map (text_of more) id ≡ option_map (text_of names) id) × IfSome id (λ n. n < length more)
id_kept names more None kept l = (refl, tt)
id_kept names more (Some n) kept l = (ap Some (text_kept names more n kept l), below_more_names names more n kept l)

pub label_more : {names more : List Characters} {lists longer : Lists} {node : Node} {label : Label} → KeepsTexts names more → KeepsLists lists longer
    → IsLabel names lists node label → IsLabel more longer node label
label_more {names} {more} {label = label} kept also is =
    let listed = label_kept also is in
    let (same, named) = id_kept names more label.id kept is.named in
    record { id = same ∙ is.id; named = named; classes = listed.classes; listed = listed.listed }

module _ {table later : Table} {lists longer : Lists} {labels : List Label} (are : AreLabels table lists labels) (kept : KeepsTexts table.names later.names) (also : KeepsLists lists longer) where
  -- of the same nodes
  pub labels_more : later.nodes ≡ table.nodes → AreLabels later longer labels
  labels_more e = record {
    count = are.count ∙ ap length (sym e);
    each = λ i l. still_labelled table lists labels i later longer labels refl (ap (λ nodes. slice_get nodes i) e) (λ label node is. label_more kept also is) (are.each i l);
  }

  -- and of one node that is changed
  pub labels_put : (f : Node → Node) (k : ℕ) {node : Node} {label : Label} → slice_get table.nodes k ≡ Some node → later.nodes ≡ put_node k f table.nodes → IsLabel later.names longer (f node) label
      → AreLabels later longer (slice_set labels k label)
  labels_put f k {node} {label} at e is = record {
    count = length-set labels k label ∙ (are.count ∙ sym (ap length e ∙ length-put f k table.nodes));
    each = λ i l. (let nodes = λ (j : ℕ). ap (λ l. slice_get l j) (e ∙ put_is f k table.nodes node at) in
        let within = slice_get_within table.nodes k node at in
        elim (cases_eq i k) [
          | inl h ↦
              labelled_at later longer (slice_set labels k label) i (ap (slice_get (slice_set labels k label)) h ∙ get_set_same labels k label (omega (arith, within, are.count)))
              (ap (slice_get later.nodes) h ∙ (nodes k ∙ get_set_same table.nodes k (f node) within)) is
          | inr n ↦
              still_labelled table lists labels i later longer (slice_set labels k label) (get_set_other labels k i label (λ h. n (sym h)))
              (nodes i ∙ get_set_other table.nodes k i (f node) (λ h. n (sym h))) (λ label node was. label_more kept also was) (are.each i (omega (arith, l, length-set labels k label)))
        ]);
  }

-- a change that keeps the attributes keeps the labels
pub labels_stay : (f : Node → Node) (k : ℕ) {table later : Table} {lists : Lists} {labels : List Label} {node : Node} → ((node : Node) → (f node).attrs ≡ node.attrs) → AreLabels table lists labels
    → KeepsTexts table.names later.names → slice_get table.nodes k ≡ Some node → later.nodes ≡ put_node k f table.nodes → AreLabels later lists labels
labels_stay f k {table} {later} {lists} {labels} {node} same are kept at e =
    let l : k < length labels = omega (arith, slice_get_within table.nodes k node at, are.count) in
    let (label, there) = slice_get_some labels k l in
    let is = at_some (IsLabelOf table.names lists label) at (at_some (λ label. AtIndex table k (IsLabelOf table.names lists label)) there (are.each k l)) in
    let more = label_more kept (λ n list h. h) is in
    subst (AreLabels later lists) (set_same labels k label there) (labels_put are kept (λ n list h. h) f k at e (record {
      id = more.id ∙ ap (λ a. option_and_then id_text (finmap.get a id_name)) (sym (same node));
      named = more.named;
      classes = more.classes ∙ ap (λ a. class_words (finmap.get a class_name)) (sym (same node));
      listed = more.listed;
    }))
