-- The labels of the nodes of a list, among the names of other columns.
use Rattle.std.proofs.Common.{◌≡◌, ℕ, ◌+◌, ◌<◌, List, [], ◌∷◌, ◌++◌, length, take, Option, Some, None, IfSome, option_and_then, option_map, slice_get, sym, ap, ◌∙◌, subst, refl, inl, inr, arith}
use Rattle.std.specs.List.{AllByRecursion}
use Rattle.std.specs.FinMap as finmap
use Rattle.std.proofs.lemmas.Bool.{cases_eq}
use Rattle.std.proofs.lemmas.List.{length_push}
use Rattle.std.proofs.lemmas.Option.{slice_get_within}
use Rattle.std.proofs.Math.Seq.{take-length}
use Rattle.base_model.proofs.Lists.{each-append, get_push_below, get_push_last, slice_get_some}
use Rattle.stylo_base.specs.NameList.{StandOnce}
use Rattle.scene_model.specs.Element.{Characters}
use Rattle.scene_model.specs.Nodes.{Node}
use Rattle.scene_model.proofs.Lists.{each_weaker}
use Rattle.dom_tree.specs.declared.labels.Label.{Label}
use Rattle.dom_tree.specs.Kept.{IsNameOf, KeepsTexts, Table, text_of}
use Rattle.dom_tree.specs.Classes.{list_of}
use Rattle.dom_tree.specs.Labels.{AreCuts, AreLabels, HasMore, IsLabel, KeepsLists, class_words, id_text}
use Rattle.dom_tree.specs.SiblingPlaces.{HasNameBelow}
use Rattle.dom_tree.proofs.CutLemmas.{cuts_more}
use Rattle.dom_tree.proofs.LabelLemmas.{HasValue, IsMadeOf, LabelledAt, class_name, id_name, labelled_at, still_labelled}
use Rattle.dom_tree.proofs.NameLemmas.{KeepsTexts-more, below_more_names, text_is, text_kept}
use Rattle.dom_tree.proofs.Parts.{Cuts, Lists}
use Rattle.dom_tree.proofs.Places.{at_some, if_some, item_at, taken}
use Rattle.dom_tree.proofs.RelabelLemmas.{label_more}

-- a name of a text that had one

pub renamed_text : (from names : List Characters) (old new : ℕ) {text : Characters} → slice_get names new ≡ Some text → slice_get from old ≡ Some text
    → Some (text_of names new) ≡ Some (text_of from old)
renamed_text from names old new {text} at was = ap Some (text_is names new text at ∙ sym (text_is from old text was))

abbrev pub IsNamed : List Characters → Node → Type 0
IsNamed names node = HasNameBelow names (length names) node.tag

pub tag_renamed : (list : List Node) (k tag new : ℕ) (from names : List Characters) {text : Characters} → k < length list → IfSome (slice_get list k) (λ node. text_of from tag ≡ node.tag)
    → slice_get from tag ≡ Some text → slice_get names new ≡ Some text → IfSome (slice_get list k) (IsNamed names)
tag_renamed list k tag new from names {text} l told was at =
    let (node, here, e) = item_at list k (λ (node : Node). text_of from tag ≡ node.tag) l told in
    if_some (IsNamed names) here (new, slice_get_within names new text at, at ∙ ap Some (sym (text_is from tag text was) ∙ e))

pub tag_still : (old new : List Characters) (list : List Node) (k : ℕ) → KeepsTexts old new → k < length list → IfSome (slice_get list k) (IsNamed old) → IfSome (slice_get list k) (IsNamed new)
tag_still old new list k kept l named =
    let (node, here, (name, below, at)) = item_at list k (IsNamed old) l named in
    if_some (IsNamed new) here (name, below_more_names old new name kept below, kept name below ∙ at)

-- a label of values that were renamed
pub label_renamed : (from : List Characters) {names : List Characters} {lists : Lists} (nodes : List Node) {k : ℕ} (read asked : Option ℕ) {id value : Option ℕ} {label : Label} → k < length nodes
    → IsMadeOf names lists id value label
    → option_map (text_of names) id ≡ option_map (text_of from) read → option_map (text_of names) value ≡ option_map (text_of from) asked
    → HasValue (record { names = from; nodes = nodes }) k id_name read → HasValue (record { names = from; nodes = nodes }) k class_name asked
    → IfSome (slice_get nodes k) (λ node. IsLabel names lists node label)
label_renamed from {names} {lists} nodes {k} read asked {label = label} l made same alike is_id is_class =
    let (node, at) = slice_get_some nodes k l in
    if_some (λ (node : Node). IsLabel names lists node label) at (record {
      id = made.id_is ∙ ap (option_and_then id_text) (same ∙ at_some (λ (node : Node). option_map (text_of from) read ≡ finmap.get node.attrs id_name) at is_id);
      named = made.named;
      classes = made.list_is ∙ ap class_words (alike ∙ at_some (λ (node : Node). option_map (text_of from) asked ≡ finmap.get node.attrs class_name) at is_class);
      listed = made.listed;
    })

-- the labels so far
pub record AreMoreSoFar (first : List Characters) (cut : Lists) (nodes : List Node) (k : ℕ) (names : List Characters) (lists : Lists) (cuts : Cuts) (labels : List Label) : Type 0 where
  pub more : HasMore first cut names lists cuts
  pub count : length labels ≡ k
  pub each : (i : ℕ) → i < length labels → LabelledAt (record { names = names; nodes = nodes }) lists labels i
  pub tags : AllByRecursion (IsNamed names) (take k nodes)

pub no_labels : {names : List Characters} {lists : Lists} {cuts : Cuts} (nodes : List Node) {labels : List Label} → HasMore names lists names lists cuts → labels ≡ []
    → AreMoreSoFar names lists nodes 0 names lists cuts labels
no_labels {names} {lists} {cuts} nodes more none = subst (AreMoreSoFar names lists nodes 0 names lists cuts) (sym none) (record {
  more = more;
  count = refl;
  each = λ i l. absurd (omega
      (arith, l));
  tags = tt;
})

pub HasMore-more : {names mid later : List Characters} {lists longer last : Lists} {cuts recut : Cuts} → HasMore names lists mid longer cuts → HasMore mid longer later last recut
    → HasMore names lists later last recut
HasMore-more {names} {mid} {later} a b = record { texts = KeepsTexts-more names mid later a.texts b.texts; once = b.once; also = λ k list h. b.also k list (a.also k list h); cut = b.cut }

pub label_next : {first old new : List Characters} {cut lists longer : Lists} {nodes : List Node} {k : ℕ} {cuts recut : Cuts} {labels made : List Label} (label : Label)
    → AreMoreSoFar first cut nodes k old lists cuts labels → k < length nodes → HasMore old lists new longer recut → IfSome (slice_get nodes k) (λ node. IsLabel new longer node label)
    → IfSome (slice_get nodes k) (IsNamed new) → made ≡ labels ++ label ∷ [] → AreMoreSoFar first cut nodes (k + 1) new longer recut made
label_next {first} {old} {new} {lists = lists} {longer} {nodes} {k} {labels = labels} {made} label so_far l more is tag e =
    let (node, at, own) = item_at nodes k (λ (node : Node). IsLabel new longer node label) l is in
    let table : Table = record { names = old; nodes = nodes } in
    let later : Table = record { names = new; nodes = nodes } in
    let named : AllByRecursion (IsNamed new) (take k nodes) =
    each_weaker (IsNamed old) (IsNamed new) (λ node (name, below, at). (name, below_more_names old new name more.texts below, more.texts name below ∙ at)) (take k nodes) so_far.tags in
    record {
      more = HasMore-more so_far.more more;
      count = ap length e ∙ (length_push labels label ∙ ap (λ n. n + 1) so_far.count);
      each = λ i h. elim (cases_eq i k) [
        | inl f ↦ labelled_at later longer made i (ap (λ l. slice_get l i) e ∙ get_push_last labels i label (f ∙ sym so_far.count)) (ap (slice_get nodes) f ∙ at) own
        | inr f ↦
            let below : i < length labels = omega (arith, h, ap length e, length_push labels label, so_far.count, f) in
            still_labelled table lists labels i later longer made (ap (λ l. slice_get l i) e
            ∙ get_push_below labels i label below) refl (λ label node was. label_more more.texts more.also was) (so_far.each i below)
      ];
      tags = subst (AllByRecursion (IsNamed new)) (sym (taken nodes k node at)) (each-append (IsNamed new) (take k nodes) (node ∷ []) named (at_some (IsNamed new) at tag, tt));
    }

-- what was interned, and what was cut

pub only_names : {names later : List Characters} {lists : Lists} {cuts : Cuts} → KeepsTexts names later → StandOnce later → AreCuts names lists cuts → HasMore names lists later lists cuts
only_names kept once cut = record { texts = kept; once = once; also = λ k list h. h; cut = cuts_more kept (λ k list h. h) cut }

pub cut_more : {names later shown : List Characters} {lists longer : Lists} {recut : Cuts} → KeepsTexts names later → StandOnce later → shown ≡ later → KeepsLists lists longer
    → AreCuts shown longer recut
    → HasMore names lists later longer recut
cut_more {longer = longer} {recut = recut} kept once same also cut = record { texts = kept; once = once; also = also; cut = subst (λ n. AreCuts n longer recut) same cut }

-- all of them
pub all_labels : {first names : List Characters} {cut lists : Lists} {cuts : Cuts} {nodes : List Node} {k : ℕ} {labels : List Label} → AreMoreSoFar first cut nodes k names lists cuts labels
    → k ≡ length nodes
    → AreLabels (record { names = names; nodes = nodes }) lists labels
all_labels so_far e = record { count = so_far.count ∙ e; each = so_far.each }

pub all_tags : {first names : List Characters} {cut lists : Lists} {cuts : Cuts} {nodes : List Node} {k : ℕ} {labels : List Label} → AreMoreSoFar first cut nodes k names lists cuts labels
    → k ≡ length nodes
    → AllByRecursion (IsNamed names) nodes
all_tags {names = names} {nodes = nodes} {k} so_far e = subst (AllByRecursion (IsNamed names)) (ap (λ n. take n nodes) e ∙ take-length nodes) so_far.tags

-- names that are known

pub name_within : (names : List Characters) (text : Characters) (name : Option ℕ) → IsNameOf names text name → IfSome name (λ n. n < length names)
name_within names text None h = tt
name_within names text (Some n) h = slice_get_within names n text h

pub some_within : (old new : List Characters) (name : Option ℕ) → KeepsTexts old new → IfSome name (λ n. n < length old) → IfSome name (λ n. n < length new)
some_within old new None kept h = tt
some_within old new (Some n) kept h = below_more_names old new n kept h

pub some_kept : (old new : List Characters) (name : Option ℕ) → KeepsTexts old new → IfSome name (λ n. n < length old) → option_map (text_of new) name ≡ option_map (text_of old) name
some_kept old new None kept h = refl
some_kept old new (Some n) kept h = ap Some (text_kept old new n kept h)

-- what a label was made of, as it was lent
pub made_of : {names first second : List Characters} {lists : Lists} {id value : Option ℕ} {label : Label} → first ≡ names → second ≡ names
    → option_map (text_of first) label.id ≡ option_and_then id_text (option_map (text_of first) id) → IfSome label.id (λ n. n < length first)
    → list_of lists label.classes ≡ class_words (option_map (text_of second) value) → IfSome label.classes (λ n. n < length lists) → IsMadeOf names lists id value label
made_of {lists = lists} {id} {value} {label} e f a b c d = record {
  id_is = subst (λ n. option_map (text_of n) label.id ≡ option_and_then id_text (option_map (text_of n) id)) e a;
  named = subst (λ n. IfSome label.id (λ name. name < length n)) e b;
  list_is = subst (λ n. list_of lists label.classes ≡ class_words (option_map (text_of n) value)) f c;
  listed = d;
}
