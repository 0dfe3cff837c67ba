-- What is kept answers what is asked of an element.
use Rattle.std.proofs.Common.{◌≡◌, ◌↔◌, ℕ, ◌+◌, ◌-◌, ◌<◌, ◌≤◌, ◌&&◌, Bool, IsTrue, true, false, cond, not, Fits, w32, sym, ap, ◌∙◌, subst, subst₂, refl, arith}
use Rattle.std.proofs.Common.{List, [], length, codes, Option, Some, None, option_map, option_and_then, is_some, unwrap_or, slice_get, get_or}
use Rattle.std.specs.FinMap as finmap
use Rattle.std.specs.Option.{option_map_or}
use Rattle.std.specs.Str.{chars}
use Rattle.std.proofs.lemmas.List.{length-map}
use Rattle.std.proofs.lemmas.Option.{same_Some}
use Rattle.base_model.specs.Limits.{element_limit}
use Rattle.base_model.specs.Text.{is_empty_text, same_text}
use Rattle.base_model.proofs.Lists.{slice_get_some}
use Rattle.stylo_base.proofs.TextLemmas.{chars-ascii}
use Rattle.scene_model.specs.Document.{Document}
use Rattle.scene_model.specs.Element.{Element, Characters, State, States, has_state}
use Rattle.scene_model.specs.Lookups.{attribute_of, attributes_of, element_at, is_element, IsElement, parent_of, state_of, tag_of}
use Rattle.scene_model.specs.Nodes.{Node, listed}
use Rattle.scene_model.proofs.Found.{is_element-at, element_at-filter_map}
use Rattle.scene_model.proofs.Listed.{numbered, element_at-listed_some}
use Rattle.scene_model.proofs.Numbers.{is_in}
use Rattle.dom_tree.specs.declared.labels.Label.{Label}
use Rattle.dom_tree.specs.Classes.{list_of}
use Rattle.dom_tree.specs.ElementNames.{AreNamesOf}
use Rattle.dom_tree.specs.Kept.{text_of}
use Rattle.dom_tree.specs.Labels.{IsLabel, class_words, id_text}
use Rattle.dom_tree.specs.Whole.{IsWhole, Parts, in_order}
use Rattle.dom_tree.proofs.ColumnLemmas.{AtIndex}
use Rattle.dom_tree.proofs.Parts.{AreSeenAs}
use Rattle.dom_tree.proofs.Places.{at_some, read_at}

kept_some : {X : Type 0} (b : Bool) (o : Option X) → is_some (cond b o None) ≡ true → cond b o None ≡ o
kept_some true o h = refl
kept_some false o h = absurd (cc)

pub element_at-in_order : (nodes : List Node) (order : List ℕ) (x : ℕ) → IsElement (in_order nodes order) x → element_at (in_order nodes order) x ≡ element_at (listed nodes) x
unfolding in_order
element_at-in_order nodes order x h =
    let at = element_at-filter_map (listed nodes) order x in
    at ∙ kept_some (is_in x order) (element_at (listed nodes) x) (ap is_some (sym at) ∙ (sym (is_element-at (in_order nodes order) x) ∙ h))

module _ {p : Parts} {now : Document} (whole : IsWhole p) (view : AreSeenAs p now) (x : ℕ) (is : IsElement now.elements x) where
  there : IsElement (in_order p.table.nodes p.order) x
  there = ap (λ (d : Document). is_element d.elements x) view ∙ is

  -- the number of an element
  pub within : (0 < x) × (x ≤ length p.table.nodes)
  within = whole.sound.given x there

  -- its node, and what is known of it
  pub its_node : (node : Node) × (slice_get p.table.nodes (x - 1) ≡ Some node)
  its_node = slice_get_some p.table.nodes (x - 1) (omega (arith, within.0, within.1))

  abbrev pub node : Node
  node = its_node.0

  pub node_at : slice_get p.table.nodes (x - 1) ≡ Some node
  node_at = its_node.1

  pub told : (P : Node → Type 0) → AtIndex p.table (x - 1) P → P node
  told P h = at_some P node_at h

  found : element_at now.elements x ≡ Some (numbered (x - 1) node)
  found =
      let back : x - 1 + 1 ≡ x = omega (arith, within.0) in
      ap (λ (d : Document). element_at d.elements x) (sym view) ∙ (element_at-in_order p.table.nodes p.order x there
      ∙ (ap (element_at (listed p.table.nodes)) (sym back) ∙ element_at-listed_some p.table.nodes (x - 1) node node_at))

  pub tag_is : {text : Characters} → AtIndex p.table (x - 1) (λ node. text ≡ node.tag) → text ≡ tag_of now.elements x
  tag_is {text} h = told (λ node. text ≡ node.tag) h ∙ sym (ap (λ o. unwrap_or (option_map (λ (e : Element). e.tag) o) []) found)

  pub parent_is : {read parent : Option ℕ} → read ≡ parent → AtIndex p.table (x - 1) (λ node. read ≡ node.parent) → option_map (λ p. p + 1) parent ≡ parent_of now.elements x
  parent_is {read} e h =
      ap (option_map (λ p. p + 1)) (sym e ∙ told (λ node. read ≡ node.parent) h) ∙ sym (ap (option_and_then (λ (e : Element). e.parent)) found)

  -- it is an element's, so a number follows it
  pub parent_fits : {read : Option ℕ} {parent : ℕ} → read ≡ Some parent → AtIndex p.table (x - 1) (λ node. read ≡ node.parent) → Fits w32 (parent + 1)
  parent_fits {read} {parent} e h =
      let above : parent_of (in_order p.table.nodes p.order) x ≡ Some (parent + 1) = ap (λ (d : Document). parent_of d.elements x) view ∙ sym (parent_is e h) in
      omega (arith, whole.given, whole.sound.given (parent + 1) (whole.sound.valid.parents x (parent + 1) above).0)

  pub state_is : (states : States) (state : State) → AtIndex p.table (x - 1) (λ node. states ≡ node.states) → has_state states state ≡ state_of now.elements x state
  state_is states state h =
      ap (λ s. has_state s state) (told (λ node. states ≡ node.states) h) ∙ sym (ap (λ o. option_map_or (λ (e : Element). has_state e.states state) o false) found)

  pub attributes_at : node.attrs ≡ attributes_of now.elements x
  attributes_at = sym (ap (λ o. unwrap_or (option_map (λ (e : Element). e.attrs) o) finmap.empty) found)

  pub attribute_count_is : {n : ℕ} → AtIndex p.table (x - 1) (λ node. n ≡ finmap.len node.attrs) → n ≡ finmap.len (attributes_of now.elements x)
  attribute_count_is {n} h = told (λ node. n ≡ finmap.len node.attrs) h ∙ ap finmap.len attributes_at

  named : (name : Characters) → finmap.get node.attrs name ≡ attribute_of now.elements x name
  named name = sym (ap (option_and_then (λ (e : Element). finmap.get e.attrs name)) found)

  pub attribute_is : (name : Characters) {value : Option Characters} → AtIndex p.table (x - 1) (λ node. value ≡ finmap.get node.attrs name) → value ≡ attribute_of now.elements x name
  attribute_is name {value} h = told (λ node. value ≡ finmap.get node.attrs name) h ∙ named name

  pub value_is : (name : Characters) {read value : Option ℕ} → read ≡ value → AtIndex p.table (x - 1) (λ node. option_map (text_of p.table.names) read ≡ finmap.get node.attrs name)
      → option_map (text_of p.table.names) value ≡ attribute_of now.elements x name
  value_is name {read} e h = ap (option_map (text_of p.table.names)) (sym e) ∙ attribute_is name h

  pub attribute_names_are : {shown : List Characters} → AtIndex p.table (x - 1) (λ node. AreNamesOf (finmap.get node.attrs) shown) → AreNamesOf (attribute_of now.elements x) shown
  attribute_names_are {shown} h =
      let are = told (λ node. AreNamesOf (finmap.get node.attrs) shown) h in
      record { exact = λ name. are.exact name ∙ ap is_some (named name); once = are.once }

  -- labels

  pub label_within : x ≤ length p.labels
  label_within = omega (arith, within.1, whole.labels_of.count)

  module _ {label : Label} (read : label ≡ get_or p.labels (x - 1) label) where
    label_at : slice_get p.labels (x - 1) ≡ Some label
    label_at = read_at p.labels (omega (arith, within.0, label_within)) read

    pub label_is : IsLabel p.table.names p.lists node label
    label_is =
        told (λ node. IsLabel p.table.names p.lists node label)
        (at_some (λ label. AtIndex p.table (x - 1) (λ node. IsLabel p.table.names p.lists node label)) label_at (whole.labels_of.each (x - 1) (omega (arith, within.0, label_within))))

    pub classes_are : list_of p.lists label.classes ≡ class_words (attribute_of now.elements x (codes "class"))
    classes_are = label_is.classes ∙ ap class_words (named (chars (codes "class")) ∙ ap (attribute_of now.elements x) (chars-ascii (codes "class") refl))

    pub id_is : option_map (text_of p.table.names) label.id ≡ option_and_then id_text (attribute_of now.elements x (codes "id"))
    id_is = label_is.id ∙ ap (option_and_then id_text) (named (chars (codes "id")) ∙ ap (attribute_of now.elements x) (chars-ascii (codes "id") refl))

-- there are not too many elements
pub few_seen : {p : Parts} {now : Document} → IsWhole p → AreSeenAs p now → length now.elements ≤ element_limit
few_seen {p} whole view =
    subst (λ (d : Document). length d.elements ≤ element_limit) view
    (omega (arith, whole.few, ap length whole.listed, length-map (in_order p.table.nodes p.order) (λ (e : Element). e.number)))

-- the attributes of two elements
pub same_attributes_are : {p : Parts} {now : Document} (whole : IsWhole p) (view : AreSeenAs p now) (x y : ℕ) (is : IsElement now.elements x) (also : IsElement now.elements y) {b : Bool}
    → AtIndex p.table (x - 1) (λ n. AtIndex p.table (y - 1) (λ m. IsTrue b ↔ (n.attrs ≡ m.attrs))) → IsTrue b ↔ (attributes_of now.elements x ≡ attributes_of now.elements y)
same_attributes_are {p} whole view x y is also {b} h =
    let first = told whole view x is (λ n. AtIndex p.table (y - 1) (λ m. IsTrue b ↔ (n.attrs ≡ m.attrs))) h in
    let both = told whole view y also (λ m. IsTrue b ↔ ((node whole view x is).attrs ≡ m.attrs)) first in
    subst₂ (λ p q. IsTrue b ↔ (p ≡ q)) (attributes_at whole view x is) (attributes_at whole view y also) both

-- an id among the labels, and among the attributes

pub no_id : (value : Option Characters) (id : Characters) → None ≡ option_and_then id_text value → false ≡ option_map_or (λ value. not (is_empty_text value) && same_text value id) value false
no_id None id h = refl
no_id (Some value) id h = by (is_empty_text value) h
  where
    by : (b : Bool) → None ≡ cond b None (Some value) → false ≡ (not b && same_text value id)
    by true h = refl
    by false h = absurd (cc)

pub some_id : (value : Option Characters) (text id : Characters) → Some text ≡ option_and_then id_text value
    → same_text text id ≡ option_map_or (λ value. not (is_empty_text value) && same_text value id) value false
some_id None text id h = absurd (cc)
some_id (Some value) text id h = by (is_empty_text value) h
  where
    by : (b : Bool) → Some text ≡ cond b None (Some value) → same_text text id ≡ (not b && same_text value id)
    by true h = absurd (cc)
    by false h = ap (λ t. same_text t id) (same_Some text value h)
