-- What is kept after an edit is whole, and is the edited document.
use Rattle.std.proofs.Common.{◌≡◌, ℕ, ◌+◌, ◌-◌, Bool, List, get_or, Option, Some, None, slice_get, slice_set, sym, ap, ◌∙◌, subst, refl, arith}
use Rattle.std.specs.FinMap as finmap
use Rattle.stylo_base.specs.NameList.{StandOnce}
use Rattle.scene_model.specs.Document.{Document}
use Rattle.scene_model.specs.Element.{Element, Characters, State, States}
use Rattle.scene_model.specs.Lookups.{IsElement}
use Rattle.scene_model.specs.Nodes.{Node}
use Rattle.change_model.specs.InPlace.{changed_at, put_state, with_state, without_attribute}
use Rattle.dom_tree.specs.declared.labels.Label.{Label}
use Rattle.dom_tree.specs.Kept.{Table, KeepsTexts, put_node, text_of, with_attr, with_states, without_attr}
use Rattle.dom_tree.specs.Labels.{AreCuts, IsGiven, IsLabel, KeepsLists}
use Rattle.dom_tree.specs.Whole.{IsWhole, Parts, document}
use Rattle.dom_tree.proofs.ChangeLemmas.{IsChange, IsChange-attribute, IsChange-no_attribute, IsChange-state, document_put, put_agree, whole_more, whole_put}
use Rattle.dom_tree.proofs.ColumnLemmas.{AtIndex}
use Rattle.dom_tree.proofs.CutLemmas.{cuts_more}
use Rattle.dom_tree.proofs.EditLemmas.{put_absent}
use Rattle.dom_tree.proofs.GivenLemmas.{IsGiven-with_attr, IsGiven-without_attr}
use Rattle.dom_tree.proofs.KeptLemmas.{label_is, node, node_at, told, within}
use Rattle.dom_tree.proofs.NameLemmas.{text_is}
use Rattle.dom_tree.proofs.Parts.{AreSeenAs, Cuts, Lists}
use Rattle.dom_tree.proofs.RelabelLemmas.{label_more, labels_more, labels_put, labels_stay}

-- more names, class lists and cuts
pub record IsMore (p : Parts) (names : List Characters) (lists : Lists) (cuts : Cuts) : Type 0 where
  pub kept : KeepsTexts p.table.names names
  pub once : StandOnce names
  pub also : KeepsLists p.lists lists
  pub cut : AreCuts names lists cuts

module _ {p : Parts} (whole : IsWhole p) where
  pub more_names : {names : List Characters} → KeepsTexts p.table.names names → StandOnce names → IsMore p names p.lists p.cuts
  more_names kept once = record { kept = kept; once = once; also = λ k list h. h; cut = cuts_more kept (λ k list h. h) whole.cuts_of }

  pub more_whole : {later : Table} {lists : Lists} {cuts : Cuts} → IsMore p later.names lists cuts → later.nodes ≡ p.table.nodes → IsWhole (record p { table = later; lists = lists; cuts = cuts })
  more_whole more e = whole_more whole (record { kept = more.kept; once = more.once; labels_of = labels_more whole.labels_of more.kept more.also e; cuts_of = more.cut }) e

module _ {p : Parts} {names : List Characters} {lists : Lists} {cuts : Cuts} (more : IsMore p names lists cuts) where
  pub more_lists : {shown : List Characters} {longer : Lists} {recut : Cuts} → shown ≡ names → KeepsLists lists longer → AreCuts shown longer recut → IsMore p names longer recut
  more_lists {longer = longer} {recut = recut} same kept cut =
      record { kept = more.kept; once = more.once; also = λ k list h. kept k list (more.also k list h); cut = subst (λ n. AreCuts n longer recut) same cut }

  pub more_same : {again : List Characters} → again ≡ names → IsMore p again lists cuts
  more_same e = subst (λ n. IsMore p n lists cuts) (sym e) more

-- an edit of an attribute, of a node and of its element
pub record IsEdit (name : Characters) (value : Option Characters) (f : Node → Node) (g : Element → Element) : Type 0 where
  pub change : IsChange f g
  pub gives : (node : Node) → IsGiven name value node (f node)

pub is_set : (name value : Characters) → IsEdit name (Some value) (with_attr name value) (λ e. record e { attrs = finmap.insert e.attrs name value })
is_set name value = record { change = IsChange-attribute name value; gives = IsGiven-with_attr name value }

pub is_removed : (name : Characters) → IsEdit name None (without_attr name) (λ e. record e { attrs = finmap.remove e.attrs name })
is_removed name = record { change = IsChange-no_attribute name; gives = IsGiven-without_attr name }

abbrev with_state_put : State → Bool → Node → Node
with_state_put state on node = record node { states = put_state state on node.states }

module _ {p : Parts} {now : Document} (whole : IsWhole p) (view : AreSeenAs p now) (x : ℕ) (is : IsElement now.elements x) where
  -- the number of the element is that of its node and 1
  back : x - 1 + 1 ≡ x
  back = omega (arith, (within whole view x is).0)

  module _ (state : State) (on : Bool) (was : States) {new : States} (seen : AtIndex p.table (x - 1) (λ node. was ≡ node.states)) (is_new : new ≡ put_state state on was) where
    module _ (later : Table) (names : later.names ≡ p.table.names) (nodes : later.nodes ≡ put_node (x - 1) (with_states new) p.table.nodes) where
      state_put : later.nodes ≡ put_node (x - 1) (with_state_put state on) p.table.nodes
      state_put =
          nodes ∙ put_agree (with_states new) (with_state_put state on) (x - 1) p.table.nodes (node whole view x is) (node_at whole view x is)
          (ap (λ s. record (node whole view x is) { states = s }) (is_new ∙ ap (put_state state on) (told whole view x is (λ node. was ≡ node.states) seen)))

      pub state_whole : IsWhole (record p { table = later })
      state_whole = whole_put whole (record {
        kept = λ n l. ap (λ t. slice_get t n) names;
        once = subst StandOnce (sym names) whole.once;
        labels_of = labels_stay (with_state_put state on) (x - 1) (λ node. refl) whole.labels_of (λ n l. ap (λ t. slice_get t n) names) (node_at whole view x is) state_put;
        cuts_of = subst (λ n. AreCuts n p.lists p.cuts) (sym names) whole.cuts_of;
      }) (IsChange-state state on) (x - 1) state_put

      pub state_document : document later p.order ≡ record now { elements = with_state x state on now.elements }
      state_document = document_put p later (x - 1) (IsChange-state state on) view state_put back

  -- an attribute that is given a value, or taken away
  module _ {name : Characters} {value : Option Characters} {f : Node → Node} {g : Element → Element} (edit : IsEdit name value f g) (later : Table) where
    pub given_document : later.nodes ≡ put_node (x - 1) f p.table.nodes → document later p.order ≡ record now { elements = changed_at x g now.elements }
    given_document e = document_put p later (x - 1) edit.change view e back

    pub given_whole : {lists : Lists} {cuts : Cuts} {given : Option Characters} {shown : List Characters} {old : Label} (new : Label)
        → later.nodes ≡ put_node (x - 1) f p.table.nodes → IsMore p later.names lists cuts → given ≡ value → shown ≡ later.names
        → old ≡ get_or p.labels (x - 1) old → ((node after : Node) → IsLabel shown p.lists node old → IsGiven name given node after → IsLabel shown lists after new)
        → IsWhole (record p { table = later; labels = slice_set p.labels (x - 1) new; lists = lists; cuts = cuts })
    given_whole {lists} {given = given} {old = old} new e more is_given same read tells =
        let before = node whole view x is in
        let was = subst (λ n. IsLabel n p.lists before old) (sym same) (label_more more.kept (λ n list h. h) (label_is whole view x is read)) in
        let made = subst (λ n. IsLabel n lists (f before) new) same (tells before (f before) was (subst (λ v. IsGiven name v before (f before)) (sym is_given) (edit.gives before))) in
        let labels = labels_put whole.labels_of more.kept more.also f (x - 1) (node_at whole view x is) e made in
        whole_put whole (record { kept = more.kept; once = more.once; labels_of = labels; cuts_of = more.cut }) edit.change (x - 1) e

  -- an attribute that it has not
  pub unset_document : (name : Characters) {value : Option Characters} → AtIndex p.table (x - 1) (λ node. value ≡ finmap.get node.attrs name) → value ≡ None
      → now ≡ record now { elements = without_attribute x name now.elements }
  unset_document name seen none =
      let absent = subst (λ v. AtIndex p.table (x - 1) (λ (node : Node). v ≡ finmap.get node.attrs name)) none seen in
      sym view ∙ document_put p p.table (x - 1) (IsChange-no_attribute name) view (put_absent p.table.nodes (x - 1) name absent) back

-- the nodes after an edit by names that have texts

pub set_nodes : (names : List Characters) (attribute text k : ℕ) {name value : Characters} {old before later : List Node} → slice_get names attribute ≡ Some name → slice_get names text ≡ Some value
    → before ≡ old → later ≡ put_node k (with_attr (text_of names attribute) (text_of names text)) before → later ≡ put_node k (with_attr name value) old
set_nodes names attribute text k at here same e =
    e ∙ (λ i. put_node k (with_attr (text_is names attribute _ at i) (text_is names text _ here i)) (same i))

pub unset_nodes : (names : List Characters) (attribute k : ℕ) {name : Characters} {old before later : List Node} → slice_get names attribute ≡ Some name → before ≡ old
    → later ≡ put_node k (without_attr (text_of names attribute)) before → later ≡ put_node k (without_attr name) old
unset_nodes names attribute k at same e = e ∙ (λ i. put_node k (without_attr (text_is names attribute _ at i)) (same i))
