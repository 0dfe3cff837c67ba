-- The document once one node is changed in place: its number, its parent and its tag stay.
use Rattle.std.proofs.Common.{◌≡◌, ◌≢◌, ℕ, zero, suc, ◌+◌, ◌≤◌, ◌==◌, Bool, true, false, cond, sym, ap, ◌∙◌, subst, refl, arith}
use Rattle.std.proofs.Common.{List, [], ◌∷◌, map, filter_map, length, slice_set, Option, Some, None, slice_get}
use Rattle.std.specs.FinMap as finmap
use Rattle.std.specs.Option.{option_map_or}
use Rattle.std.proofs.lemmas.Bool.{cond-true, cond-false, eq-eqb}
use Rattle.base_model.specs.Limits.{number_limit}
use Rattle.stylo_base.specs.NameList.{StandOnce}
use Rattle.scene_model.specs.Document.{Document}
use Rattle.scene_model.specs.Element.{Element, Characters, State}
use Rattle.scene_model.specs.Lookups.{IsElement, element_at, place_of, place_of_type}
use Rattle.scene_model.specs.Nodes.{Node, listed, listed_from}
use Rattle.scene_model.proofs.Listed.{numbered}
use Rattle.scene_model.proofs.Numbers.{differs}
use Rattle.change_model.specs.InPlace.{changed_at, IsInPlace, put_state}
use Rattle.change_model.specs.Sound.{IsSound}
use Rattle.change_model.proofs.Columns.{filter_map-mapped}
use Rattle.change_model.proofs.InPlace.{here, number-here, IsInPlace-here, element_at-map, numbers-map, is_element-map, children-map, place_of-map, place_of_type-map, tag_of-map}
use Rattle.change_model.proofs.InPlace.{IsSound-changed_at, IsInPlace-attribute, IsInPlace-no_attribute, IsInPlace-state}
use Rattle.dom_tree.specs.declared.labels.Label.{Label}
use Rattle.dom_tree.specs.ChildLists.{AreChildren, lists_of}
use Rattle.dom_tree.specs.Kept.{KeepsTexts, Table, put_node}
use Rattle.dom_tree.specs.Labels.{AreCuts, AreLabels}
use Rattle.dom_tree.specs.SiblingPlaces.{ArePlaces, AreZeros, HasNameBelow}
use Rattle.dom_tree.specs.Whole.{IsKept, IsWhole, Parts, document, in_order}
use Rattle.dom_tree.proofs.NameLemmas.{below_more_names}
use Rattle.dom_tree.proofs.Parts.{AreSeenAs, Cuts, Lists}

-- a change of a node, and of its element
pub record IsChange (f : Node → Node) (g : Element → Element) : Type 0 where
  pub place : IsInPlace g
  pub same : (k : ℕ) (node : Node) → numbered k (f node) ≡ g (numbered k node)

-- the nodes after a change

put_next : (f : Node → Node) (i : ℕ) (n : Node) (ns : List Node) → put_node (suc i) f (n ∷ ns) ≡ n ∷ put_node i f ns
put_next f i n ns = by (slice_get ns i)
  where
    by : (o : Option Node) → option_map_or (λ node. slice_set (n ∷ ns) (suc i) (f node)) o (n ∷ ns) ≡ n ∷ option_map_or (λ node. slice_set ns i (f node)) o ns
    by None = refl
    by (Some node) = refl

pub length-put : (f : Node → Node) (k : ℕ) (nodes : List Node) → length (put_node k f nodes) ≡ length nodes
length-put f k [] = refl
length-put f zero (n ∷ ns) = refl
length-put f (suc k) (n ∷ ns) = ap length (put_next f k n ns) ∙ ap suc (length-put f k ns)

pub put_is : (f : Node → Node) (k : ℕ) (nodes : List Node) (node : Node) → slice_get nodes k ≡ Some node → put_node k f nodes ≡ slice_set nodes k (f node)
put_is f k nodes node at = ap (λ o. option_map_or (λ node. slice_set nodes k (f node)) o nodes) at

-- two changes that agree at the node
pub put_agree : (f g : Node → Node) (k : ℕ) (nodes : List Node) (node : Node) → slice_get nodes k ≡ Some node → f node ≡ g node → put_node k f nodes ≡ put_node k g nodes
put_agree f g k nodes node at e = put_is f k nodes node at ∙ (ap (slice_set nodes k) e ∙ sym (put_is g k nodes node at))

-- the elements after a change

elsewhere : (g : Element → Element) (x j : ℕ) (n : Node) → j + 1 ≢ x → cond (j + 1 == x) (g (numbered j n)) (numbered j n) ≡ numbered j n
elsewhere g x j n other = cond-false (j + 1 == x) (g (numbered j n)) (numbered j n) (differs (j + 1) x other)

untouched : (g : Element → Element) (x j : ℕ) (ns : List Node) → x ≤ j → changed_at x g (listed_from j ns) ≡ listed_from j ns
untouched g x j [] h = refl
untouched g x j (n ∷ ns) h =
    let first = elsewhere g x j n (λ e. omega arith) in
    let rest = untouched g x (j + 1) ns (omega arith) in
    λ i. first i ∷ rest i

module _ {f : Node → Node} {g : Element → Element} (c : IsChange f g) where
  listed_put : (j i m : ℕ) (ns : List Node) → m ≡ j + i → listed_from j (put_node i f ns) ≡ changed_at (m + 1) g (listed_from j ns)
  listed_put j i m [] e = refl
  listed_put j zero m (n ∷ ns) e =
      let first = c.same j n ∙ sym (cond-true (j + 1 == m + 1) (g (numbered j n)) (numbered j n) (eq-eqb (j + 1) (m + 1) (omega arith))) in
      let rest = sym (untouched g (m + 1) (j + 1) ns (omega arith)) in
      λ i. first i ∷ rest i
  listed_put j (suc i) m (n ∷ ns) e =
      let first = sym (elsewhere g (m + 1) j n (λ h. omega arith)) in
      let rest = listed_put (j + 1) i m ns (omega arith) in
      ap (listed_from j) (put_next f i n ns) ∙ (λ t. first t ∷ rest t)

  in_order_put : (nodes : List Node) (order : List ℕ) (k : ℕ) → in_order (put_node k f nodes) order ≡ changed_at (k + 1) g (in_order nodes order)
  unfolding in_order
  in_order_put nodes order k =
      let h = here (k + 1) g in
      ap (λ l. filter_map (element_at l) order) (listed_put 0 k k nodes (omega arith))
      ∙ filter_map-mapped h (element_at (listed nodes)) (element_at (map h (listed nodes))) order (element_at-map h (number-here (k + 1) g c.place.number) (listed nodes))

-- what follows from the parents and the tags

module _ (h : Element → Element) (k : IsInPlace h) (doc : List Element) where
  there_before : (x : ℕ) → IsElement (map h doc) x → IsElement doc x
  there_before x is = sym (is_element-map h k.number doc x) ∙ is

  children_mapped : {last : ℕ} (lists : List (List ℕ)) → AreChildren last doc lists → AreChildren last (map h doc) lists
  children_mapped lists are = record { count = are.count; each = λ x is. are.each x (there_before x is) ∙ ap Some (sym (children-map h k doc x)) }

  places_mapped : {last : ℕ} (place later : ℕ → ℕ) (places : List ℕ) → ((x : ℕ) → later x ≡ place x) → ArePlaces last doc place places → ArePlaces last (map h doc) later places
  places_mapped place later places same are = record { count = are.count; each = λ x is. are.each x (there_before x is) ∙ ap Some (sym (same x)) }

-- more names
module _ (old new : List Characters) (kept : KeepsTexts old new) where
  pub zeros_more : {counts : List ℕ} → AreZeros old counts → AreZeros new counts
  zeros_more {counts} zeros = record { count = zeros.count; few = by (length counts) zeros.few; each = zeros.each }
    where
      by : (n : ℕ) → n ≤ length old → n ≤ length new
      by zero l = omega arith
      by (suc n) l = let h = below_more_names old new n kept (omega arith) in omega (arith, h)

  pub named_more : {room : ℕ} {tag : Characters} → room ≤ length old → HasNameBelow old room tag → HasNameBelow new room tag
  named_more few (name, below, at) = (name, below, kept name (omega (arith, few, below)) ∙ at)

-- the whole after a change

-- the names, labels and class lists of a table
pub record AreLabelled (old : List Characters) (table : Table) (labels : List Label) (lists : Lists) (cuts : Cuts) : Type 0 where
  pub kept : KeepsTexts old table.names
  pub once : StandOnce table.names
  pub labels_of : AreLabels table lists labels
  pub cuts_of : AreCuts table.names lists cuts

module _ {p : Parts} {later : Table} {labels : List Label} {lists : Lists} {cuts : Cuts} (whole : IsWhole p) (are : AreLabelled p.table.names later labels lists cuts) where
  abbrev labelled : Parts
  labelled = record p { table = later; labels = labels; lists = lists; cuts = cuts }

  -- more of these
  pub whole_more : later.nodes ≡ p.table.nodes → IsWhole labelled
  whole_more e =
      let with_nodes = λ (nodes : List Node). record labelled { table = record later { nodes = nodes } } in
      subst (λ nodes. IsWhole (with_nodes nodes)) (sym e) (record {
        few = whole.few;
        given = whole.given;
        sound = whole.sound;
        listed = whole.listed;
        known = whole.known;
        apart = whole.apart;
        children_of = whole.children_of;
        index_of = whole.index_of;
        before_of = whole.before_of;
        after_of = whole.after_of;
        zeros = zeros_more p.table.names later.names are.kept whole.zeros;
        tags = λ x is. named_more p.table.names later.names are.kept whole.zeros.few (whole.tags x is);
        once = are.once;
        labels_of = subst (λ nodes. AreLabels (record later { nodes = nodes }) lists labels) e are.labels_of;
        cuts_of = are.cuts_of;
      })

  module _ {f : Node → Node} {g : Element → Element} (c : IsChange f g) (k : ℕ) (e : later.nodes ≡ put_node k f p.table.nodes) where
    abbrev old : List Element
    old = in_order p.table.nodes p.order

    abbrev h : Element → Element
    h = here (k + 1) g

    there : IsInPlace h
    there = IsInPlace-here (k + 1) g c.place

    so_many : length later.nodes ≡ length p.table.nodes
    so_many = ap length e ∙ length-put f k p.table.nodes

    changed : in_order later.nodes p.order ≡ map h old
    changed = ap (λ l. in_order l p.order) e ∙ in_order_put c p.table.nodes p.order k

    pub whole_put : IsWhole labelled
    whole_put = subst (IsKept labelled) (sym changed) (record {
      few = whole.few;
      given = subst (λ n. n ≤ number_limit) (sym so_many) whole.given;
      sound = subst (λ n. IsSound (record { elements = map h old; last = n })) (sym so_many) (IsSound-changed_at (document p.table p.order) (k + 1) g c.place whole.sound);
      listed = numbers-map h there.number old ∙ whole.listed;
      known = record { count = whole.known.count ∙ sym so_many; each = λ x. is_element-map h there.number old x ∙ whole.known.each x };
      apart = whole.apart;
      children_of = again (λ n. AreChildren n (map h old) (lists_of p.flat p.spans)) (children_mapped h there old (lists_of p.flat p.spans) whole.children_of);
      index_of = again (λ n. ArePlaces n (map h old) (place_of (map h old)) p.index)
          (places_mapped h there old (place_of old) (place_of (map h old)) p.index (place_of-map h there old) whole.index_of);
      before_of = again (λ n. ArePlaces n (map h old) (place_of_type (map h old) false) p.before)
          (places_mapped h there old (place_of_type old false) (place_of_type (map h old) false) p.before (place_of_type-map h there old false) whole.before_of);
      after_of = again (λ n. ArePlaces n (map h old) (place_of_type (map h old) true) p.after)
          (places_mapped h there old (place_of_type old true) (place_of_type (map h old) true) p.after (place_of_type-map h there old true) whole.after_of);
      zeros = zeros_more p.table.names later.names are.kept whole.zeros;
      tags = λ x is. subst (HasNameBelow later.names (length p.tally)) (sym (tag_of-map h there old x))
          (named_more p.table.names later.names are.kept whole.zeros.few (whole.tags x (there_before h there old x is)));
      once = are.once;
      labels_of = are.labels_of;
      cuts_of = are.cuts_of;
    })
      where
        again : (P : ℕ → Type 0) → P (length p.table.nodes) → P (length later.nodes)
        again P h = subst P (sym so_many) h

-- the document that is seen
pub document_put : {f : Node → Node} {g : Element → Element} (p : Parts) (later : Table) (k : ℕ) {now : Document} {x : ℕ} → IsChange f g → AreSeenAs p now → later.nodes ≡ put_node k f p.table.nodes
    → k + 1 ≡ x → document later p.order ≡ record now { elements = changed_at x g now.elements }
document_put {f} {g} p later k c view e back =
    let elements = ap (λ l. in_order l p.order) e ∙ (in_order_put c p.table.nodes p.order k ∙ (λ i. changed_at (back i) g (view i).elements)) in
    let last = ap length e ∙ (length-put f k p.table.nodes ∙ ap (λ (d : Document). d.last) view) in
    λ i. record { elements = elements i; last = last i }

-- the three changes

pub IsChange-attribute : (name value : Characters) → IsChange (λ node. record node { attrs = finmap.insert node.attrs name value }) (λ e. record e { attrs = finmap.insert e.attrs name value })
IsChange-attribute name value = record { place = IsInPlace-attribute name value; same = λ k node. refl }

pub IsChange-no_attribute : (name : Characters) → IsChange (λ node. record node { attrs = finmap.remove node.attrs name }) (λ e. record e { attrs = finmap.remove e.attrs name })
IsChange-no_attribute name = record { place = IsInPlace-no_attribute name; same = λ k node. refl }

pub IsChange-state : (state : State) (on : Bool) → IsChange (λ node. record node { states = put_state state on node.states }) (λ e. record e { states = put_state state on e.states })
IsChange-state state on = record { place = IsInPlace-state state on; same = λ k node. refl }
