-- Columns to which the nodes of others were appended.
use Rattle.std.proofs.Common.{◌≡◌, ℕ, ◌+◌, ◌-◌, ◌<◌, ◌≤◌, List, [], ◌∷◌, ◌++◌, map, length, take, Option, Some, IfSome, slice_get, sym, ap, ◌∙◌, subst, refl, arith, append-nil}
use Rattle.std.specs.Option.{option_map_or}
use Rattle.std.proofs.lemmas.List.{map-append, take_all}
use Rattle.std.proofs.lemmas.Option.{slice_get_within}
use Rattle.base_model.proofs.Lists.{each-append}
use Rattle.scene_model.specs.Element.{Characters}
use Rattle.scene_model.specs.Nodes.{Node, IsNodeList, IsParentAt}
use Rattle.scene_model.proofs.Listed.{parent_at}
use Rattle.dom_tree.specs.declared.node_columns.AttrRow.{AttrRow}
use Rattle.dom_tree.specs.declared.node_columns.NodeRow.{NodeRow}
use Rattle.dom_tree.specs.Kept.{Table, AreAttrs, AreRows, IsRow, KeepsRows, KeepsTexts, kept_node, named_attributes, node_seen, part_of}
use Rattle.dom_tree.specs.View.{states_of}
use Rattle.dom_tree.proofs.AttrLemmas.{AreAttrs-more, attributes_kept}
use Rattle.dom_tree.proofs.ColumnLemmas.{AreSeen, IsRowAt, last_within, nodes_kept, part_is, part_last, rows_kept, seen_at}
use Rattle.dom_tree.proofs.NameLemmas.{KeepsTexts-more, text_is}
use Rattle.dom_tree.proofs.Places.{at_some, if_some, item_at, taken}

-- more names and more attributes

pub rows_more : (old new : List Characters) {attrs later : List AttrRow} (more : List AttrRow) → KeepsTexts old new → later ≡ attrs ++ more → KeepsRows old attrs new later
rows_more old new {attrs} more kept e = record { texts = kept; rows = λ rows are. rows_kept old new kept attrs more e rows are; nodes = λ rows are. nodes_kept old new kept attrs more e rows are }

pub names_more : (old new : List Characters) {attrs later : List AttrRow} → KeepsTexts old new → later ≡ attrs → KeepsRows old attrs new later
names_more old new {attrs} kept e = rows_more old new [] kept (e ∙ sym (append-nil attrs))

pub KeepsRows-more : {names mid new : List Characters} {attrs more later : List AttrRow} → KeepsRows names attrs mid more → KeepsRows mid more new later → KeepsRows names attrs new later
KeepsRows-more {names} {mid} {new} a b = record {
  texts = KeepsTexts-more names mid new a.texts b.texts;
  rows = λ rows are. b.rows rows (a.rows rows are);
  nodes = λ rows are. b.nodes rows (a.rows rows are) ∙ a.nodes rows are;
}

-- the row of a node of a list, whose attributes got names and are the last of the flat list
module _ {from : List Characters} {others : List AttrRow} {there : List NodeRow} {table : Table} {i : ℕ} {row : NodeRow} (at : IsRowAt from others there table i row)
    (mid new : List Characters) (also : KeepsTexts mid new) (attrs run : List AttrRow) {later : List AttrRow} (e : later ≡ attrs ++ run) (named : AreAttrs mid run) (made : NodeRow)
    (is_first : made.attrs.first ≡ length attrs) (is_count : made.attrs.count ≡ length run) {text : Characters} (is_tag : slice_get new made.tag ≡ Some text) where
  own_part : part_of later made.attrs ≡ run
  own_part = part_last attrs run e made.attrs is_first is_count

  pub row_renamed : IsRow new later made
  row_renamed = record {
    tag = slice_get_within new made.tag text is_tag;
    within = last_within attrs run e made.attrs is_first is_count;
    attributes = subst (AreAttrs new) (sym own_part) (AreAttrs-more mid new run also named);
  }

  pub node_renamed : {list part : List AttrRow} {above : ℕ} → list ≡ others → part ≡ part_of list row.attrs → named_attributes mid run ≡ named_attributes from part
      → slice_get from row.tag ≡ Some text → made.parent ≡ Some above → made.states ≡ row.states
      → IfSome (slice_get table.nodes i) (λ node. node_seen new later made ≡ record node { parent = Some above })
  node_renamed {above = above} d s same was parent states =
      let tag = text_is new made.tag text is_tag ∙ sym (text_is from row.tag text was) in
      let map_is = ap (named_attributes new) own_part ∙ (attributes_kept mid new run also named ∙ (same ∙ ap (named_attributes from) (part_is at d s))) in
      if_some (λ (node : Node). node_seen new later made ≡ record node { parent = Some above }) (seen_at at)
      (λ k. record { parent = parent k; tag = tag k; attrs = map_is k; states = states_of (states k) })

-- the parent of a node of a list is before it
pub parent_early : {list : List Node} {k p : ℕ} → IsNodeList list → k < length list → IfSome (slice_get list k) (λ node. Some p ≡ node.parent) → p < length list
parent_early {list} {k} {p} v l told =
    let (node, at, e) = item_at list k (λ node. Some p ≡ node.parent) l told in
    omega (arith, l, subst (IsParentAt k) (sym e) (parent_at list k node v at))

-- the index of a parent, in all
pub above_is : (list : List Node) (k last p : ℕ) (read : Option ℕ) → k < length list → IfSome (slice_get list k) (λ node. read ≡ node.parent)
    → IfSome (slice_get list k) (λ node. option_map_or (λ q. last + q) read (p - 1) ≡ option_map_or (λ q. last + q) node.parent (p - 1))
above_is list k last p read l told =
    let (node, at, e) = item_at list k (λ node. read ≡ node.parent) l told in
    if_some (λ (node : Node). option_map_or (λ q. last + q) read (p - 1) ≡ option_map_or (λ q. last + q) node.parent (p - 1)) at (ap (λ o. option_map_or (λ q. last + q) o (p - 1)) e)

-- the rows of the nodes so far
pub record AreRenamed (first : List Characters) (flat : List AttrRow) (nodes : List Node) (last p k : ℕ) (names : List Characters) (attrs : List AttrRow) (rows : List NodeRow) : Type 0 where
  pub kept : KeepsRows first flat names attrs
  pub are : AreRows names attrs rows
  pub nodes_are : map (node_seen names attrs) rows ≡ map (kept_node last p) (take k nodes)

pub none_renamed : {nodes : List Node} {last p : ℕ} {names : List Characters} {attrs : List AttrRow} {rows : List NodeRow} → rows ≡ [] → AreRenamed names attrs nodes last p 0 names attrs rows
none_renamed {nodes} {last} {p} {names} {attrs} none = record {
  kept = record { texts = λ n l. refl; rows = λ rows are. are; nodes = λ rows are. refl };
  are = subst (AreRows names attrs) (sym none) tt;
  nodes_are = ap (map (node_seen names attrs)) none;
}

pub next_renamed : {first names later : List Characters} {flat attrs longer : List AttrRow} {nodes : List Node} {last p k : ℕ} (above : ℕ) {rows made : List NodeRow} {row : NodeRow}
    → AreRenamed first flat nodes last p k names attrs rows → k < length nodes → KeepsRows names attrs later longer → IsRow later longer row
    → IfSome (slice_get nodes k) (λ node. above ≡ option_map_or (λ q. last + q) node.parent (p - 1))
    → IfSome (slice_get nodes k) (λ node. node_seen later longer row ≡ record node { parent = Some above })
    → made ≡ rows ++ row ∷ [] → AreRenamed first flat nodes last p (k + 1) later longer made
next_renamed {later = later} {longer = longer} {nodes = nodes} {last} {p} {k} above {rows} {row = row} so_far l kept is is_above is_node e =
    let (node, at, up) = item_at nodes k (λ (node : Node). above ≡ option_map_or (λ q. last + q) node.parent (p - 1)) l is_above in
    let seen = at_some (λ (node : Node). node_seen later longer row ≡ record node { parent = Some above }) at is_node in
    let own : node_seen later longer row ≡ kept_node last p node = seen ∙ ap (λ q. record node { parent = Some q }) up in
    record {
      kept = KeepsRows-more so_far.kept kept;
      are = subst (AreRows later longer) (sym e) (each-append (IsRow later longer) rows (row ∷ []) (kept.rows rows so_far.are) (is, tt));
      nodes_are = ap (map (node_seen later longer)) e ∙ (map-append (node_seen later longer) rows (row ∷ [])
          ∙ ((λ i. (kept.nodes rows so_far.are ∙ so_far.nodes_are) i ++ own i ∷ [])
          ∙ (sym (map-append (kept_node last p) (take k nodes) (node ∷ [])) ∙ ap (map (kept_node last p)) (sym (taken nodes k node at)))));
    }

pub whole_renamed : {first names : List Characters} {flat attrs : List AttrRow} {nodes : List Node} {last p k : ℕ} {rows : List NodeRow} → AreRenamed first flat nodes last p k names attrs rows
    → length nodes ≤ k → map (node_seen names attrs) rows ≡ map (kept_node last p) nodes
whole_renamed {nodes = nodes} {last} {p} {k} all l = all.nodes_are ∙ ap (map (kept_node last p)) (take_all k nodes l)

-- all of them, appended
module _ {names new : List Characters} {attrs later : List AttrRow} (rows made : List NodeRow) {longer : List NodeRow} (kept : KeepsRows names attrs new later) (are : AreRows names attrs rows)
    (also : AreRows new later made) (e : longer ≡ rows ++ made) where
  pub rows_appended : AreRows new later longer
  rows_appended = subst (AreRows new later) (sym e) (each-append (IsRow new later) rows made (kept.rows rows are) also)

  pub nodes_appended : {table : Table} {last : ℕ} (p : ℕ) (nodes : List Node) → AreSeen names attrs rows table → map (node_seen new later) made ≡ map (kept_node last p) nodes
      → last ≡ length table.nodes
      → map (node_seen new later) longer ≡ table.nodes ++ map (kept_node (length table.nodes) p) nodes
  nodes_appended {table} {last} p nodes view is so_many =
      ap (map (node_seen new later)) e ∙ (map-append (node_seen new later) rows made
      ∙ (λ i. (kept.nodes rows are ∙ ap (λ (t : Table). t.nodes) view) i ++ (is ∙ ap (λ n. map (kept_node n p) nodes) so_many) i))
