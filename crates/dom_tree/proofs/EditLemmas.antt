-- What an edit of one node makes of the columns.
use Rattle.std.proofs.Common.{◌≡◌, ℕ, zero, suc, ◌+◌, ◌<◌, ◌≤◌, Option, Some, None, IfSome, sym, ap, ◌∙◌, subst, refl, arith, append-nil}
use Rattle.std.proofs.Common.{Bool, List, [], ◌∷◌, ◌++◌, map, length, take, drop, get_or, slice_get, slice_set}
use Rattle.std.specs.List.{AllByRecursion, list_all}
use Rattle.std.specs.FinMap as finmap
use Rattle.std.specs.Option.{option_map_or}
use Rattle.std.proofs.lemmas.List.{map-set, map-append, take_all, length-drop, length-take-le}
use Rattle.std.proofs.lemmas.Option.{IfSome_then}
use Rattle.stylo_base.specs.NameList.{StandOnce}
use Rattle.scene_model.specs.Element.{Attributes, Characters}
use Rattle.scene_model.specs.Nodes.{Node}
use Rattle.base_model.proofs.Lists.{each-append}
use Rattle.dom_tree.specs.declared.span.Span.{Span}
use Rattle.dom_tree.specs.declared.node_columns.AttrRow.{AttrRow}
use Rattle.dom_tree.specs.declared.node_columns.NodeRow.{NodeRow}
use Rattle.dom_tree.specs.declared.nodes.States as code
use Rattle.dom_tree.specs.Kept.{Table, text_of, part_of, put_node, put_part, put_row, without_row, row_with_part, named_attributes, node_seen, with_parent}
use Rattle.dom_tree.specs.Kept.{with_attr, with_states, without_attr, IsRow, AreRows, AreAttrs, AreSameNodes}
use Rattle.dom_tree.specs.View.{states_of}
use Rattle.dom_tree.proofs.AttrLemmas.{row_values, rows_counted, named_put, named_out, AreAttrs-put, AreAttrs-out, remove_absent}
use Rattle.dom_tree.proofs.ChangeLemmas.{put_is}
use Rattle.dom_tree.proofs.ColumnLemmas.{AtIndex, IsRowAt, IsWithin, here, last_within, names_are, nodes_kept, once_here, part_last, row_is, rows_kept, seen_at}
use Rattle.dom_tree.proofs.Places.{if_some, read_at, set_same, taken}

-- what holds of each item holds after a write
each_set : {X : Type 0} (P : X → Type 0) (xs : List X) (i : ℕ) (x : X) → AllByRecursion P xs → P x → AllByRecursion P (slice_set xs i x)
each_set P [] i x each h = tt
each_set P (y ∷ ys) zero x each h = (h, each.1)
each_set P (y ∷ ys) (suc i) x each h = (each.0, each_set P ys i x each.1 h)

length-part : {X : Type 0} (xs : List X) (span : Span) → IsWithin xs span → length (part_of xs span) ≡ span.count
length-part xs span h = length-take-le span.count (drop span.first xs) (omega (arith, length-drop span.first xs))

-- the part that is appended to a flat list
abbrev next_part : List AttrRow → List AttrRow → Span
next_part list more = record { first = length list; count = length more }

-- the row of a node, once another stands at its index
module _ {names : List Characters} {attrs : List AttrRow} {rows : List NodeRow} {table : Table} {i : ℕ} {row : NodeRow} (at : IsRowAt names attrs rows table i row) where
  -- the flat list, with more at its end
  module _ {later : List AttrRow} (more : List AttrRow) (e : later ≡ attrs ++ more) (next : NodeRow) where
    rows_put : IsRow names later next → AreRows names later (slice_set rows i next)
    rows_put h = each_set (IsRow names later) rows i next (rows_kept names names (λ _ _. refl) attrs more e rows at.all) h

    nodes_put : (f : Node → Node) → node_seen names later next ≡ f (node_seen names attrs row) → map (node_seen names later) (slice_set rows i next) ≡ put_node i f table.nodes
    nodes_put f same =
        let kept = nodes_kept names names (λ _ _. refl) attrs more e rows at.all ∙ ap (λ (t : Table). t.nodes) at.view in
        map-set (node_seen names later) rows i next ∙ ((λ j. slice_set (kept j) i (same j)) ∙ sym (put_is f i table.nodes (node_seen names attrs row) (seen_at at)))

  pub states_nodes : (states : code.States) → map (node_seen names attrs) (slice_set rows i (record row { states = states })) ≡ put_node i (with_states (states_of states)) table.nodes
  states_nodes states = nodes_put [] (sym (append-nil attrs)) (record row { states = states }) (with_states (states_of states)) refl

  pub parent_nodes : (parent : ℕ) → map (node_seen names attrs) (slice_set rows i (record row { parent = Some parent })) ≡ put_node i (with_parent parent) table.nodes
  parent_nodes parent = nodes_put [] (sym (append-nil attrs)) (record row { parent = Some parent }) (with_parent parent) refl

  pub count_seen : StandOnce table.names → AtIndex table i (λ node. row.attrs.count ≡ finmap.len node.attrs)
  count_seen once =
      if_some (λ (node : Node). row.attrs.count ≡ finmap.len node.attrs) (seen_at at)
      (sym (length-part attrs row.attrs (row_is at).within) ∙ rows_counted names (once_here at once) (part_of attrs row.attrs) (row_is at).attributes)

  -- a test of each of its values
  pub values_seen : StandOnce table.names → {shown rows_found : List AttrRow} → (passes : Bool) (p : Characters → Bool) → shown ≡ attrs → rows_found ≡ part_of shown row.attrs → passes
      ≡ list_all (λ r. p (text_of names r.value)) rows_found
      → AtIndex table i (λ node. passes ≡ list_all p (finmap.values node.attrs))
  values_seen once passes p same found e =
      if_some (λ (node : Node). passes ≡ list_all p (finmap.values node.attrs)) (seen_at at)
      (e ∙ (ap (list_all (λ (r : AttrRow). p (text_of names r.value))) (found ∙ ap (λ (l : List AttrRow). part_of l row.attrs) same)
      ∙ sym (row_values names (once_here at once) p (part_of attrs row.attrs) (row_is at).attributes)))

  -- other attributes, at the end of the flat list
  module _ (more : List AttrRow) {later : List AttrRow} {placed : List NodeRow} (e : later ≡ attrs ++ more) (f : placed ≡ put_part i (next_part attrs more) rows) where
    given : placed ≡ slice_set rows i (row_with_part (next_part attrs more) row)
    given = f ∙ ap (λ o. option_map_or (λ r. slice_set rows i (row_with_part (next_part attrs more) r)) o rows) (here at)

    last_part : part_of later (next_part attrs more) ≡ more
    last_part = part_last attrs more e (next_part attrs more) refl refl

    attributes_rows : AreAttrs names more → AreRows names later placed
    attributes_rows each = subst (AreRows names later) (sym given) (rows_put more e (row_with_part (next_part attrs more) row) (record {
      tag = (row_is at).tag;
      within = last_within attrs more e (next_part attrs more) refl refl;
      attributes = subst (AreAttrs names) (sym last_part) each;
    }))

    attributes_nodes : (g : Attributes → Attributes) → named_attributes names more ≡ g (named_attributes names (part_of attrs row.attrs))
        → map (node_seen names later) placed ≡ put_node i (λ node. record node { attrs = g node.attrs }) table.nodes
    attributes_nodes g same =
        let attrs_now = ap (named_attributes names) last_part ∙ same in
        ap (map (node_seen names later)) given ∙ nodes_put more e (row_with_part (next_part attrs more) row) (λ node. record node { attrs = g node.attrs })
        (λ j. record { parent = row.parent; tag = text_of names row.tag; attrs = attrs_now j; states = states_of row.states })

  -- the attributes as they were read, with one of them given a value, or left out
  module _ {list part run : List AttrRow} (d : list ≡ attrs) (s : part ≡ part_of list row.attrs) (read : run ≡ part) (name : ℕ) (once : StandOnce table.names) (m : name < length table.names) where
    was : run ≡ part_of attrs row.attrs
    was = read ∙ (s ∙ ap (λ l. part_of l row.attrs) d)

    run_are : AreAttrs names run
    run_are = subst (AreAttrs names) (sym was) (row_is at).attributes

    within : (n : ℕ) → n < length table.names → n < length names
    within n l = subst (λ t. n < length t) (sym (names_are at)) l

    module _ {changed more later : List AttrRow} {placed : List NodeRow} (shown : more ≡ changed) (e : later ≡ attrs ++ more) (f : placed ≡ put_part i (next_part attrs more) rows) where
      pub put_rows : (value : ℕ) → value < length table.names → changed ≡ put_row name value run → AreRows names later placed
      put_rows value n put =
          attributes_rows _ e f (subst (AreAttrs names) (sym (shown ∙ put)) (AreAttrs-put names name value run (within name m) (within value n) run_are))

      pub put_nodes : (value : ℕ) → changed ≡ put_row name value run → map (node_seen names later) placed ≡ put_node i (with_attr (text_of table.names name) (text_of table.names value)) table.nodes
      put_nodes value put =
          attributes_nodes _ e f (λ a. finmap.insert a (text_of table.names name) (text_of table.names value))
          (ap (named_attributes names) (shown ∙ put) ∙ (named_put names (once_here at once) name (within name m) value run run_are
          ∙ λ k. finmap.insert (named_attributes names (was k)) (text_of (names_are at k) name) (text_of (names_are at k) value)))

      pub out_rows : changed ≡ without_row name run → AreRows names later placed
      out_rows out = attributes_rows _ e f (subst (AreAttrs names) (sym (shown ∙ out)) (AreAttrs-out names name run run_are))

      pub out_nodes : changed ≡ without_row name run → map (node_seen names later) placed ≡ put_node i (without_attr (text_of table.names name)) table.nodes
      out_nodes out =
          attributes_nodes _ e f (λ a. finmap.remove a (text_of table.names name))
          (ap (named_attributes names) (shown ∙ out) ∙ (named_out names (once_here at once) name (within name m) run run_are
          ∙ λ k. finmap.remove (named_attributes names (was k)) (text_of (names_are at k) name)))

-- a change that changes nothing
put_same : (nodes : List Node) (i : ℕ) (f : Node → Node) → IfSome (slice_get nodes i) (λ node. f node ≡ node) → put_node i f nodes ≡ nodes
put_same nodes i f h = by_node (slice_get nodes i) refl h
  where
    by_node : (o : Option Node) → slice_get nodes i ≡ o → IfSome o (λ node. f node ≡ node) → option_map_or (λ node. slice_set nodes i (f node)) o nodes ≡ nodes
    by_node None e h = refl
    by_node (Some node) e h = ap (slice_set nodes i) h ∙ set_same nodes i node e

-- an attribute that the node has not
pub put_absent : (nodes : List Node) (i : ℕ) (name : Characters) → IfSome (slice_get nodes i) (λ node. None ≡ finmap.get node.attrs name) → nodes ≡ put_node i (without_attr name) nodes
put_absent nodes i name h = sym (put_same nodes i (without_attr name)
    (IfSome_then (slice_get nodes i) h (λ node none. ap (λ a. record node { attrs = a }) (remove_absent node.attrs name (sym none)))))

-- rows over a flat list that is made anew

pub same_none : {attrs packed : List AttrRow} {placed : List NodeRow} → placed ≡ [] → AreSameNodes attrs [] packed placed
same_none {packed = packed} e = record {
  each = λ names are. subst (AreRows names packed) (sym e) tt;
  nodes = λ names are. ap (map (node_seen names packed)) e;
}

each_front : {X : Type 0} (P : X → Type 0) (xs : List X) (x : X) → AllByRecursion P (xs ++ x ∷ []) → AllByRecursion P xs × P x
each_front P [] x h = (tt, h.0)
each_front P (y ∷ ys) x h = let (rest, last) = each_front P ys x h.1 in ((h.0, rest), last)

-- one row more
module _ (rows : List NodeRow) {i : ℕ} {row : NodeRow} (l : i < length rows) (is : row ≡ get_or rows i row) where
  one_more : take (i + 1) rows ≡ take i rows ++ row ∷ []
  one_more = taken rows i row (read_at rows l is)

  module _ {attrs flat part later : List AttrRow} {placed : List NodeRow} (same : AreSameNodes attrs (take i rows) flat placed) (p : part ≡ part_of attrs row.attrs) (e : later ≡ flat ++ part) where
    abbrev moved : NodeRow
    moved = row_with_part (next_part flat part) row

    its_part : part_of later moved.attrs ≡ part_of attrs row.attrs
    its_part = part_last flat part e (next_part flat part) refl refl ∙ p

    module _ (names : List Characters) (are : AreRows names attrs (take (i + 1) rows)) where
      both : AreRows names attrs (take i rows) × IsRow names attrs row
      both = each_front (IsRow names attrs) (take i rows) row (subst (AreRows names attrs) one_more are)

      next_rows : AreRows names later (placed ++ moved ∷ [])
      next_rows =
          let last : IsRow names later moved = record {
            tag = both.1.tag;
            within = last_within flat part e moved.attrs refl refl;
            attributes = subst (AreAttrs names) (sym its_part) both.1.attributes;
          } in
          each-append (IsRow names later) placed (moved ∷ []) (rows_kept names names (λ _ _. refl) flat part e placed (same.each names both.0)) (last, tt)

      next_nodes : map (node_seen names later) (placed ++ moved ∷ []) ≡ map (node_seen names attrs) (take (i + 1) rows)
      next_nodes =
          let kept = nodes_kept names names (λ _ _. refl) flat part e placed (same.each names both.0) ∙ same.nodes names both.0 in
          let now : node_seen names later moved ≡ node_seen names attrs row =
          λ j. record { parent = row.parent; tag = text_of names row.tag; attrs = named_attributes names (its_part j); states = states_of row.states } in
          map-append (node_seen names later) placed (moved ∷ []) ∙ ((λ j. kept j ++ now j ∷ [])
          ∙ sym (ap (map (node_seen names attrs)) one_more ∙ map-append (node_seen names attrs) (take i rows) (row ∷ [])))

    pub same_more : {longer : List NodeRow} {next : NodeRow} → next ≡ moved → longer ≡ placed ++ next ∷ [] → AreSameNodes attrs (take (i + 1) rows) later longer
    same_more is_next f =
        subst (AreSameNodes attrs (take (i + 1) rows) later) (sym (f ∙ ap (λ n. placed ++ n ∷ []) is_next)) (record { each = next_rows; nodes = next_nodes })

-- all rows
pub same_all : {rows placed : List NodeRow} {attrs packed : List AttrRow} (i : ℕ) → length rows ≤ i → AreSameNodes attrs (take i rows) packed placed → AreSameNodes attrs rows packed placed
same_all {rows} {placed} {attrs} {packed} i l same = subst (λ r. AreSameNodes attrs r packed placed) (take_all i rows l) same
