-- What one more node leaves of the columns, and what they show of it.
use Rattle.std.proofs.Common.{◌≡◌, ◌↔◌, ℕ, Bool, IsTrue, ◌+◌, ◌<◌, ◌≤◌, false, Result, Ok, Err, OnOk, sym, ap, ◌∙◌, subst, subst₂, refl, arith, append-nil, length-append}
use Rattle.std.proofs.Common.{List, [], ◌∷◌, ◌++◌, map, length, take, drop, get_or, Option, Some, None, IfSome, option_map, slice_get}
use Rattle.std.specs.List.{AllByRecursion}
use Rattle.std.specs.FinMap as finmap
use Rattle.std.specs.Str.{chars}
use Rattle.std.proofs.lemmas.List.{map-append, length-map, length-drop, take-append-le, take_all, drop-append-le, drop_at}
use Rattle.std.proofs.lemmas.Option.{slice_get_within, slice_get-map}
use Rattle.base_model.proofs.Lists.{each-append}
use Rattle.stylo_base.specs.NameList.{StandOnce, is_among}
use Rattle.scene_model.specs.Element.{Attributes, Characters}
use Rattle.scene_model.specs.Nodes.{Node}
use Rattle.scene_model.proofs.Lists.{each_weaker}
use Rattle.dom_tree.specs.declared.span.Span.{Span}
use Rattle.dom_tree.specs.declared.node_columns.AttrRow.{AttrRow}
use Rattle.dom_tree.specs.declared.node_columns.NodeRow.{NodeRow}
use Rattle.dom_tree.specs.declared.nodes.NodeInput.{NodeInput}
use Rattle.dom_tree.specs.ElementNames.{AreNamesOf}
use Rattle.dom_tree.specs.Kept.{Table, text_of, part_of, named_attributes, name_text, node_seen, IsRow, AreRows, AreAttrs, HaveNames, KeepsTexts}
use Rattle.dom_tree.specs.SiblingPlaces.{HasNameBelow}
use Rattle.dom_tree.specs.View.{attributes_of, node_of, states_of}
use Rattle.dom_tree.proofs.NameLemmas.{KeepsTexts-more, below_more_names, text_at, text_kept, text_is}
use Rattle.dom_tree.proofs.AttrLemmas.{AreAttrs-more, attributes_kept, found, found_is, found_within, have_names, keyed, row_names, same_map-rows, unkeyed, value_at}
use Rattle.dom_tree.proofs.Places.{each_at, if_some, read_at}

-- the table that columns are seen as, and what holds of the node at an index

abbrev pub AreSeen : List Characters → List AttrRow → List NodeRow → Table → Type 0
AreSeen names attrs rows table = record { names = names; nodes = map (node_seen names attrs) rows } ≡ table

abbrev pub AtIndex : Table → ℕ → (Node → Type 0) → Type 0
AtIndex table i P = IfSome (slice_get table.nodes i) P

-- a list that grows at its end: its parts stay, and there is one more

abbrev pub IsWithin : {X : Type 0} → List X → Span → Type 0
IsWithin list span = span.first + span.count ≤ length list

module _ {X : Type 0} (list more : List X) {longer : List X} (e : longer ≡ list ++ more) (span : Span) where
  pub still_within : IsWithin list span → IsWithin longer span
  still_within h = omega (arith, ap length e, length-append list more)

  pub part_kept : IsWithin list span → part_of longer span ≡ part_of list span
  part_kept h =
      ap (λ l. part_of l span) e ∙ (ap (take span.count) (drop-append-le span.first list more (omega arith))
      ∙ take-append-le span.count (drop span.first list) more (omega (arith, length-drop span.first list)))

  module _ (first : span.first ≡ length list) (count : span.count ≡ length more) where
    pub last_within : IsWithin longer span
    last_within = omega (arith, ap length e, length-append list more)

    pub part_last : part_of longer span ≡ more
    part_last = ap (λ l. part_of l span) e ∙ (ap (take span.count) (drop_at list more span.first (sym first)) ∙ take_all span.count more (omega arith))

-- rows of nodes, once names and rows of attributes were added

module _ (old new : List Characters) (kept : KeepsTexts old new) where
  module _ (attrs more : List AttrRow) {later : List AttrRow} (e : later ≡ attrs ++ more) where
    row_kept : (row : NodeRow) → IsRow old attrs row → IsRow new later row
    row_kept row is = record {
      tag = below_more_names old new row.tag kept is.tag;
      within = still_within attrs more e row.attrs is.within;
      attributes = subst (AreAttrs new) (sym (part_kept attrs more e row.attrs is.within)) (AreAttrs-more old new (part_of attrs row.attrs) kept is.attributes);
    }

    node_kept : (row : NodeRow) → IsRow old attrs row → node_seen new later row ≡ node_seen old attrs row
    node_kept row is =
        let tag = text_kept old new row.tag kept is.tag in
        let here = ap (named_attributes new) (part_kept attrs more e row.attrs is.within) ∙ attributes_kept old new (part_of attrs row.attrs) kept is.attributes in
        λ i. record { parent = row.parent; tag = tag i; attrs = here i; states = states_of row.states }

    pub rows_kept : (rows : List NodeRow) → AreRows old attrs rows → AreRows new later rows
    rows_kept rows are = each_weaker (IsRow old attrs) (IsRow new later) row_kept rows are

    pub nodes_kept : (rows : List NodeRow) → AreRows old attrs rows → map (node_seen new later) rows ≡ map (node_seen old attrs) rows
    nodes_kept [] are = refl
    nodes_kept (row ∷ rows) are = λ i. node_kept row are.0 i ∷ nodes_kept rows are.1 i

  -- more names alone
  module _ {attrs later : List AttrRow} (e : later ≡ attrs) (rows : List NodeRow) (are : AreRows old attrs rows) where
    pub rows_renamed : AreRows new later rows
    rows_renamed = rows_kept attrs [] (e ∙ sym (append-nil attrs)) rows are

    pub nodes_renamed : {table : Table} → AreSeen old attrs rows table → map (node_seen new later) rows ≡ table.nodes
    nodes_renamed view = nodes_kept attrs [] (e ∙ sym (append-nil attrs)) rows are ∙ ap (λ (t : Table). t.nodes) view

-- one more node, whose attributes and then whose tag got names

module _ (old mid new : List Characters) (kept : KeepsTexts old mid) (also : KeepsTexts mid new) where
  grown : KeepsTexts old new
  grown = KeepsTexts-more old mid new kept also

  module _ (attrs : List AttrRow) {later more shown : List AttrRow} (s : shown ≡ more) (e : later ≡ attrs ++ shown) (rows : List NodeRow) {longer : List NodeRow} (are : AreRows old attrs rows) where
    -- no row more, after all
    pub rows_stay : longer ≡ rows → AreRows new later longer
    rows_stay f = subst (AreRows new later) (sym f) (rows_kept old new grown attrs shown e rows are)

    pub nodes_stay : {table : Table} → longer ≡ rows → AreSeen old attrs rows table → map (node_seen new later) longer ≡ table.nodes
    nodes_stay f view = ap (map (node_seen new later)) f ∙ (nodes_kept old new grown attrs shown e rows are ∙ ap (λ (t : Table). t.nodes) view)

    module _ (named : AreAttrs mid more) (row : NodeRow) (f : longer ≡ rows ++ row ∷ []) (is_first : row.attrs.first ≡ length attrs) (is_count : row.attrs.count ≡ length more) where
      last_part : part_of later row.attrs ≡ more
      last_part = part_last attrs shown e row.attrs is_first (is_count ∙ ap length (sym s)) ∙ s

      module _ (input : NodeInput) (is_tag : slice_get new row.tag ≡ Some (chars input.tag.now)) where
        pub rows_pushed : AreRows new later longer
        rows_pushed =
            let last : IsRow new later row = record {
              tag = slice_get_within new row.tag _ is_tag;
              within = last_within attrs shown e row.attrs is_first (is_count ∙ ap length (sym s));
              attributes = subst (AreAttrs new) (sym last_part) (AreAttrs-more mid new more also named);
            } in
            subst (AreRows new later) (sym f) (each-append (IsRow new later) rows (row ∷ []) (rows_kept old new grown attrs shown e rows are) (last, tt))

        pub nodes_pushed : {table : Table} → named_attributes mid more ≡ attributes_of input.attrs.now → row.states ≡ input.states → AreSeen old attrs rows table
            → map (node_seen new later) longer ≡ table.nodes ++ node_of row.parent input ∷ []
        nodes_pushed is_map is_states view =
            let tag = text_is new row.tag _ is_tag in
            let here = ap (named_attributes new) last_part ∙ (attributes_kept mid new more also named ∙ is_map) in
            let last : node_seen new later row ≡ node_of row.parent input = λ i. record { parent = row.parent; tag = tag i; attrs = here i; states = states_of (is_states i) } in
            let front = nodes_kept old new grown attrs shown e rows are ∙ ap (λ (t : Table). t.nodes) view in
            ap (map (node_seen new later)) f ∙ (map-append (node_seen new later) rows (row ∷ []) ∙ λ i. front i ++ last i ∷ [])

pub on_ok : {T E : Type 0} (r : Result T E) (P : Type 0) → P → OnOk r P
on_ok (Ok x) P h = h
on_ok (Err e) P h = tt

-- the tag of each node is the text of a name
pub tags_named : {names : List Characters} (attrs : List AttrRow) (rows : List NodeRow) {table : Table} → AreRows names attrs rows → AreSeen names attrs rows table
    → AllByRecursion (λ node. HasNameBelow table.names (length table.names) node.tag) table.nodes
tags_named {names} attrs rows are view = subst (λ (t : Table). AllByRecursion (λ (node : Node). HasNameBelow t.names (length t.names) node.tag) t.nodes) view (each rows are)
  where
    each : (rows : List NodeRow) → AreRows names attrs rows → AllByRecursion (λ (node : Node). HasNameBelow names (length names) node.tag) (map (node_seen names attrs) rows)
    each [] are = tt
    each (row ∷ rows) are = ((row.tag, are.0.tag, text_at names row.tag are.0.tag), each rows are.1)

-- what the columns show of the node at an index: its row was read
pub record IsRowAt (names : List Characters) (attrs : List AttrRow) (rows : List NodeRow) (table : Table) (i : ℕ) (row : NodeRow) : Type 0 where
  pub all : AreRows names attrs rows
  pub view : AreSeen names attrs rows table
  pub inside : i < length table.nodes
  pub read : row ≡ get_or rows i row

pub row_at : {names : List Characters} {attrs : List AttrRow} {rows : List NodeRow} {table : Table} {i : ℕ} {row : NodeRow}
    → AreRows names attrs rows → AreSeen names attrs rows table → i < length table.nodes → row ≡ get_or rows i row → IsRowAt names attrs rows table i row
row_at all view inside read = record { all = all; view = view; inside = inside; read = read }

module _ {names : List Characters} {attrs : List AttrRow} {rows : List NodeRow} {table : Table} {i : ℕ} {row : NodeRow} (at : IsRowAt names attrs rows table i row) where
  pub names_are : names ≡ table.names
  names_are = ap (λ (t : Table). t.names) at.view

  pub once_here : StandOnce table.names → StandOnce names
  once_here once = subst StandOnce (sym names_are) once

  pub here : slice_get rows i ≡ Some row
  here = read_at rows (omega (arith, at.inside, ap (λ (t : Table). length t.nodes) at.view, length-map rows (node_seen names attrs))) at.read

  pub row_is : IsRow names attrs row
  row_is = each_at (IsRow names attrs) rows i row at.all here

  pub seen_at : slice_get table.nodes i ≡ Some (node_seen names attrs row)
  seen_at =
      sym (ap (λ (t : Table). slice_get t.nodes i) at.view) ∙ (slice_get-map (node_seen names attrs) rows i ∙ ap (option_map (node_seen names attrs)) here)

  pub tag_seen : AtIndex table i (λ node. text_of table.names row.tag ≡ node.tag)
  tag_seen = if_some (λ node. text_of table.names row.tag ≡ node.tag) seen_at (ap (λ n. text_of n row.tag) (sym names_are))

  pub tag_within : row.tag < length table.names
  tag_within = subst (λ n. row.tag < length n) names_are row_is.tag

  pub value_unseen : (text : Characters) → is_among text table.names ≡ false → AtIndex table i (λ node. None ≡ finmap.get node.attrs text)
  value_unseen text absent =
      if_some (λ node. None ≡ finmap.get node.attrs text) seen_at (sym (unkeyed names (part_of attrs row.attrs) text (ap (is_among text) names_are ∙ absent) row_is.attributes))

  -- and its attributes, as a part of the flat list
  module _ {list part : List AttrRow} (d : list ≡ attrs) (s : part ≡ part_of list row.attrs) where
    pub part_is : part ≡ part_of attrs row.attrs
    part_is = s ∙ ap (λ l. part_of l row.attrs) d

    pub part_named : AreAttrs names part
    part_named = subst (AreAttrs names) (sym part_is) row_is.attributes

    pub attributes_seen : (P : Attributes → Type 0) → P (named_attributes names part) → AtIndex table i (λ node. P node.attrs)
    attributes_seen P h = if_some (λ (node : Node). P node.attrs) seen_at (subst (λ l. P (named_attributes names l)) part_is h)

    pub rows_named : HaveNames names part
    rows_named = have_names names part part_named

    pub attribute_names_seen : {shown : List Characters} → StandOnce table.names → shown ≡ map (name_text names) part → AtIndex table i (λ node. AreNamesOf (finmap.get node.attrs) shown)
    attribute_names_seen {shown} once e =
        attributes_seen (λ a. AreNamesOf (finmap.get a) shown) (subst (AreNamesOf (finmap.get (named_attributes names part))) (sym e) (row_names names (once_here once) part part_named))

    pub value_found : (name : ℕ) {value : Option ℕ} {text : Characters} → slice_get table.names name ≡ Some text → StandOnce table.names → value ≡ value_at name part
        → AtIndex table i (λ node. option_map (text_of table.names) value ≡ finmap.get node.attrs text)
    value_found name {value} {text} there once e =
        let named : slice_get names name ≡ Some text = ap (λ n. slice_get n name) names_are ∙ there in
        attributes_seen (λ a. option_map (text_of table.names) value ≡ finmap.get a text)
        (ap (λ n. option_map (text_of n) value) (sym names_are) ∙ (ap (option_map (text_of names)) e
        ∙ (sym (keyed names name (once_here once) (slice_get_within names name text named) part part_named) ∙ ap (finmap.get (named_attributes names part)) (text_is names name text named))))

    pub value_within : (name : ℕ) {value : Option ℕ} → value ≡ value_at name part → IfSome value (λ v. v < length table.names)
    value_within name e = subst₂ (λ o n. IfSome o (λ v. v < length n)) (sym e) names_are (found_within names part name part_named)

    -- the value of the attribute with the name of an atom
    pub text_by_atom : (atom : Characters) {shown value : Option Characters} → shown ≡ value → value ≡ found names atom part → AtIndex table i (λ node. shown ≡ finmap.get node.attrs atom)
    text_by_atom atom {shown} e h = attributes_seen (λ a. shown ≡ finmap.get a atom) (e ∙ (h ∙ sym (found_is names atom part)))

-- two nodes have the same attributes where their rows are equal
module _ {names : List Characters} {attrs : List AttrRow} {rows : List NodeRow} {table : Table} {i j : ℕ} {one other : NodeRow} (at : IsRowAt names attrs rows table i one) where
  pub same_attributes_seen : {list again xs ys : List AttrRow} {b : Bool} → IsRowAt names attrs rows table j other → StandOnce table.names
      → list ≡ attrs → xs ≡ part_of list one.attrs → again ≡ attrs → ys ≡ part_of again other.attrs → (IsTrue b ↔ (xs ≡ ys))
      → AtIndex table i (λ n. AtIndex table j (λ m. IsTrue b ↔ (n.attrs ≡ m.attrs)))
  same_attributes_seen {xs = xs} {ys = ys} {b = b} also once d s e t h =
      attributes_seen at d s (λ a. AtIndex table j (λ m. IsTrue b ↔ (a ≡ m.attrs)))
      (attributes_seen also e t (λ a. IsTrue b ↔ (named_attributes names xs ≡ a))
      (λ p. ap (named_attributes names) (h.0 p), λ maps. h.1 (same_map-rows names xs ys (once_here at once) (part_named at d s) (part_named also e t) maps)))
