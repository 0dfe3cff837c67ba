-- Refusals of edits by limits. What a statement leaves open can be past a later limit as well: the earlier one is told.
use Rattle.std.proofs.Common.{◌≡◌, ap, ◌∙◌, subst, inl, inr, zero, suc, sym, ℕ, ◌+◌, ◌<◌, ◌≤◌, Bool, true, false, not, cond, List, [], ◌∷◌, length, Some, None, is_some, option_and_then, refl, arith}
use Rattle.std.specs.Prelude.{codes}
use Rattle.std.specs.FinMap as maps
use Rattle.std.specs.List.{list_any}
use Rattle.std.specs.Option.{option_or}
use Rattle.std.proofs.lemmas.Bool.{cases_lt, le-leb, lt-leb}
use Rattle.std.proofs.lemmas.Cmp.{nat_list_cmp_total}
use Rattle.base_model.specs.Origin.{Origin}
use Rattle.base_model.specs.Sheet.{Sheet}
use Rattle.base_model.specs.Text.{Characters}
use Rattle.scene_model.specs.Element.{Attributes}
use Rattle.scene_model.specs.Lookups.{IsElement, children, parent_of}
use Rattle.scene_model.specs.Ancestors.{ancestors, depth_of}
use Rattle.scene_model.specs.Nodes.{Node, IsNodeList, scene_of, tree_order}
use Rattle.scene_model.specs.Document.{Document, document_of}
use Rattle.scene_model.proofs.Found.{parent_of-element}
use Rattle.scene_model.proofs.TreeOrder.{length-scene_of, IsElement-scene_of}
use Rattle.change_model.specs.Sound.{is_below, without, IsSound}
use Rattle.change_model.specs.ChildLists.{spot, numbered, inserted, CanInsert, CanMove}
use Rattle.change_model.proofs.Below.{below_itself, below_parent}
use Rattle.change_model.proofs.Inserted.{inserted_in, is_element-inserted, depth_of-inserted, depth_of-inserted_new, element_at-inserted_new, IsSound-inserted}
use Rattle.change_model.proofs.Moved.{is_element-moved, is_below-moved, depth_of-moved}
use Rattle.change_model.proofs.Started.{IsSound-document_of}
use Rattle.edit_model.specs.Edit.{insert, move, set, add_sheet, replace_sheet}
use Rattle.edit_model.specs.Refusal.{unknown_node, bad_place, limit, element_count, number_count, tree_depth, attribute_count, value_bytes, sheet_count, text_bytes, unless, past, bytes_of}
use Rattle.edit_model.specs.Apply.{after, unknown, is_misplaced, nodes_past, refusal}
use Rattle.edit_model.specs.SheetApply.{SheetList, is_of, sheet_refusal}
use Rattle.edit_model.proofs.ExampleCases.{quiet, bare, node}
use Rattle.edit_model.specs.Sizes.{letters, many}
use Rattle.edit_model.proofs.LimitCases.{over, within, by_limit, bytes-letters, no_longer_name, len-many, alone, len-alone, values-alone, values-none, length-put, too_deep_below, none_too_deep, chain, wide, IsNodeList-chain, IsNodeList-wide, length-chain, length-wide, depth-chain}

abbrev holding : Attributes → Node
holding attrs = record { parent = None; tag = codes "q"; attrs = attrs; states = quiet }

abbrev one : List Node
one = bare None (codes "q") ∷ []

IsNodeList-one : IsNodeList one
IsNodeList-one = record { some = omega arith; parents = (refl, tt) }

one_passes : nodes_past one ≡ None
one_passes = rw (maps.len-empty, values-none) refl

module _ (d : Document) (p index : ℕ) (there : IsElement d.elements p) (fits : index ≤ length (children d.elements p)) where
  known : (nodes : List Node) → unknown d (insert p index nodes) ≡ None
  known nodes = ap (λ b. unless b (unknown_node p)) there

  placed : (nodes : List Node) → is_misplaced d (insert p index nodes) ≡ false
  placed nodes = ap not (le-leb index (length (children d.elements p)) fits)

  -- whatever the values of the node are, and whatever nodes come behind it
  attributes_refused : (attrs : Attributes) (rest : List Node) → maps.len attrs ≡ 65 → refusal d (insert p index (holding attrs ∷ rest)) ≡ Some (limit attribute_count 64)
  attributes_refused attrs rest h =
      by_limit d (insert p index (holding attrs ∷ rest)) _ (known (holding attrs ∷ rest)) (placed (holding attrs ∷ rest)) (rw (over attribute_count 64 (maps.len attrs) (omega (arith, h))) refl)

  -- also where the next node has too many attributes
  value_refused : (text : Characters) (rest : List Node) → 1_048_576 < bytes_of text → refusal d (insert p index (holding (alone (codes "title") text) ∷ rest)) ≡ Some (limit value_bytes 1_048_576)
  value_refused text rest h =
      let first = holding (alone (codes "title") text) in
      by_limit d (insert p index (first ∷ rest)) _ (known (first ∷ rest)) (placed (first ∷ rest)) (rw (len-alone (codes "title") text, values-alone (codes "title") text, lt-leb (bytes_of text) 1_048_576 h) refl)

  -- the nodes one by one: a later one's attributes, behind a value that is as long as it may be
  next_refused : (attrs : Attributes) (text : Characters) → bytes_of text ≡ 1_048_576 → maps.len attrs ≡ 65 → refusal d (insert p index (holding (alone (codes "title") text) ∷ record (holding attrs) { parent = Some 0 } ∷ [])) ≡ Some (limit attribute_count 64)
  next_refused attrs text h k =
      let nodes = holding (alone (codes "title") text) ∷ record (holding attrs) { parent = Some 0 } ∷ [] in
      by_limit d (insert p index nodes) _ (known nodes) (placed nodes) (rw (len-alone (codes "title") text, values-alone (codes "title") text, le-leb (bytes_of text) 1_048_576 (omega (arith, h)), over attribute_count 64 (maps.len attrs) (omega (arith, k))) refl)

  -- with one more element

  grown : length (inserted d p index one).elements ≡ length d.elements + 1
  unfolding scene_of tree_order
  grown = length-put d.elements (spot d.elements p index) (numbered d.last p one)

  -- whatever number was given last, and however deep p is
  elements_refused : length d.elements ≡ 65_536 → refusal d (insert p index one) ≡ Some (limit element_count 65_536)
  elements_refused h =
      by_limit d (insert p index one) _ (known one) (placed one) (rw (one_passes, over element_count 65_536 (length (inserted d p index one).elements) (omega (arith, grown, h))) refl)

  fewer : length d.elements ≤ 65_535 → past element_count 65_536 (length (inserted d p index one).elements) ≡ None
  fewer h =
      within element_count 65_536 (length (inserted d p index one).elements) (omega (arith, grown, h))

  -- however deep p is
  numbers_refused : length d.elements ≤ 65_535 → d.last ≡ 4_000_000 → refusal d (insert p index one) ≡ Some (limit number_count 4_000_000)
  numbers_refused h k =
      by_limit d (insert p index one) _ (known one) (placed one) (rw (one_passes, fewer h, over number_count 4_000_000 (inserted d p index one).last (omega (arith, k))) refl)

  depth_refused : IsSound d → length d.elements ≤ 65_535 → d.last ≤ 3_999_999 → depth_of d.elements p ≡ 256 → refusal d (insert p index one) ≡ Some (limit tree_depth 256)
  unfolding scene_of tree_order ancestors
  depth_refused sound h k deep =
      let can : CanInsert d p one = record { sound = sound; there = there; shape = IsNodeList-one } in
      let new = (inserted d p index one).elements in
      let depth : depth_of new (d.last + 1) ≡ 1 + depth_of d.elements p = depth_of-inserted_new can index 1 refl in
      by_limit d (insert p index one) _ (known one) (placed one) (rw (one_passes, fewer h, within number_count 4_000_000 (inserted d p index one).last (omega (arith, k))) (too_deep_below new (d.last + 1) (d.last + 1) (inserted_in can index (d.last + 1) (omega arith) (omega arith)) (below_itself new (d.last + 1)) (omega (arith, depth, deep))))

  depth_accepted : IsSound d → ((x : ℕ) → IsElement d.elements x → depth_of d.elements x ≤ 256) → length d.elements ≤ 65_535 → d.last ≤ 3_999_999 → depth_of d.elements p ≤ 255 → refusal d (insert p index one) ≡ None
  unfolding scene_of tree_order ancestors
  depth_accepted sound old h k shallow =
      by_limit d (insert p index one) _ (known one) (placed one) (rw (one_passes, fewer h, within number_count 4_000_000 (inserted d p index one).last (omega (arith, k))) (none_too_deep (inserted d p index one).elements (d.last + 1) each))
    where
      can : CanInsert d p one
      can = record { sound = sound; there = there; shape = IsNodeList-one }

      newest : depth_of (inserted d p index one).elements (d.last + 1) ≤ 256
      newest = omega (arith, depth_of-inserted_new can index 1 refl, shallow)

      each : (x : ℕ) → IsElement (inserted d p index one).elements x → depth_of (inserted d p index one).elements x ≤ 256
      each x now = elim (cases_lt d.last x) [
        | inl high ↦ subst (λ y. depth_of (inserted d p index one).elements y ≤ 256) (omega (arith, high, ((IsSound-inserted can index).given x now).1)) newest
        | inr low ↦ omega (arith, depth_of-inserted can index x low, old x (sym (is_element-inserted can index x low) ∙ now))
      ]

  -- as deep as the deepest of the new ones
  deeper_refused : IsSound d → length d.elements ≤ 65_534 → d.last ≤ 3_999_998 → depth_of d.elements p ≡ 255 → refusal d (insert p index (bare None (codes "q") ∷ bare (Some 0) (codes "s") ∷ [])) ≡ Some (limit tree_depth 256)
  unfolding scene_of tree_order ancestors
  deeper_refused sound h k deep =
      let nodes = bare None (codes "q") ∷ bare (Some 0) (codes "s") ∷ [] in
      let shape : IsNodeList nodes = record { some = omega arith; parents = (refl, (omega arith, tt)) } in
      let can : CanInsert d p nodes = record { sound = sound; there = there; shape = shape } in
      let new = (inserted d p index nodes).elements in
      let size : length new ≡ length d.elements + 2 = length-put d.elements (spot d.elements p index) (numbered d.last p nodes) in
      let passes : nodes_past nodes ≡ None = rw (maps.len-empty, values-none) refl in
      let depth : depth_of new (d.last + 2) ≡ 2 + depth_of d.elements p = depth_of-inserted_new can index 2 refl in
      let first : parent_of new (d.last + 2) ≡ Some (d.last + 1) = parent_of-second can in
      by_limit d (insert p index nodes) _ (known nodes) (placed nodes) (rw (passes, within element_count 65_536 (length new) (omega (arith, size, h)), within number_count 4_000_000 (inserted d p index nodes).last (omega (arith, k))) (too_deep_below new (d.last + 1) (d.last + 2) (inserted_in can index (d.last + 2) (omega arith) (omega arith)) (below_parent new (IsSound-inserted can index).valid (d.last + 1) (d.last + 2) (d.last + 1) first (below_itself new (d.last + 1))) (omega (arith, depth, deep))))
    where
      parent_of-second : (can : CanInsert d p (bare None (codes "q") ∷ bare (Some 0) (codes "s") ∷ [])) → parent_of (inserted d p index (bare None (codes "q") ∷ bare (Some 0) (codes "s") ∷ [])).elements (d.last + 2) ≡ Some (d.last + 1)
      parent_of-second can = ap (option_and_then (λ e. e.parent)) (element_at-inserted_new can index 2 refl)

-- a root with 65,535 children, and a chain of 256 elements

wide_refused : refusal (document_of (wide 65_535)) (insert 1 0 one) ≡ Some (limit element_count 65_536)
wide_refused =
    let w = IsNodeList-wide 65_535 in
    elements_refused (document_of (wide 65_535)) 1 0 (IsElement-scene_of (wide 65_535) w 1 (omega arith) w.some) (omega arith) (length-scene_of (wide 65_535) w ∙ length-wide 65_535)

chain_refused : refusal (document_of (chain 255)) (insert 256 0 one) ≡ Some (limit tree_depth 256)
chain_refused =
    let w = IsNodeList-chain 255 in
    let size = length-chain 255 in
    depth_refused (document_of (chain 255)) 256 0 (IsElement-scene_of (chain 255) w 256 (omega arith) (omega (arith, size))) (omega arith) (IsSound-document_of (chain 255) w) (omega (arith, length-scene_of (chain 255) w, size)) (omega (arith, size)) (depth-chain 255 255 (omega arith))

chain_accepted : refusal (document_of (chain 254)) (insert 255 0 one) ≡ None
chain_accepted =
    let w = IsNodeList-chain 254 in
    let size = length-chain 254 in
    let sound = IsSound-document_of (chain 254) w in
    depth_accepted (document_of (chain 254)) 255 0 (IsElement-scene_of (chain 254) w 255 (omega arith) (omega (arith, size))) (omega arith) sound (λ x there. shallow x (sound.given x there).0 (sound.given x there).1) (omega (arith, length-scene_of (chain 254) w, size)) (omega (arith, size)) (omega (arith, depth-chain 254 254 (omega arith)))
  where
    shallow : (x : ℕ) → 0 < x → x ≤ length (chain 254) → depth_of (scene_of (chain 254)) x ≤ 256
    shallow zero low high = absurd (omega arith)
    shallow (suc x) low high =
        let same : suc x ≡ x + 1 = omega arith in
        let deep : depth_of (scene_of (chain 254)) (suc x) ≡ x + 1 = ap (depth_of (scene_of (chain 254))) same ∙ depth-chain 254 x (omega (arith, high, length-chain 254)) in
        omega (arith, deep, high, length-chain 254)

-- moves

module _ {d : Document} {n o p : ℕ} (can : CanMove d n o p) (index : ℕ) where
  known_move : unknown d (move n p index) ≡ None
  known_move = rw (parent_of-element d.elements n o can.parent, can.there) refl

  -- before all that a move would make too deep
  move_misplaced : length (children (without d.elements n) p) < index → refusal d (move n p index) ≡ Some bad_place
  move_misplaced h =
      rw (known_move, can.parent, can.apart, lt-leb index (length (children (without d.elements n) p)) h) refl

  -- an element of the subtree would come to stand deeper than 256
  move_refused : index ≤ length (children (without d.elements n) p) → (z : ℕ) → IsElement d.elements z → is_below d.elements n z ≡ true → depth_of d.elements n + 255 < depth_of d.elements z + depth_of d.elements p → refusal d (move n p index) ≡ Some (limit tree_depth 256)
  move_refused fits z there below deep =
      let new = (after d (move n p index)).elements in
      let depth : depth_of new z + depth_of d.elements n ≡ depth_of d.elements z + depth_of d.elements p + 1 = depth_of-moved can index z below in
      let placed : is_misplaced d (move n p index) ≡ false = rw (can.parent, can.apart, le-leb index (length (children (without d.elements n) p)) fits) refl in
      by_limit d (move n p index) _ known_move placed (too_deep_below new n z (is_element-moved can index z ∙ there) (is_below-moved can index z ∙ below) (omega (arith, depth, deep)))

-- attributes and values that are set

-- `1 html; 2 p in 1`, and the attributes of 2
abbrev holder : Attributes → Document
holder attrs = record {
  elements = node 1 None (codes "html") [] ∷ record (node 2 (Some 1) (codes "p") []) { attrs = attrs } ∷ [];
  last = 2;
}

module _ (attrs : Attributes) (name text : Characters) where
  -- how many there are afterwards, and how long the value is
  set_limits : (there : Bool) → maps.contains_key attrs name ≡ there → refusal (holder attrs) (set 2 name text) ≡ option_or (past attribute_count 64 (cond there (maps.len attrs) (maps.len attrs + 1))) (past value_bytes 1_048_576 (bytes_of text))
  set_limits there h =
      ap (λ n. option_or (past attribute_count 64 n) (past value_bytes 1_048_576 (bytes_of text))) (maps.len-insert nat_list_cmp_total attrs name text ∙ ap (λ b. cond b (maps.len attrs) (maps.len attrs + 1)) h)

  -- one more, however long its value is
  set_refused : maps.contains_key attrs name ≡ false → maps.len attrs ≡ 64 → refusal (holder attrs) (set 2 name text) ≡ Some (limit attribute_count 64)
  set_refused h k =
      set_limits false h ∙ rw (over attribute_count 64 (maps.len attrs + 1) (omega (arith, k))) refl

  value_set_refused : maps.contains_key attrs name ≡ false → maps.len attrs ≤ 63 → 1_048_576 < bytes_of text → refusal (holder attrs) (set 2 name text) ≡ Some (limit value_bytes 1_048_576)
  value_set_refused h k l =
      set_limits false h ∙ rw (within attribute_count 64 (maps.len attrs + 1) (omega (arith, k)), over value_bytes 1_048_576 (bytes_of text) l) refl

  -- one of 64 can have another value
  set_accepted : maps.contains_key attrs name ≡ true → maps.len attrs ≡ 64 → bytes_of text ≡ 1_048_576 → refusal (holder attrs) (set 2 name text) ≡ None
  set_accepted h k l =
      set_limits true h ∙ rw (within attribute_count 64 (maps.len attrs) (omega (arith, k)), within value_bytes 1_048_576 (bytes_of text) (omega (arith, l))) refl

many_refused : refusal (holder (many 64)) (set 2 (letters 65) (letters 1_048_577)) ≡ Some (limit attribute_count 64)
many_refused =
    set_refused (many 64) (letters 65) (letters 1_048_577) (ap is_some (no_longer_name 65 64 (omega arith))) (len-many 64)

long_refused : refusal (holder (many 63)) (set 2 (letters 64) (letters 1_048_577)) ≡ Some (limit value_bytes 1_048_576)
long_refused =
    value_set_refused (many 63) (letters 64) (letters 1_048_577) (ap is_some (no_longer_name 64 63 (omega arith))) (omega (arith, len-many 63)) (omega (arith, bytes-letters 1_048_577))

-- sheets

module _ (sheets : List Sheet) (last : ℕ) (origin : Origin) (on : Bool) (text : Characters) where
  abbrev list : SheetList
  list = record { listed = sheets; last = last }

  -- before the limits: whatever was given last and however long the text is
  sheet_misplaced : length sheets ≡ 256 → sheet_refusal list (add_sheet 257 origin on text) ≡ Some bad_place
  sheet_misplaced h = rw (lt-leb 257 (length sheets) (omega (arith, h))) refl

  sheets_refused : length sheets ≡ 256 → sheet_refusal list (add_sheet 256 origin on text) ≡ Some (limit sheet_count 256)
  sheets_refused h =
      rw (le-leb 256 (length sheets) (omega (arith, h)), over sheet_count 256 (length sheets + 1) (omega (arith, h))) refl

  sheet_numbers_refused : length sheets ≡ 255 → last ≡ 4_000_000 → sheet_refusal list (add_sheet 255 origin on text) ≡ Some (limit number_count 4_000_000)
  sheet_numbers_refused h k =
      rw (le-leb 255 (length sheets) (omega (arith, h)), within sheet_count 256 (length sheets + 1) (omega (arith, h)), over number_count 4_000_000 (last + 1) (omega (arith, k))) refl

  sheet_text_refused : length sheets ≡ 255 → last ≡ 3_999_999 → 4_194_304 < bytes_of text → sheet_refusal list (add_sheet 255 origin on text) ≡ Some (limit text_bytes 4_194_304)
  sheet_text_refused h k l =
      rw (le-leb 255 (length sheets) (omega (arith, h)), within sheet_count 256 (length sheets + 1) (omega (arith, h)), within number_count 4_000_000 (last + 1) (omega (arith, k)), over text_bytes 4_194_304 (bytes_of text) l) refl

  sheet_accepted : length sheets ≡ 255 → last ≡ 3_999_999 → bytes_of text ≡ 4_194_304 → sheet_refusal list (add_sheet 255 origin on text) ≡ None
  sheet_accepted h k l =
      rw (le-leb 255 (length sheets) (omega (arith, h)), within sheet_count 256 (length sheets + 1) (omega (arith, h)), within number_count 4_000_000 (last + 1) (omega (arith, k)), within text_bytes 4_194_304 (bytes_of text) (omega (arith, l))) refl

  text_replaced : (n : ℕ) → list_any (is_of n) sheets ≡ true → 4_194_304 < bytes_of text → sheet_refusal list (replace_sheet n text) ≡ Some (limit text_bytes 4_194_304)
  text_replaced n h l = rw (h, over text_bytes 4_194_304 (bytes_of text) l) refl
