-- The document once the nodes of a list are put in: its elements, their order, which numbers are theirs, and their children.
use Rattle.std.proofs.Common.{◌≡◌, ◌≢◌, ℕ, zero, suc, ◌+◌, ◌-◌, ◌<◌, ◌≤◌, ◌==◌, ◌||◌, ◌&&◌, Bool, true, false, nat_lt, List, [], ◌∷◌, ◌++◌, map, take, drop, length, slice_set}
use Rattle.std.proofs.Common.{Option, Some, None, IfSome, is_some, option_and_then, option_map, unwrap_or, slice_get, sym, ap, ◌∙◌, subst, refl, inl, inr, arith}
use Rattle.std.proofs.Common.{length-append, length-drop, length-take-le}
use Rattle.std.specs.List.{AllByRecursion}
use Rattle.std.specs.Option.{option_map_or}
use Rattle.std.proofs.Math.ListN.{replicate}
use Rattle.std.proofs.lemmas.Bool.{cases_eq, cases_lt, false_from_ne_true, false≢true}
use Rattle.std.proofs.lemmas.Bool.Decides.{nat_tests}
use Rattle.std.proofs.lemmas.List.{length-map, length-replicate, length-set}
use Rattle.std.proofs.lemmas.Option.{slice_get-map, slice_get_past}
use Rattle.base_model.specs.Limits.{number_limit}
use Rattle.scene_model.specs.Document.{Document}
use Rattle.scene_model.specs.Element.{Element}
use Rattle.scene_model.specs.Lookups.{IsElement, children, element_at, is_element, numbers, parent_of, tag_of}
use Rattle.scene_model.specs.Nodes.{Node, IsNodeList, listed, scene_of, tree_order}
use Rattle.scene_model.proofs.Found.{is_element-at}
use Rattle.scene_model.proofs.Listed.{each_child-within, is_element-listed}
use Rattle.scene_model.proofs.Numbers.{same_number}
use Rattle.scene_model.proofs.TreeOrder.{IsElement-scene_of, IsValid-scene_of, children-scene_of, each_in_order, element_at-scene_of, length-scene_of, length-tree_order, within-scene_of}
use Rattle.change_model.specs.ChildLists.{CanInsert, inserted, numbered, renumbered, spot}
use Rattle.change_model.specs.Sound.{IsSound}
use Rattle.change_model.proofs.Columns.{element_at-append_new, element_at-append_old, get_left}
use Rattle.change_model.proofs.Inserted.{IsSound-inserted, children-inserted, children-inserted_new, children-inserted_parent, element_at-inserted, element_at-inserted_new, inserted_in}
use Rattle.change_model.proofs.Inserted.{is_element-inserted, parent_of-inserted}
use Rattle.change_model.proofs.Orders.{order-inserted}
use Rattle.change_model.proofs.Spots.{IsSpot-spot}
use Rattle.dom_tree.specs.ChildLists.{AreChildren, list_with, lists_of}
use Rattle.dom_tree.specs.Kept.{Table, kept_node}
use Rattle.dom_tree.specs.SiblingPlaces.{or_above}
use Rattle.dom_tree.specs.Turned.{raised, turned}
use Rattle.dom_tree.specs.Whole.{ArePresent, IsWhole, Parts, document, in_order, is_present}
use Rattle.dom_tree.proofs.AppendLemmas.{get_behind}
use Rattle.dom_tree.proofs.KeptLemmas.{element_at-in_order}
use Rattle.dom_tree.proofs.KeptPlaces.{IsDocument, Leaves, or_is}
use Rattle.dom_tree.proofs.Parts.{AreSeenAs}
use Rattle.dom_tree.proofs.Places.{at_some, get_set_other, get_set_same, replicate_at}
use Rattle.dom_tree.proofs.RemovedDocument.{in_order_is}
use Rattle.dom_tree.proofs.TurnLemmas.{put_at}

-- numbers that are raised are those after the last one, where there are so many

raised_is : (last n : ℕ) → last + n ≤ number_limit → raised last n ≡ last + n
raised_is last n l = omega (arith, l)

pub map_raised : (last m : ℕ) (xs : List ℕ) → last + m ≤ number_limit → AllByRecursion (λ y. (0 < y) × (y ≤ m)) xs → map (raised last) xs ≡ map (λ n. last + n) xs
map_raised last m [] fits h = refl
map_raised last m (x ∷ xs) fits h = λ i. raised_is last x (omega (arith, fits, h.0)) i ∷ map_raised last m xs fits h.1 i

module _ {p : Parts} {now : Document} (whole : IsWhole p) (view : AreSeenAs p now) (o index : ℕ) {list : List Node} (there_now : IsElement now.elements o) (shape : IsNodeList list)
    (fits_now : now.last + length list ≤ number_limit) where
  abbrev pub doc : List Element
  doc = in_order p.table.nodes p.order

  abbrev d : Document
  d = document p.table p.order

  abbrev last : ℕ
  last = length p.table.nodes

  abbrev scene : List Element
  scene = scene_of list

  abbrev pub after : List Element
  after = (inserted d o index list).elements

  pub there : IsElement doc o
  there = ap (λ (d : Document). is_element d.elements o) view ∙ there_now

  pub fits : last + length list ≤ number_limit
  fits = omega (arith, fits_now, ap (λ (d : Document). d.last) view)

  pub can : CanInsert d o list
  can = record { sound = whole.sound; there = there; shape = shape }

  pub sound_after : IsSound (inserted d o index list)
  sound_after = IsSound-inserted can index

  low : (x : ℕ) → IsElement after x → 0 < x
  low x h = (sound_after.given x h).0

  -- an element was there before, or is one of the list

  pub old_in : (x : ℕ) → x ≤ last → IsElement after x → IsElement doc x
  old_in x l h = sym (is_element-inserted can index x l) ∙ h

  pub new_in : (x : ℕ) → last < x → IsElement after x → (y : ℕ) × (last + y ≡ x) × IsElement scene y
  new_in x l h =
      let back : last + (x - last) ≡ x = omega (arith, l) in
      (x - last, back, IsElement-scene_of list shape (x - last) (omega (arith, l)) (omega (arith, sound_after.given x h)))

  pub last_below : (x : ℕ) → IsElement doc x → x ≤ last
  last_below x h = (whole.sound.given x h).1

  -- its parent

  abbrev pub pending : ℕ → Bool
  pending = or_above (or_is (λ _. false) o) last

  quiet_above : (q : ℕ) → pending q ≡ false → (q ≤ last) × (q ≢ o)
  quiet_above q h = by (q == o) refl h
    where
      by : (b : Bool) → (q == o) ≡ b → (b || nat_lt last q) ≡ false → (q ≤ last) × (q ≢ o)
      by true e h = absurd (cc)
      by false e h = (grind (arith, nat_tests), λ f. false≢true (sym e ∙ (ap (λ r. r == o) f ∙ same_number o)))

  parent_new : (y : ℕ) (e : Element) → IsElement scene y → element_at scene y ≡ Some e → parent_of after (last + y) ≡ Some (option_map_or (λ q. last + q) e.parent o)
  parent_new y e h at = ap (option_and_then (λ (e : Element). e.parent)) (element_at-inserted_new can index y h ∙ ap (option_map (renumbered last o)) at)

  -- what is new hangs on what is pending
  new_pending : (y : ℕ) → IsElement scene y → option_map_or pending (parent_of after (last + y)) false ≡ true
  new_pending y h = by (element_at scene y) refl (sym (is_element-at scene y) ∙ h)
    where
      own : (e : Element) → element_at scene y ≡ Some e → (q : Option ℕ) → e.parent ≡ q → pending (option_map_or (λ q. last + q) q o) ≡ true
      own e at None f = ap (λ b. b || nat_lt last o) (same_number o)
      own e at (Some q) f =
          let above : parent_of scene y ≡ Some q = ap (option_and_then (λ (e : Element). e.parent)) at ∙ f in
          let positive : 0 < q = (within-scene_of list shape q ((IsValid-scene_of list shape).parents y q above).0).0 in
          more (last + q == o) (nat_lt last (last + q)) (grind (arith, nat_tests))
        where
          more : (a b : Bool) → b ≡ true → (a || b) ≡ true
          more true b h = refl
          more false b h = h

      by : (a : Option Element) → element_at scene y ≡ a → is_some a ≡ true → option_map_or pending (parent_of after (last + y)) false ≡ true
      by None at h = absurd (cc)
      by (Some e) at i = ap (λ r. option_map_or pending r false) (parent_new y e h at) ∙ own e at e.parent refl

  pub quiet_old : (x : ℕ) → IsElement after x → option_map_or pending (parent_of after x) false ≡ false → x ≤ last
  quiet_old x h quiet = elim (cases_lt last x) [
    | inl new ↦
        let (y, e, is) = new_in x new h in
        absurd (false≢true (sym quiet ∙ (ap (λ r. option_map_or pending (parent_of after r) false) (sym e) ∙ new_pending y is)))
    | inr old ↦ old
  ]

  pub same_tag : (x : ℕ) → x ≤ last → tag_of doc x ≡ tag_of after x
  same_tag x l = ap (λ a. unwrap_or (option_map (λ (e : Element). e.tag) a) []) (sym (element_at-inserted can index x l))

  pub leaves : Leaves doc after pending
  leaves = record {
    there = λ x h quiet. (let l = quiet_old x h quiet in (old_in x l h, sym (parent_of-inserted can index x l)));
    lists = λ q h quiet. (let (l, other) = quiet_above q quiet in sym (children-inserted can index q l other));
    tags = λ x h was. same_tag x (last_below x was);
  }

  -- the columns of all nodes

  module _ (later : Table) (nodes : later.nodes ≡ p.table.nodes ++ map (kept_node last o) list) where
    pub so_many : length later.nodes ≡ last + length list
    so_many = ap length nodes ∙ (length-append p.table.nodes (map (kept_node last o) list) ∙ ap (λ n. last + n) (length-map list (kept_node last o)))

    shown : (x : ℕ) → element_at (listed later.nodes) x ≡ element_at (listed (p.table.nodes ++ map (kept_node last o) list)) x
    shown x = ap (λ l. element_at (listed l) x) nodes

    o_low : 0 < o
    o_low = (whole.sound.given o there).0

    pub found_after : (x : ℕ) → IsElement after x → element_at (listed later.nodes) x ≡ element_at after x
    found_after x h = elim (cases_lt last x) [
      | inl new ↦
          let (y, e, is) = new_in x new h in
          let within = within-scene_of list shape y is in
          let back : y - 1 + 1 ≡ y = omega (arith, within) in
          let there = ap (λ k. element_at (listed (p.table.nodes ++ map (kept_node last o) list)) (last + k)) (sym back) ∙ (element_at-append_new p.table.nodes list o (y - 1) o_low
          ∙ ap (λ k. option_map (renumbered last o) (element_at (listed list) k)) back) in
          shown x ∙ (ap (element_at (listed (p.table.nodes ++ map (kept_node last o) list))) (sym e) ∙ (there
          ∙ (ap (option_map (renumbered last o)) (sym (element_at-scene_of list shape y)) ∙ (sym (element_at-inserted_new can index y is) ∙ ap (element_at after) e))))
      | inr old ↦
          shown x ∙ (element_at-append_old p.table.nodes (map (kept_node last o) list) x old
          ∙ (sym (element_at-in_order p.table.nodes p.order x (old_in x old h)) ∙ sym (element_at-inserted can index x old)))
    ]

    pub is_after : IsDocument later after
    is_after = record {
      valid = sound_after.valid;
      given = λ x h. (let within = sound_after.given x h in (within.0, omega (arith, within.1, so_many)));
      tags = λ x h. ap (λ a. unwrap_or (option_map (λ (e : Element). e.tag) a) []) (found_after x h);
    }

    -- the order

    module _ {order run : List ℕ} {place count : ℕ} (place_now : place ≡ spot now.elements o index) (count_is : count ≡ length p.order) (run_is : run ≡ tree_order list)
        (order_is : order ≡ turned place (count + length list) (count - place) (p.order ++ map (raised last) run)) where
      place_is : place ≡ spot doc o index
      place_is = place_now ∙ ap (λ (d : Document). spot d.elements o index) (sym view)

      so_long : length p.order ≡ length doc
      so_long = ap length (sym whole.listed) ∙ length-map doc (λ (e : Element). e.number)

      raised_run : map (raised last) run ≡ map (λ n. last + n) (tree_order list)
      raised_run = ap (map (raised last)) run_is ∙ map_raised last (length list) (tree_order list) fits (each_in_order list shape)

      run_long : length (map (raised last) run) ≡ length list
      run_long = length-map run (raised last) ∙ (ap length run_is ∙ length-tree_order list shape)

      pub place_within : place ≤ length p.order
      place_within = omega (arith, so_long, place_is, (IsSpot-spot doc whole.sound.valid whole.sound.runs o there index).within)

      pub order_after : numbers after ≡ order
      order_after =
          let all : count + length list ≡ length (p.order ++ map (raised last) run) = omega (arith, count_is, length-append p.order (map (raised last) run), run_long) in
          order-inserted d o index list shape
          ∙ ((λ i. take (spot doc o index) (whole.listed i) ++ (sym raised_run i ++ drop (spot doc o index) (whole.listed i)))
          ∙ ((λ i. take (sym place_is i) p.order ++ (map (raised last) run ++ drop (sym place_is i) p.order))
          ∙ (sym (put_at p.order (map (raised last) run) place (count - place) place_within (omega (arith, count_is)))
          ∙ (ap (λ n. turned place n (count - place) (p.order ++ map (raised last) run)) (sym all) ∙ sym order_is))))

      pub same_elements : in_order later.nodes order ≡ after
      same_elements = in_order_is later.nodes after order sound_after.valid order_after found_after

      pub document_after : document later order ≡ inserted now o index list
      document_after = (λ i. record { elements = same_elements i; last = so_many i }) ∙ ap (λ d. inserted d o index list) view

  -- which numbers are elements'

  pub present_after : {present : List Bool} → present ≡ p.present ++ replicate (length list) true → ArePresent (last + length list) after present
  present_after {present} e = record { count = ap length e ∙ (length-append p.present (replicate (length list) true) ∙ both); each = one }
    where
      both : length p.present + length (replicate (length list) true) ≡ last + length list
      both = omega (arith, whole.known.count, length-replicate (length list) true)

      past : (x : ℕ) → (IsElement after x → ⊥) → is_element after x ≡ false
      past x h = false_from_ne_true (is_element after x) h

      one : (x : ℕ) → is_element after x ≡ is_present present x
      one zero = past 0 (λ h. omega (arith, low 0 h))
      one (suc k) = elim (cases_lt k last) [
        | inl old ↦
            let here = get_left p.present (replicate (length list) true) k (omega (arith, old, whole.known.count)) in
            let less : suc k - 1 ≡ k = omega arith in
            is_element-inserted can index (suc k) (omega (arith, old)) ∙ (whole.known.each (suc k)
            ∙ ap (λ a. nat_lt 0 (suc k) && unwrap_or a false) (ap (slice_get p.present) less ∙ (sym here ∙ (ap (λ l. slice_get l k) (sym e) ∙ ap (slice_get present) (sym less)))))
        | inr more ↦ (elim (cases_lt k (last + length list)) [
          | inl new ↦
              let less : suc k - 1 ≡ length p.present + (k - last) = omega (arith, more, whole.known.count) in
              let at : slice_get present (suc k - 1) ≡ Some true =
              (λ i. slice_get (e i) (less i)) ∙ (get_behind p.present (replicate (length list) true) (k - last) ∙ replicate_at (length list) (k - last) true (omega (arith, more, new))) in
              inserted_in can index (suc k) (omega (arith, more)) (omega (arith, new)) ∙ sym (ap (λ a. nat_lt 0 (suc k) && unwrap_or a false) at ∙ positive k)
          | inr beyond ↦
              let at : slice_get present (suc k - 1) ≡ None = slice_get_past present (suc k - 1) (omega (arith, beyond, ap length e, length-append p.present (replicate (length list) true), both)) in
              past (suc k) (λ h. omega (arith, sound_after.given (suc k) h, beyond)) ∙ sym (ap (λ a. nat_lt 0 (suc k) && unwrap_or a false) at ∙ nothing (nat_lt 0 (suc k)))
        ])
      ]
        where
          nothing : (b : Bool) → (b && false) ≡ false
          nothing true = refl
          nothing false = refl

          positive : (k : ℕ) → (nat_lt 0 (suc k) && true) ≡ true
          positive k = grind (arith, nat_tests)

  -- the lists

  module _ {found : List (List ℕ)} (lists : List (List ℕ)) (are : AreChildren (length list) (listed list) found)
      (put : IfSome (slice_get (lists_of p.flat p.spans ++ map (map (raised last)) found) (o - 1)) (λ own. lists ≡ slice_set (lists_of p.flat p.spans ++ map (map (raised last)) found) (o - 1)
      (list_with index (last + 1) own))) where
    abbrev old : List (List ℕ)
    old = lists_of p.flat p.spans

    abbrev all : List (List ℕ)
    all = old ++ map (map (raised last)) found

    all_long : length all ≡ last + length list
    all_long = length-append old (map (map (raised last)) found) ∙ omega (arith, whole.children_of.count, length-map found (map (raised last)), are.count)

    in_front : (x : ℕ) → IsElement doc x → slice_get all (x - 1) ≡ Some (children doc x)
    in_front x h =
        let within = whole.sound.given x h in
        get_left old (map (map (raised last)) found) (x - 1) (omega (arith, within, whole.children_of.count)) ∙ whole.children_of.each x h

    behind : (y : ℕ) → IsElement scene y → slice_get all (last + y - 1) ≡ Some (children after (last + y))
    behind y h =
        let within = within-scene_of list shape y h in
        let place : last + y - 1 ≡ length old + (y - 1) = omega (arith, within, whole.children_of.count) in
        let there = are.each y (is_element-listed list y within.0 within.1) in
        ap (slice_get all) place ∙ (get_behind old (map (map (raised last)) found) (y - 1) ∙ (slice_get-map (map (raised last)) found (y - 1) ∙ (ap (option_map (map (raised last))) there
        ∙ ap Some (map_raised last (length list) (children (listed list) y) fits (each_child-within list y) ∙ (ap (map (λ n. last + n)) (sym (children-scene_of list shape y))
        ∙ sym (children-inserted_new can index y h))))))

    lists_are : lists ≡ slice_set all (o - 1) (children after o)
    lists_are =
        at_some (λ (own : List ℕ). lists ≡ slice_set all (o - 1) (list_with index (last + 1) own)) (in_front o there) put
        ∙ ap (slice_set all (o - 1)) (sym (children-inserted_parent can index))

    pub children_after : AreChildren (last + length list) after lists
    children_after = record { count = ap length lists_are ∙ (length-set all (o - 1) (children after o) ∙ all_long); each = one }
      where
        o_within : (0 < o) × (o ≤ last)
        o_within = whole.sound.given o there

        one : (x : ℕ) → IsElement after x → slice_get lists (x - 1) ≡ Some (children after x)
        one x h = ap (λ l. slice_get l (x - 1)) lists_are ∙ elim (cases_eq x o) [
          | inl same ↦ ap (λ k. slice_get (slice_set all (o - 1) (children after o)) (k - 1)) same
              ∙ (get_set_same all (o - 1) (children after o) (omega (arith, o_within, all_long)) ∙ ap (λ k. Some (children after k)) (sym same))
          | inr other ↦
              let apart : o - 1 ≢ x - 1 = λ g. other (omega (arith, g, o_within, low x h)) in
              get_set_other all (o - 1) (x - 1) (children after o) apart ∙ elim (cases_lt last x) [
                | inl new ↦ (let (y, e, is) = new_in x new h in subst (λ x. slice_get all (x - 1) ≡ Some (children after x)) e (behind y is))
                | inr was ↦ in_front x (old_in x was h) ∙ ap Some (sym (children-inserted can index x was other))
              ]
        ]

  pub length_after : length after ≡ length now.elements + length list
  length_after =
      length-append (take (spot doc o index) doc) (numbered last o list ++ drop (spot doc o index) doc)
      ∙ omega (
        arith,
        length-append (numbered last o list) (drop (spot doc o index) doc),
        length-take-le (spot doc o index) doc (IsSpot-spot doc whole.sound.valid whole.sound.runs o there index).within,
        length-drop (spot doc o index) doc,
        (IsSpot-spot doc whole.sound.valid whole.sound.runs o there index).within,
        length-map scene (renumbered last o),
        length-scene_of list shape,
        ap (λ (d : Document). length d.elements) view,
      )
