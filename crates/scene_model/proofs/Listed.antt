-- Laws of a list of nodes as elements: each has the number of its index and 1, and each parent is before its child.
use Rattle.std.proofs.Common.{◌≡◌, ◌≢◌, ℕ, zero, suc, ◌+◌, ◌-◌, ◌<◌, ◌≤◌, ◌==◌, nat_eq, List, [], ◌∷◌, ◌++◌, filter, length, take, drop, Decides, false, Option, Some, None, All, option_map, option_and_then, slice_get, refl, sym, ap, subst, subst₂, ◌∙◌, arith}
use Rattle.std.specs.List.{AllByRecursion, IsDistinct, range_with_len}
use Rattle.std.specs.List.Sorted.{IsStrictlyIncreasing}
use Rattle.std.specs.Option.{option_map_or}
use Rattle.std.proofs.lemmas.Bool.{cond-true, cond-false, eq-eqb, false_from_ne_true}
use Rattle.std.proofs.lemmas.List.{append-nil, length-take-le, length_push}
use Rattle.std.proofs.lemmas.List.Elements.{All-from_recursion}
use Rattle.std.proofs.lemmas.List.FromFn.{length-range_with_len, get_or-range_with_len}
use Rattle.std.proofs.lemmas.List.Kept.{IsStrictlyIncreasing-filter}
use Rattle.std.proofs.lemmas.Option.{same_Some, slice_get_within}
use Rattle.base_model.proofs.Lists.{slice_get_some}
use Rattle.scene_model.specs.Element.{Element}
use Rattle.scene_model.specs.Lookups.{numbers, element_at, is_element, IsElement, parent_of, is_child_of, children, beside, siblings, left_of, place_of}
use Rattle.scene_model.specs.Nodes.{Node, IsParentAt, HaveParentsFrom, IsNodeList, listed_from, listed}
use Rattle.scene_model.proofs.Lists.{each_weaker, each-filter, split_at}
use Rattle.scene_model.proofs.Numbers.{is_in, each-range, distinct-range, is_in-range, each_is_in, differs, left_of_split}
use Rattle.scene_model.proofs.Found.{hangs_on, hangs_on-parent, children-hangs, children-append, is_element-numbers, element_at_absent, parent_of-element}

-- the node at index k as an element
abbrev pub numbered : ℕ → Node → Element
numbered k node =
    record { number = k + 1; parent = option_map (λ p. p + 1) node.parent; tag = node.tag; attrs = node.attrs; states = node.states }

-- the numbers

numbers-listed_from : (k : ℕ) (nodes : List Node) → numbers (listed_from k nodes) ≡ range_with_len (k + 1) (length nodes)
numbers-listed_from k [] = refl
numbers-listed_from k (node ∷ nodes) = ap (λ l. (k + 1) ∷ l) (numbers-listed_from (k + 1) nodes)

pub numbers-listed : (nodes : List Node) → numbers (listed nodes) ≡ range_with_len 1 (length nodes)
numbers-listed nodes = numbers-listed_from 0 nodes

length-listed_from : (k : ℕ) (nodes : List Node) → length (listed_from k nodes) ≡ length nodes
length-listed_from k [] = refl
length-listed_from k (node ∷ nodes) = ap suc (length-listed_from (k + 1) nodes)

pub length-listed : (nodes : List Node) → length (listed nodes) ≡ length nodes
length-listed nodes = length-listed_from 0 nodes

pub distinct-listed : (nodes : List Node) → IsDistinct nat_eq (numbers (listed nodes))
distinct-listed nodes = subst (IsDistinct nat_eq) (sym (numbers-listed nodes)) (distinct-range 1 (length nodes))

pub each_number-listed : (nodes : List Node) → AllByRecursion (λ y. (0 < y) × (y ≤ length nodes)) (numbers (listed nodes))
each_number-listed nodes =
    subst (AllByRecursion (λ y. (0 < y) × (y ≤ length nodes))) (sym (numbers-listed nodes)) (each_weaker (λ y. (1 ≤ y) × (y < 1 + length nodes)) (λ y. (0 < y) × (y ≤ length nodes)) (λ y h. (omega arith, omega arith)) (range_with_len 1 (length nodes)) (each-range 1 (length nodes)))

-- the elements are those with a number from 1 to the length

pub is_element-listed : (nodes : List Node) (x : ℕ) → 0 < x → x ≤ length nodes → IsElement (listed nodes) x
is_element-listed nodes x h k =
    is_element-numbers (listed nodes) x ∙ (ap (is_in x) (numbers-listed nodes) ∙ is_in-range x 1 (length nodes) (omega arith) (omega arith))

pub within-listed : (nodes : List Node) (x : ℕ) → IsElement (listed nodes) x → (0 < x) × (x ≤ length nodes)
within-listed nodes x h =
    each_is_in (λ y. (0 < y) × (y ≤ length nodes)) x (numbers (listed nodes)) (each_number-listed nodes) (sym (is_element-numbers (listed nodes) x) ∙ h)

pub element_at-listed_none : (nodes : List Node) (x : ℕ) → (IsElement (listed nodes) x → ⊥) → element_at (listed nodes) x ≡ None
element_at-listed_none nodes x h = element_at_absent (listed nodes) x (false_from_ne_true (is_element (listed nodes) x) h)

pub element_at-listed_zero : (nodes : List Node) → element_at (listed nodes) 0 ≡ None
element_at-listed_zero nodes = element_at-listed_none nodes 0 (λ h. let w = within-listed nodes 0 h in omega arith)

pub element_at-listed_past : (nodes : List Node) (x : ℕ) → length nodes < x → element_at (listed nodes) x ≡ None
element_at-listed_past nodes x k = element_at-listed_none nodes x (λ h. let w = within-listed nodes x h in omega arith)

-- the element at a number

found_from : (k : ℕ) (nodes : List Node) (i j : ℕ) → j ≡ k + i → element_at (listed_from k nodes) (j + 1) ≡ option_map (numbered j) (slice_get nodes i)
found_from k [] i j e = refl
found_from k (node ∷ nodes) zero j e =
    let same : k ≡ j = omega arith in
    cond-true (k + 1 == j + 1) (Some (numbered k node)) (element_at (listed_from (k + 1) nodes) (j + 1)) (eq-eqb (k + 1) (j + 1) (omega arith)) ∙ ap (λ m. Some (numbered m node)) same
found_from k (node ∷ nodes) (suc i) j e =
    cond-false (k + 1 == j + 1) (Some (numbered k node)) (element_at (listed_from (k + 1) nodes) (j + 1)) (differs (k + 1) (j + 1) (λ f. omega arith)) ∙ found_from (k + 1) nodes i j (omega arith)

pub element_at-listed : (nodes : List Node) (k : ℕ) → element_at (listed nodes) (k + 1) ≡ option_map (numbered k) (slice_get nodes k)
element_at-listed nodes k = found_from 0 nodes k k (omega arith)

pub element_at-listed_some : (nodes : List Node) (k : ℕ) (node : Node) → slice_get nodes k ≡ Some node → element_at (listed nodes) (k + 1) ≡ Some (numbered k node)
element_at-listed_some nodes k node h = element_at-listed nodes k ∙ ap (option_map (numbered k)) h

-- parents

pub parent_of-listed : (nodes : List Node) (k : ℕ) (node : Node) → slice_get nodes k ≡ Some node → parent_of (listed nodes) (k + 1) ≡ option_map (λ p. p + 1) node.parent
parent_of-listed nodes k node h = ap (option_and_then (λ e. e.parent)) (element_at-listed_some nodes k node h)

parent_from : (j : ℕ) (nodes : List Node) (k : ℕ) (node : Node) (m : ℕ) → m ≡ j + k → HaveParentsFrom j nodes → slice_get nodes k ≡ Some node → IsParentAt m node.parent
parent_from j [] k node m e h f = absurd (cc)
parent_from j (n ∷ nodes) zero node m e h f =
    let at : j ≡ m = omega arith in
    let one : n ≡ node = same_Some n node f in
    subst₂ (λ i (x : Node). IsParentAt i x.parent) at one h.0
parent_from j (n ∷ nodes) (suc k) node m e h f = parent_from (j + 1) nodes k node m (omega arith) h.1 f

-- the parent of the node at an index
pub parent_at : (nodes : List Node) (k : ℕ) (node : Node) → IsNodeList nodes → slice_get nodes k ≡ Some node → IsParentAt k node.parent
parent_at nodes k node v f = parent_from 0 nodes k node k (omega arith) v.parents f

-- the index of an element's node
pub index-listed : (nodes : List Node) (x : ℕ) → IsElement (listed nodes) x → (k : ℕ) × (node : Node) × (k + 1 ≡ x) × (slice_get nodes k ≡ Some node)
index-listed nodes x h =
    let w = within-listed nodes x h in
    let within : x - 1 < length nodes = omega arith in
    let (node, f) = slice_get_some nodes (x - 1) within in
    (x - 1, node, omega arith, f)

above_child : (k q : ℕ) (o : Option ℕ) → IsParentAt k o → option_map (λ p. p + 1) o ≡ Some q → (0 < q) × (q < k + 1)
above_child k q None h e = absurd (cc)
above_child k q (Some p) h e = let same : p + 1 ≡ q = same_Some (p + 1) q e in (omega arith, omega arith)

at_root : (k : ℕ) (o : Option ℕ) → IsParentAt k o → option_map (λ p. p + 1) o ≡ None → k ≡ 0
at_root k None h e = h
at_root k (Some p) h e = absurd (cc)

none_first : (k : ℕ) (o : Option ℕ) → IsParentAt k o → k ≡ 0 → option_map (λ p. p + 1) o ≡ None
none_first k None h e = refl
none_first k (Some p) h e = absurd (omega arith)

module _ (nodes : List Node) (v : IsNodeList nodes) where
  -- a parent's number is below its child's
  pub parent-below : (x q : ℕ) → parent_of (listed nodes) x ≡ Some q → (0 < q) × (q < x) × (x ≤ length nodes)
  parent-below x q h =
      let is : IsElement (listed nodes) x = parent_of-element (listed nodes) x q h in
      let w = within-listed nodes x is in
      let (k, node, same, f) = index-listed nodes x is in
      let e : option_map (λ p. p + 1) node.parent ≡ Some q = sym (parent_of-listed nodes k node f) ∙ (ap (parent_of (listed nodes)) same ∙ h) in
      let below = above_child k q node.parent (parent_at nodes k node v f) e in
      (below.0, omega arith, w.1)

  pub parent-element : (x q : ℕ) → parent_of (listed nodes) x ≡ Some q → IsElement (listed nodes) q
  parent-element x q h = let b = parent-below x q h in is_element-listed nodes q b.0 (omega arith)

  -- number 1 is the root
  pub root-listed : parent_of (listed nodes) 1 ≡ None
  root-listed =
      let (node, f) = slice_get_some nodes 0 v.some in
      parent_of-listed nodes 0 node f ∙ none_first 0 node.parent (parent_at nodes 0 node v f) refl

  pub only_root-listed : (x : ℕ) → IsElement (listed nodes) x → parent_of (listed nodes) x ≡ None → x ≡ 1
  only_root-listed x is h =
      let (k, node, same, f) = index-listed nodes x is in
      let e : option_map (λ p. p + 1) node.parent ≡ None = sym (parent_of-listed nodes k node f) ∙ (ap (parent_of (listed nodes)) same ∙ h) in
      let first : k ≡ 0 = at_root k node.parent (parent_at nodes k node v f) e in
      omega arith

  some_parent : (x : ℕ) (o : Option ℕ) → parent_of (listed nodes) x ≡ o → 1 < x → x ≤ length nodes → (q : ℕ) × (parent_of (listed nodes) x ≡ Some q)
  some_parent x None e h k =
      let first : x ≡ 1 = only_root-listed x (is_element-listed nodes x (omega arith) k) e in
      absurd (omega arith)
  some_parent x (Some q) e h k = (q, e)

  -- each other number has a parent
  pub parent-listed : (x : ℕ) → 1 < x → x ≤ length nodes → (q : ℕ) × (parent_of (listed nodes) x ≡ Some q)
  parent-listed x h k = some_parent x (parent_of (listed nodes) x) refl h k

  -- each child's number is above its parent's
  pub each_child : (p : ℕ) → AllByRecursion (λ y. (p < y) × (y ≤ length nodes)) (children (listed nodes) p)
  each_child p =
      subst (AllByRecursion (λ y. (p < y) × (y ≤ length nodes))) (sym (children-hangs (listed nodes) p (distinct-listed nodes))) (each-filter (λ y. (0 < y) × (y ≤ length nodes)) (λ y. (p < y) × (y ≤ length nodes)) (hangs_on (listed nodes) p) (λ y h _. let b = parent-below y p (hangs_on-parent (listed nodes) p y h) in (omega arith, omega arith)) (numbers (listed nodes)) (each_number-listed nodes))

  pub children-above : (p : ℕ) → All (λ y. (p < y) × (y ≤ length nodes)) (children (listed nodes) p)
  children-above p = All-from_recursion (λ y. (p < y) × (y ≤ length nodes)) (children (listed nodes) p) (each_child p)

increasing-range : (a n : ℕ) → IsStrictlyIncreasing (range_with_len a n)
increasing-range a n k h =
    let l : k + 1 < n = omega (arith, length-range_with_len a n) in
    let here = get_or-range_with_len a n k 0 (omega arith) in
    let next = get_or-range_with_len a n (k + 1) 0 l in
    omega arith

pub children-increasing : (nodes : List Node) (p : ℕ) → IsStrictlyIncreasing (children (listed nodes) p)
children-increasing nodes p =
    subst IsStrictlyIncreasing (sym (children-hangs (listed nodes) p (distinct-listed nodes) ∙ ap (filter (hangs_on (listed nodes) p)) (numbers-listed nodes))) (IsStrictlyIncreasing-filter (hangs_on (listed nodes) p) (range_with_len 1 (length nodes)) (increasing-range 1 (length nodes)))

-- one more node at the end

listed_from-append : (k : ℕ) (nodes others : List Node) → listed_from k (nodes ++ others) ≡ listed_from k nodes ++ listed_from (k + length nodes) others
listed_from-append k [] others = ap (λ m. listed_from m others) (omega arith)
listed_from-append k (node ∷ nodes) others =
    ap (λ l. numbered k node ∷ l) (listed_from-append (k + 1) nodes others) ∙ ap (λ m. numbered k node ∷ (listed_from (k + 1) nodes ++ listed_from m others)) (omega arith)

pub listed-append : (nodes others : List Node) → listed (nodes ++ others) ≡ listed nodes ++ listed_from (length nodes) others
listed-append nodes others = listed_from-append 0 nodes others ∙ ap (λ m. listed nodes ++ listed_from m others) (omega arith)

pub listed_push : (nodes : List Node) (node : Node) → listed (nodes ++ node ∷ []) ≡ listed nodes ++ numbered (length nodes) node ∷ []
listed_push nodes node = listed-append nodes (node ∷ [])

pub children_push : (nodes : List Node) (node : Node) (p : ℕ) → children (listed (nodes ++ node ∷ [])) p ≡ children (listed nodes) p ++ children (numbered (length nodes) node ∷ []) p
children_push nodes node p = ap (λ l. children l p) (listed_push nodes node) ∙ children-append (listed nodes) (numbered (length nodes) node ∷ []) p

last_child : (n : ℕ) (node : Node) (p q : ℕ) → node.parent ≡ Some q → p ≡ q + 1 → children (numbered n node ∷ []) p ≡ (n + 1) ∷ []
last_child n node p q h e =
    ap numbers (cond-true (is_child_of p (numbered n node)) (numbered n node ∷ []) [] (ap (λ o. option_map_or (λ r. r == p) (option_map (λ r. r + 1) o) false) h ∙ eq-eqb (q + 1) p (sym e)))

no_child : (n : ℕ) (node : Node) (p : ℕ) → is_child_of p (numbered n node) ≡ false → children (numbered n node ∷ []) p ≡ []
no_child n node p h = ap numbers (cond-false (is_child_of p (numbered n node)) (numbered n node ∷ []) [] h)

module _ (nodes : List Node) (node : Node) where
  pub children_push_below : (q : ℕ) → node.parent ≡ Some q → children (listed (nodes ++ node ∷ [])) (q + 1) ≡ children (listed nodes) (q + 1) ++ (length nodes + 1) ∷ []
  children_push_below q h = children_push nodes node (q + 1) ∙ ap (λ l. children (listed nodes) (q + 1) ++ l) (last_child (length nodes) node (q + 1) q h refl)

  not_last : (p : ℕ) → is_child_of p (numbered (length nodes) node) ≡ false → children (listed (nodes ++ node ∷ [])) p ≡ children (listed nodes) p
  not_last p h =
      children_push nodes node p ∙ (ap (λ l. children (listed nodes) p ++ l) (no_child (length nodes) node p h) ∙ append-nil (children (listed nodes) p))

  pub children_push_other : (p q : ℕ) → node.parent ≡ Some q → p ≢ q + 1 → children (listed (nodes ++ node ∷ [])) p ≡ children (listed nodes) p
  children_push_other p q h n =
      not_last p (ap (λ o. option_map_or (λ r. r == p) (option_map (λ r. r + 1) o) false) h ∙ differs (q + 1) p (λ e. n (sym e)))

  pub children_push_root : (p : ℕ) → node.parent ≡ None → children (listed (nodes ++ node ∷ [])) p ≡ children (listed nodes) p
  children_push_root p h =
      not_last p (ap (λ o. option_map_or (λ r. r == p) (option_map (λ r. r + 1) o) false) h)

-- the sibling index

pub each_child-within : (nodes : List Node) (p : ℕ) → AllByRecursion (λ y. (0 < y) × (y ≤ length nodes)) (children (listed nodes) p)
each_child-within nodes p =
    subst (AllByRecursion (λ y. (0 < y) × (y ≤ length nodes))) (sym (children-hangs (listed nodes) p (distinct-listed nodes))) (each-filter (λ y. (0 < y) × (y ≤ length nodes)) (λ y. (0 < y) × (y ≤ length nodes)) (hangs_on (listed nodes) p) (λ y _ h. h) (numbers (listed nodes)) (each_number-listed nodes))

-- the children are those before it, itself and those after it
children_split : (nodes : List Node) (k : ℕ) (node : Node) (p : ℕ) → slice_get nodes k ≡ Some node → node.parent ≡ Some p → children (listed nodes) (p + 1) ≡ children (listed (take k nodes)) (p + 1) ++ (k + 1) ∷ children (listed_from (k + 1) (drop (suc k) nodes)) (p + 1)
children_split nodes k node p h e =
    let short : length (take k nodes) ≡ k = length-take-le k nodes (omega (arith, slice_get_within nodes k node h)) in
    let apart : listed nodes ≡ listed (take k nodes) ++ listed_from k (node ∷ drop (suc k) nodes) =
    ap listed (split_at nodes k node h) ∙ (listed-append (take k nodes) (node ∷ drop (suc k) nodes) ∙ ap (λ m. listed (take k nodes) ++ listed_from m (node ∷ drop (suc k) nodes)) short) in
    let here : children (listed_from k (node ∷ drop (suc k) nodes)) (p + 1) ≡ (k + 1) ∷ children (listed_from (k + 1) (drop (suc k) nodes)) (p + 1) =
    children-append (numbered k node ∷ []) (listed_from (k + 1) (drop (suc k) nodes)) (p + 1) ∙ ap (λ l. l ++ children (listed_from (k + 1) (drop (suc k) nodes)) (p + 1)) (last_child k node (p + 1) p e refl) in
    ap (λ l. children l (p + 1)) apart ∙ (children-append (listed (take k nodes)) (listed_from k (node ∷ drop (suc k) nodes)) (p + 1) ∙ ap (λ l. children (listed (take k nodes)) (p + 1) ++ l) here)

pub siblings-listed : (nodes : List Node) (k : ℕ) (node : Node) (p : ℕ) → slice_get nodes k ≡ Some node → node.parent ≡ Some p → siblings (listed nodes) (k + 1) ≡ children (listed nodes) (p + 1)
siblings-listed nodes k node p h e =
    let parent : parent_of (listed nodes) (k + 1) ≡ Some (p + 1) = parent_of-listed nodes k node h ∙ ap (option_map (λ q. q + 1)) e in
    cond-true (is_element (listed nodes) (k + 1)) (beside (listed nodes) (k + 1) (parent_of (listed nodes) (k + 1))) [] (parent_of-element (listed nodes) (k + 1) (p + 1) parent) ∙ ap (beside (listed nodes) (k + 1)) parent

pub siblings-listed_root : (nodes : List Node) (k : ℕ) (node : Node) → slice_get nodes k ≡ Some node → node.parent ≡ None → siblings (listed nodes) (k + 1) ≡ (k + 1) ∷ []
siblings-listed_root nodes k node h e =
    let parent : parent_of (listed nodes) (k + 1) ≡ None = parent_of-listed nodes k node h ∙ ap (option_map (λ q. q + 1)) e in
    let is : IsElement (listed nodes) (k + 1) = is_element-listed nodes (k + 1) (omega arith) (omega (arith, slice_get_within nodes k node h)) in
    cond-true (is_element (listed nodes) (k + 1)) (beside (listed nodes) (k + 1) (parent_of (listed nodes) (k + 1))) [] is ∙ ap (beside (listed nodes) (k + 1)) parent

pub left_of-listed : (nodes : List Node) (k : ℕ) (node : Node) (p : ℕ) → slice_get nodes k ≡ Some node → node.parent ≡ Some p → left_of (k + 1) (siblings (listed nodes) (k + 1)) ≡ children (listed (take k nodes)) (p + 1)
left_of-listed nodes k node p h e =
    let short : length (take k nodes) ≡ k = length-take-le k nodes (omega (arith, slice_get_within nodes k node h)) in
    let below : AllByRecursion (λ y. y ≢ k + 1) (children (listed (take k nodes)) (p + 1)) =
    each_weaker (λ y. (0 < y) × (y ≤ length (take k nodes))) (λ y. y ≢ k + 1) (λ y b f. let same : y ≡ k + 1 = f in omega arith) (children (listed (take k nodes)) (p + 1)) (each_child-within (take k nodes) (p + 1)) in
    ap (left_of (k + 1)) (siblings-listed nodes k node p h e ∙ children_split nodes k node p h e) ∙ left_of_split (k + 1) (children (listed (take k nodes)) (p + 1)) (children (listed_from (k + 1) (drop (suc k) nodes)) (p + 1)) below

pub place_of-listed : (nodes : List Node) (k : ℕ) (node : Node) (p : ℕ) → slice_get nodes k ≡ Some node → node.parent ≡ Some p → place_of (listed nodes) (k + 1) ≡ length (children (listed (take k nodes)) (p + 1))
place_of-listed nodes k node p h e = ap length (left_of-listed nodes k node p h e)

pub place_of-listed_root : (nodes : List Node) (k : ℕ) (node : Node) → slice_get nodes k ≡ Some node → node.parent ≡ None → place_of (listed nodes) (k + 1) ≡ 0
place_of-listed_root nodes k node h e =
    ap (λ l. length (left_of (k + 1) l)) (siblings-listed_root nodes k node h e) ∙ ap length (left_of_split (k + 1) [] [] tt)

-- what makes a list of nodes

have-append : (k : ℕ) (nodes others : List Node) → HaveParentsFrom k nodes → HaveParentsFrom (k + length nodes) others → HaveParentsFrom k (nodes ++ others)
have-append k [] others h j = subst (λ m. HaveParentsFrom m others) (omega arith) j
have-append k (node ∷ nodes) others h j = (h.0, have-append (k + 1) nodes others h.1 (subst (λ m. HaveParentsFrom m others) (omega arith) j))

have-take : (k i : ℕ) (nodes : List Node) → HaveParentsFrom k nodes → HaveParentsFrom k (take i nodes)
have-take k zero nodes h = tt
have-take k (suc i) [] h = tt
have-take k (suc i) (node ∷ nodes) h = (h.0, have-take (k + 1) i nodes h.1)

pub IsNodeList-one : (node : Node) → node.parent ≡ None → IsNodeList (node ∷ [])
IsNodeList-one node h = record { some = omega arith; parents = (subst (IsParentAt 0) (sym h) refl, tt) }

pub IsNodeList-push : (nodes : List Node) (node : Node) → IsNodeList nodes → IsParentAt (length nodes) node.parent → IsNodeList (nodes ++ node ∷ [])
IsNodeList-push nodes node v h =
    record { some = omega (arith, length_push nodes node, v.some); parents = have-append 0 nodes (node ∷ []) v.parents (subst (λ m. HaveParentsFrom m (node ∷ [])) (omega arith) (h, tt)) }

pub IsNodeList-take : (nodes : List Node) (k : ℕ) → IsNodeList nodes → 0 < k → k ≤ length nodes → IsNodeList (take k nodes)
IsNodeList-take nodes k v h j =
    record { some = omega (arith, length-take-le k nodes j); parents = have-take 0 k nodes v.parents }

pub decides-listed : (nodes : List Node) (x : ℕ) → Decides (is_element (listed nodes) x) ((0 < x) × (x ≤ length nodes))
decides-listed nodes x = (within-listed nodes x, λ h. is_element-listed nodes x h.0 h.1)
