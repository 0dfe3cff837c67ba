-- Laws of the subtrees of a list of elements: each number is once in the whole, with its children after it.
use Rattle.std.proofs.Common.{◌≡◌, ◌≢◌, ℕ, zero, suc, ◌+◌, ◌<◌, ◌≤◌, ◌==◌, nat_eq, List, [], ◌∷◌, ◌++◌, filter, flat_map, Bool, true, false, cond, ◌||◌, Some, None, refl, sym, ap, subst, ◌∙◌, append-nil, append_assoc, inl, inr, arith}
use Rattle.std.specs.List.{AllByRecursion, IsDistinct}
use Rattle.std.proofs.lemmas.Bool.{cases_lt, eqb-true}
use Rattle.std.proofs.lemmas.Option.{same_Some, none-some}
use Rattle.std.proofs.lemmas.List.Concat.{flat_map-append}
use Rattle.std.proofs.lemmas.List.Folds.{list_any-append}
use Rattle.scene_model.specs.Element.{Element}
use Rattle.scene_model.specs.Lookups.{numbers, parent_of, children}
use Rattle.scene_model.specs.Nodes.{subtree}
use Rattle.scene_model.proofs.Lists.{each_weaker, each_both, each-flat_map, flat_map_same, flat_map_itself, filter-flat_map, flat_map-flat_map, filter-filter}
use Rattle.scene_model.proofs.Numbers.{is_in, copies, in_copied, split_in, any-filter_wider, is_in-flat_map_copies, copies_absent, differs, same_number}
use Rattle.scene_model.proofs.Found.{hangs_on, hangs_on-some, hangs_on-none, copies-children, each_child-parent}

-- what the walk needs of the list: no number twice, and each child's number is above its parent's and at most n
pub record Grows (es : List Element) (n : ℕ) : Type 0 where
  pub distinct : IsDistinct nat_eq (numbers es)
  pub above : (p : ℕ) → AllByRecursion (λ y. (p < y) × (y ≤ n)) (children es p)

cond_front : (b : Bool) (x : ℕ) (xs : List ℕ) → cond b (x ∷ xs) xs ≡ cond b (x ∷ []) [] ++ xs
cond_front true x xs = refl
cond_front false x xs = refl

no_element : {X : Type 0} (xs : List X) → AllByRecursion (λ _. ⊥) xs → xs ≡ []
no_element [] h = refl
no_element (x ∷ xs) h = absurd h.0

module _ (es : List Element) (n : ℕ) (g : Grows es n) where
  -- two amounts of levels that both suffice give one subtree
  pub subtree_enough : (l m x : ℕ) → x ≤ n → n < l + x → n < m + x → subtree es l x ≡ subtree es m x
  subtree_enough zero m x h k j = absurd (omega arith)
  subtree_enough (suc l) zero x h k j = absurd (omega arith)
  subtree_enough (suc l) (suc m) x h k j =
      ap (λ r. x ∷ r) (flat_map_same (subtree es l) (subtree es m) (children es x) (each_weaker (λ y. (x < y) × (y ≤ n)) (λ y. subtree es l y ≡ subtree es m y) (λ y b. subtree_enough l m y b.1 (omega arith) (omega arith)) (children es x) (g.above x)))

  pub subtree-law : (x : ℕ) → 0 < x → x ≤ n → subtree es n x ≡ x ∷ flat_map (subtree es n) (children es x)
  subtree-law x h k = subtree_enough n (suc n) x k (omega arith) (omega arith)

  -- each number in it is from x to n
  pub each_below : (l x : ℕ) → x ≤ n → AllByRecursion (λ y. (x ≤ y) × (y ≤ n)) (subtree es l x)
  each_below zero x h = tt
  each_below (suc l) x h =
      ((omega arith, h), each-flat_map (λ y. (x ≤ y) × (y ≤ n)) (subtree es l) (children es x) (each_weaker (λ y. (x < y) × (y ≤ n)) (λ y. AllByRecursion (λ z. (x ≤ z) × (z ≤ n)) (subtree es l y)) (λ y b. each_weaker (λ z. (y ≤ z) × (z ≤ n)) (λ z. (x ≤ z) × (z ≤ n)) (λ z c. (omega arith, c.1)) (subtree es l y) (each_below l y b.1)) (children es x) (g.above x)))

  -- those below x are above it
  pub each_under : (l x : ℕ) → AllByRecursion (λ y. (x < y) × (y ≤ n)) (flat_map (subtree es l) (children es x))
  each_under l x =
      each-flat_map (λ y. (x < y) × (y ≤ n)) (subtree es l) (children es x) (each_weaker (λ y. (x < y) × (y ≤ n)) (λ y. AllByRecursion (λ z. (x < z) × (z ≤ n)) (subtree es l y)) (λ y b. each_weaker (λ z. (y ≤ z) × (z ≤ n)) (λ z. (x < z) × (z ≤ n)) (λ z c. (omega arith, c.1)) (subtree es l y) (each_below l y b.1)) (children es x) (g.above x))

  each_next : (x : ℕ) → AllByRecursion (λ y. (parent_of es y ≡ Some x) × ((x < y) × (y ≤ n))) (children es x)
  each_next x = each_both (λ y. parent_of es y ≡ Some x) (λ y. (x < y) × (y ≤ n)) (children es x) (each_child-parent es x g.distinct) (g.above x)

  none_above : (p : ℕ) (xs : List ℕ) → AllByRecursion (λ y. (p < y) × (y ≤ n)) xs → copies p xs ≡ []
  none_above p xs h = copies_absent p xs (each_weaker (λ y. (p < y) × (y ≤ n)) (λ y. p ≢ y) (λ y b e. omega arith) xs h)

  none_from : (p x : ℕ) (xs : List ℕ) → p < x → AllByRecursion (λ y. (x ≤ y) × (y ≤ n)) xs → copies p xs ≡ []
  none_from p x xs l h = none_above p xs (each_weaker (λ y. (x ≤ y) × (y ≤ n)) (λ y. (p < y) × (y ≤ n)) (λ y b. (omega arith, b.1)) xs h)

  -- in a subtree, what hangs on p is the top, if it does, and p's children at each copy of p
  HangsAlike : ℕ → ℕ → ℕ → Type 0
  HangsAlike p l x = filter (hangs_on es p) (subtree es l x) ≡ cond (hangs_on es p x) (x ∷ []) [] ++ flat_map (children es) (copies p (subtree es l x))

  one_child : (p l y : ℕ) → y ≤ n → p < y → parent_of es y ≡ Some p → HangsAlike p l y → filter (hangs_on es p) (subtree es l y) ≡ y ∷ []
  unfolding HangsAlike
  one_child p l y k b e h =
      let hangs : hangs_on es p y ≡ true = hangs_on-some es p p y e ∙ same_number p in
      h ∙ (ap (λ t. cond t (y ∷ []) [] ++ flat_map (children es) (copies p (subtree es l y))) hangs ∙ ap (λ c. y ∷ flat_map (children es) c) (none_from p y (subtree es l y) b (each_below l y k)))

  other_child : (p l y x : ℕ) → parent_of es y ≡ Some x → (x == p) ≡ false → HangsAlike p l y → filter (hangs_on es p) (subtree es l y) ≡ flat_map (children es) (copies p (subtree es l y))
  unfolding HangsAlike
  other_child p l y x e d h =
      h ∙ ap (λ t. cond t (y ∷ []) [] ++ flat_map (children es) (copies p (subtree es l y))) (hangs_on-some es p x y e ∙ d)

  under : ℕ → ℕ → List ℕ
  under l x = flat_map (subtree es l) (children es x)

  hanging_here : (l x : ℕ) → ((y : ℕ) → y ≤ n → x < y → HangsAlike x l y) → filter (hangs_on es x) (under l x) ≡ flat_map (children es) (x ∷ copies x (under l x))
  unfolding under
  hanging_here l x r =
      let each : AllByRecursion (λ y. filter (hangs_on es x) (subtree es l y) ≡ y ∷ []) (children es x) =
      each_weaker (λ y. (parent_of es y ≡ Some x) × ((x < y) × (y ≤ n))) (λ y. filter (hangs_on es x) (subtree es l y) ≡ y ∷ []) (λ y b. one_child x l y b.1.1 b.1.0 b.0 (r y b.1.1 b.1.0)) (children es x) (each_next x) in
      let none : copies x (under l x) ≡ [] = none_above x (under l x) (each_under l x) in
      filter-flat_map (hangs_on es x) (subtree es l) (children es x) ∙ (flat_map_itself (λ y. filter (hangs_on es x) (subtree es l y)) (children es x) each ∙ (sym (append-nil (children es x)) ∙ ap (λ c. children es x ++ flat_map (children es) c) (sym none)))

  hanging_below : (p l x : ℕ) → (x == p) ≡ false → ((y : ℕ) → y ≤ n → x < y → HangsAlike p l y) → filter (hangs_on es p) (under l x) ≡ flat_map (children es) (copies p (under l x))
  unfolding under
  hanging_below p l x d r =
      let each : AllByRecursion (λ y. filter (hangs_on es p) (subtree es l y) ≡ flat_map (children es) (copies p (subtree es l y))) (children es x) =
      each_weaker (λ y. (parent_of es y ≡ Some x) × ((x < y) × (y ≤ n))) (λ y. filter (hangs_on es p) (subtree es l y) ≡ flat_map (children es) (copies p (subtree es l y))) (λ y b. other_child p l y x b.0 d (r y b.1.1 b.1.0)) (children es x) (each_next x) in
      filter-flat_map (hangs_on es p) (subtree es l) (children es x) ∙ (flat_map_same (λ y. filter (hangs_on es p) (subtree es l y)) (λ y. flat_map (children es) (copies p (subtree es l y))) (children es x) each ∙ (sym (flat_map-flat_map (children es) (λ y. copies p (subtree es l y)) (children es x)) ∙ ap (flat_map (children es)) (sym (filter-flat_map (λ z. z == p) (subtree es l) (children es x)))))

  hanging_under : (p l x : ℕ) (b : Bool) → (x == p) ≡ b → ((y : ℕ) → y ≤ n → x < y → HangsAlike p l y) → filter (hangs_on es p) (under l x) ≡ flat_map (children es) (cond b (x ∷ copies p (under l x)) (copies p (under l x)))
  hanging_under p l x true e r =
      let same : x ≡ p = eqb-true x p e in
      subst (λ q. filter (hangs_on es q) (under l x) ≡ flat_map (children es) (x ∷ copies q (under l x))) same (hanging_here l x (λ y a b. subst (λ q. HangsAlike q l y) (sym same) (r y a b)))
  hanging_under p l x false e r = hanging_below p l x e r

  hangs_alike : (p l x : ℕ) → x ≤ n → n < l + x → HangsAlike p l x
  unfolding HangsAlike under
  hangs_alike p zero x h k = absurd (omega arith)
  hangs_alike p (suc l) x h k =
      cond_front (hangs_on es p x) x (filter (hangs_on es p) (under l x)) ∙ ap (λ t. cond (hangs_on es p x) (x ∷ []) [] ++ t) (hanging_under p l x (x == p) refl (λ y a b. hangs_alike p l y a (omega arith)))

  pub hanging : (p l x : ℕ) → x ≤ n → n < l + x → filter (hangs_on es p) (subtree es l x) ≡ cond (hangs_on es p x) (x ∷ []) [] ++ flat_map (children es) (copies p (subtree es l x))
  unfolding HangsAlike
  hanging p l x h k = hangs_alike p l x h k

-- a whole tree: number 1 is its root, and each other number's parent is below it
pub record IsTree (es : List Element) (n : ℕ) : Type 0 where
  pub grows : Grows es n
  pub some : 0 < n
  pub root : parent_of es 1 ≡ None
  pub parents : (x : ℕ) → 1 < x → x ≤ n → (q : ℕ) × (parent_of es x ≡ Some q) × (0 < q) × (q < x)

module _ (es : List Element) (n : ℕ) (t : IsTree es n) where
  hangs_on_whole : (q : ℕ) → copies q (subtree es n 1) ≡ q ∷ [] → filter (hangs_on es q) (subtree es n 1) ≡ children es q
  hangs_on_whole q h =
      hanging es n t.grows q n 1 t.some (omega arith) ∙ (ap (λ b. cond b (1 ∷ []) [] ++ flat_map (children es) (copies q (subtree es n 1))) (hangs_on-none es q 1 t.root) ∙ (ap (flat_map (children es)) h ∙ append-nil (children es q)))

  copies_first : copies 1 (subtree es n 1) ≡ 1 ∷ []
  copies_first =
      ap (copies 1) (subtree-law es n t.grows 1 (omega arith) t.some) ∙ ap (λ l. 1 ∷ l) (none_above es n t.grows 1 (flat_map (subtree es n) (children es 1)) (each_under es n t.grows n 1))

  copies_next : (x q : ℕ) → parent_of es x ≡ Some q → copies q (subtree es n 1) ≡ q ∷ [] → copies x (subtree es n 1) ≡ x ∷ []
  copies_next x q e h =
      let kept : (y : ℕ) → (y == x) ≡ true → hangs_on es q y ≡ true = λ y k. ap (hangs_on es q) (eqb-true y x k) ∙ (hangs_on-some es q q x e ∙ same_number q) in
      sym (filter-filter (λ y. y == x) (hangs_on es q) kept (subtree es n 1)) ∙ (ap (copies x) (hangs_on_whole q h) ∙ copies-children es q x t.grows.distinct e)

  copies_up_to : (m x : ℕ) → x ≤ m → 0 < x → x ≤ n → copies x (subtree es n 1) ≡ x ∷ []
  copies_up_to zero x h k l = absurd (omega arith)
  copies_up_to (suc m) x h k l =
      elim (cases_lt 1 x) [
        | inl a ↦ (let (q, e, b, c) = t.parents x a l in copies_next x q e (copies_up_to m q (omega arith) b (omega arith)))
        | inr a ↦ (let first : 1 ≡ x = omega arith in subst (λ y. copies y (subtree es n 1) ≡ y ∷ []) first copies_first)
      ]

  pub copies-whole : (x : ℕ) → 0 < x → x ≤ n → copies x (subtree es n 1) ≡ x ∷ []
  copies-whole x k l = copies_up_to x x (omega arith) k l

  -- every number in it is from 1 to n
  pub each_whole : AllByRecursion (λ y. (0 < y) × (y ≤ n)) (subtree es n 1)
  each_whole = each_weaker (λ y. (1 ≤ y) × (y ≤ n)) (λ y. (0 < y) × (y ≤ n)) (λ y h. (omega arith, h.1)) (subtree es n 1) (each_below es n t.grows n 1 t.some)

  pub copies-whole_none : (x : ℕ) → (0 < x → n < x) → copies x (subtree es n 1) ≡ []
  copies-whole_none x h = copies_absent x (subtree es n 1) (each_weaker (λ y. (0 < y) × (y ≤ n)) (λ y. x ≢ y) (λ y b e. let same : x ≡ y = e in omega arith) (subtree es n 1) each_whole)

  child_of_none : (q y : ℕ) → (0 < q → n < q) → (parent_of es y ≡ Some q) × ((q < y) × (y ≤ n)) → ⊥
  child_of_none q y h b =
      elim (cases_lt 1 y) [
        | inl a ↦ (let (r, e, f, g) = t.parents y a b.1.1 in let same : r ≡ q = same_Some r q (sym e ∙ b.0) in let l = b.1.0 in let k = b.1.1 in omega arith)
        | inr a ↦ (let first : y ≡ 1 = omega (arith, b.1.0) in none-some q (sym t.root ∙ (ap (parent_of es) (sym first) ∙ b.0)))
      ]

  children_none : (q : ℕ) → (0 < q → n < q) → children es q ≡ []
  children_none q h = no_element (children es q) (each_weaker (λ y. (parent_of es y ≡ Some q) × ((q < y) × (y ≤ n))) (λ y. ⊥) (λ y b. child_of_none q y h b) (children es q) (each_next es n t.grows q))

  hangs_on_none : (q : ℕ) → copies q (subtree es n 1) ≡ [] → filter (hangs_on es q) (subtree es n 1) ≡ []
  hangs_on_none q h =
      hanging es n t.grows q n 1 t.some (omega arith) ∙ (ap (λ b. cond b (1 ∷ []) [] ++ flat_map (children es) (copies q (subtree es n 1))) (hangs_on-none es q 1 t.root) ∙ ap (flat_map (children es)) h)

  -- the whole, asked for what hangs on a number, gives its children in order
  pub hangs_on-whole : (q : ℕ) → filter (hangs_on es q) (subtree es n 1) ≡ children es q
  hangs_on-whole q =
      elim (cases_lt 0 q) [
        | inl a ↦ (elim (cases_lt n q) [
          | inl b ↦ out q (λ _. b)
          | inr b ↦ hangs_on_whole q (copies-whole q a b)
        ])
        | inr a ↦ out q (λ c. absurd (omega arith))
      ]
    where
      out : (r : ℕ) → (0 < r → n < r) → filter (hangs_on es r) (subtree es n 1) ≡ children es r
      out r h = hangs_on_none r (copies-whole_none r h) ∙ sym (children_none r h)

  child_in : (x q : ℕ) → parent_of es x ≡ Some q → is_in x (children es q) ≡ true
  child_in x q e = in_copied x (children es q) [] (copies-children es q x t.grows.distinct e)

  -- where the subtree of x is
  IsRunOf : ℕ → Type 0
  IsRunOf x = (before : List ℕ) × (behind : List ℕ) × (subtree es n 1 ≡ before ++ (subtree es n x ++ behind))

  run_within : (x q : ℕ) (before behind cs ds : List ℕ) → 0 < q → q ≤ n → subtree es n 1 ≡ before ++ (subtree es n q ++ behind) → children es q ≡ cs ++ x ∷ ds → IsRunOf x
  unfolding IsRunOf
  run_within x q before behind cs ds h k e f =
      let top : subtree es n q ≡ q ∷ (flat_map (subtree es n) cs ++ (subtree es n x ++ flat_map (subtree es n) ds)) =
      subtree-law es n t.grows q h k ∙ ap (λ l. q ∷ l) (ap (flat_map (subtree es n)) f ∙ flat_map-append (subtree es n) cs (x ∷ ds)) in
      (before ++ q ∷ flat_map (subtree es n) cs, flat_map (subtree es n) ds ++ behind, e ∙ (ap (λ l. before ++ (l ++ behind)) top ∙ simp append_assoc))

  run_up_to : (m x : ℕ) → x ≤ m → 0 < x → x ≤ n → IsRunOf x
  unfolding IsRunOf
  run_up_to zero x h k l = absurd (omega arith)
  run_up_to (suc m) x h k l =
      elim (cases_lt 1 x) [
        | inl a ↦ (let (q, e, b, c) = t.parents x a l in let (before, behind, f) = run_up_to m q (omega arith) b (omega arith) in let (cs, ds, g) = split_in x (children es q) (child_in x q e) in run_within x q before behind cs ds b (omega arith) f g)
        | inr a ↦ (let first : 1 ≡ x = omega arith in ([], [], ap (subtree es n) first ∙ sym (append-nil (subtree es n x))))
      ]

  -- each subtree is one run of the whole
  pub run-whole : (x : ℕ) → 0 < x → x ≤ n → (before : List ℕ) × (behind : List ℕ) × (subtree es n 1 ≡ before ++ (subtree es n x ++ behind))
  unfolding IsRunOf
  run-whole x h k = run_up_to x x (omega arith) h k

  top_apart : (b : Bool) (x y : ℕ) → x ≢ y → is_in y (cond b (x ∷ []) []) ≡ false
  top_apart true x y h = ap (λ b. b || false) (differs x y h)
  top_apart false x y h = refl

  -- below its top a subtree has just those numbers whose parent it has
  pub in_subtree-parent : (x y p : ℕ) → 0 < x → x ≤ n → x ≢ y → parent_of es y ≡ Some p → is_in y (subtree es n x) ≡ is_in p (subtree es n x)
  in_subtree-parent x y p h k d e =
      let kept : (z : ℕ) → (z == y) ≡ true → hangs_on es p z ≡ true = λ z j. ap (hangs_on es p) (eqb-true z y j) ∙ (hangs_on-some es p p y e ∙ same_number p) in
      sym (any-filter_wider (λ z. z == y) (hangs_on es p) kept (subtree es n x)) ∙ (ap (is_in y) (hanging es n t.grows p n x k (omega arith)) ∙ (list_any-append (λ z. z == y) (cond (hangs_on es p x) (x ∷ []) []) (flat_map (children es) (copies p (subtree es n x))) ∙ (ap (λ b. b || is_in y (flat_map (children es) (copies p (subtree es n x)))) (top_apart (hangs_on es p x) x y d) ∙ is_in-flat_map_copies (children es) y p (subtree es n x) (child_in y p e))))
