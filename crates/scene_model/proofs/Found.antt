-- Laws of the look-ups in any list of elements.
use Rattle.std.proofs.Common.{◌≡◌, ℕ, ◌+◌, ◌==◌, nat_eq, List, [], ◌∷◌, ◌++◌, map, filter, find, filter_map, Bool, true, false, cond, not, ◌||◌, is_some, Option, Some, None, option_and_then, refl, sym, ap, subst, ◌∙◌}
use Rattle.std.specs.List.{AllByRecursion, list_any, prefix_len, position_or_len, cons_option, IsDistinct}
use Rattle.std.specs.Option.{option_map_or}
use Rattle.std.proofs.lemmas.Bool.{eqb-true, cond-true, cond-false}
use Rattle.std.proofs.lemmas.List.{map-append}
use Rattle.std.proofs.lemmas.List.Elements.{filter-append}
use Rattle.scene_model.specs.Element.{Element}
use Rattle.scene_model.specs.Lookups.{has_number, numbers, element_at, is_element, IsElement, parent_of, is_child_of, children}
use Rattle.scene_model.specs.Ancestors.{position_of}
use Rattle.scene_model.proofs.Lists.{filter-map, filter_same, filter_comm, each_passes}
use Rattle.scene_model.proofs.Numbers.{is_in, copies, copies_distinct, same_number}
use Rattle.base_model.proofs.Lists.{find_passes}

-- tests over a mapped list

pub any-map : {X Y : Type 0} (p : Y → Bool) (f : X → Y) (xs : List X) → list_any p (map f xs) ≡ list_any (λ x. p (f x)) xs
any-map p f [] = refl
any-map p f (x ∷ xs) = ap (λ b. p (f x) || b) (any-map p f xs)

pub prefix_len-map : {X Y : Type 0} (p : Y → Bool) (f : X → Y) (xs : List X) → prefix_len p (map f xs) ≡ prefix_len (λ x. p (f x)) xs
prefix_len-map p f [] = refl
prefix_len-map p f (x ∷ xs) = ap (λ n. cond (p (f x)) (1 + n) 0) (prefix_len-map p f xs)

pub found_any : {X : Type 0} (b : Bool) (x : X) (o : Option X) → (b || is_some o) ≡ is_some (cond b (Some x) o)
found_any true x o = refl
found_any false x o = refl

pub any-find : {X : Type 0} (p : X → Bool) (xs : List X) → list_any p xs ≡ is_some (find p xs)
any-find p [] = refl
any-find p (x ∷ xs) = ap (λ b. p x || b) (any-find p xs) ∙ found_any (p x) x (find p xs)

-- elements by number

pub element_at-number : (doc : List Element) (x : ℕ) (e : Element) → element_at doc x ≡ Some e → e.number ≡ x
element_at-number doc x e h = eqb-true e.number x (find_passes (has_number x) doc e h)

pub is_element-at : (doc : List Element) (x : ℕ) → is_element doc x ≡ is_some (element_at doc x)
is_element-at doc x = any-find (has_number x) doc

pub is_element-numbers : (doc : List Element) (x : ℕ) → is_element doc x ≡ is_in x (numbers doc)
is_element-numbers doc x = sym (any-map (λ y. y == x) (λ e. e.number) doc)

pub position_of-numbers : (doc : List Element) (x : ℕ) → position_of doc x ≡ position_or_len (λ y. y == x) (numbers doc)
position_of-numbers doc x = sym (prefix_len-map (λ y. not (y == x)) (λ e. e.number) doc)

pub element_at_absent : (doc : List Element) (x : ℕ) → is_element doc x ≡ false → element_at doc x ≡ None
element_at_absent doc x h = gone (element_at doc x) (sym (is_element-at doc x) ∙ h)
  where
    gone : (o : Option Element) → is_some o ≡ false → o ≡ None
    gone None k = refl
    gone (Some e) k = cc

pub parent_of-element : (doc : List Element) (x p : ℕ) → parent_of doc x ≡ Some p → IsElement doc x
parent_of-element doc x p h = is_element-at doc x ∙ some_first (element_at doc x) h
  where
    some_first : (o : Option Element) → option_and_then (λ e. e.parent) o ≡ Some p → is_some o ≡ true
    some_first None k = cc
    some_first (Some e) k = refl

-- whether p is the parent of x
abbrev pub hangs_on : List Element → ℕ → ℕ → Bool
hangs_on doc p x = option_map_or (λ q. q == p) (parent_of doc x) false

hangs_parent : (p : ℕ) (o : Option ℕ) → option_map_or (λ q. q == p) o false ≡ true → o ≡ Some p
hangs_parent p None h = cc
hangs_parent p (Some q) h = ap Some (eqb-true q p h)

pub hangs_on-parent : (doc : List Element) (p x : ℕ) → hangs_on doc p x ≡ true → parent_of doc x ≡ Some p
hangs_on-parent doc p x h = hangs_parent p (parent_of doc x) h

pub hangs_on-some : (doc : List Element) (p q x : ℕ) → parent_of doc x ≡ Some q → hangs_on doc p x ≡ (q == p)
hangs_on-some doc p q x h = ap (λ o. option_map_or (λ q. q == p) o false) h

pub hangs_on-none : (doc : List Element) (p x : ℕ) → parent_of doc x ≡ None → hangs_on doc p x ≡ false
hangs_on-none doc p x h = ap (λ o. option_map_or (λ q. q == p) o false) h

found_after : (e f : Element) (es : List Element) → (e.number == f.number) ≡ false → element_at es f.number ≡ Some f → element_at (e ∷ es) f.number ≡ Some f
found_after e f es d h = cond-false (e.number == f.number) (Some e) (element_at es f.number) d ∙ h

found_all_after : (e : Element) (all es : List Element) → AllByRecursion (λ y. (e.number == y) ≡ false) (numbers es) → AllByRecursion (λ f. element_at all f.number ≡ Some f) es → AllByRecursion (λ f. element_at (e ∷ all) f.number ≡ Some f) es
found_all_after e all [] d h = tt
found_all_after e all (f ∷ es) d h = (found_after e f all d.0 h.0, found_all_after e all es d.1 h.1)

-- where no number is given twice, each element is found by its number
pub each_found : (doc : List Element) → IsDistinct nat_eq (numbers doc) → AllByRecursion (λ e. element_at doc e.number ≡ Some e) doc
unfolding IsDistinct
each_found [] d = tt
each_found (e ∷ es) d = (cond-true (e.number == e.number) (Some e) (element_at es e.number) (same_number e.number), found_all_after e es es d.0 (each_found es d.1))

hangs_each : (doc : List Element) (p : ℕ) (es : List Element) → AllByRecursion (λ e. element_at doc e.number ≡ Some e) es → AllByRecursion (λ e. is_child_of p e ≡ hangs_on doc p e.number) es
hangs_each doc p [] h = tt
hangs_each doc p (e ∷ es) h = (ap (λ o. option_map_or (λ q. q == p) (option_and_then (λ f. f.parent) o) false) (sym h.0), hangs_each doc p es h.1)

pub children-hangs : (doc : List Element) (p : ℕ) → IsDistinct nat_eq (numbers doc) → children doc p ≡ filter (hangs_on doc p) (numbers doc)
children-hangs doc p d =
    ap numbers (filter_same (is_child_of p) (λ e. hangs_on doc p e.number) doc (hangs_each doc p doc (each_found doc d))) ∙ sym (filter-map (hangs_on doc p) (λ e. e.number) doc)

pub each_child-parent : (doc : List Element) (p : ℕ) → IsDistinct nat_eq (numbers doc) → AllByRecursion (λ y. parent_of doc y ≡ Some p) (children doc p)
each_child-parent doc p d =
    subst (AllByRecursion (λ y. parent_of doc y ≡ Some p)) (sym (children-hangs doc p d)) (each_passes (λ y. parent_of doc y ≡ Some p) (hangs_on doc p) (hangs_on-parent doc p) (numbers doc))

pub numbers-append : (xs ys : List Element) → numbers (xs ++ ys) ≡ numbers xs ++ numbers ys
numbers-append xs ys = map-append (λ e. e.number) xs ys

pub children-append : (xs ys : List Element) (p : ℕ) → children (xs ++ ys) p ≡ children xs p ++ children ys p
children-append xs ys p = ap numbers (filter-append (is_child_of p) xs ys) ∙ numbers-append (filter (is_child_of p) xs) (filter (is_child_of p) ys)

-- who hangs on p and is x: x alone, if it does
pub copies-children : (doc : List Element) (p x : ℕ) → IsDistinct nat_eq (numbers doc) → parent_of doc x ≡ Some p → copies x (children doc p) ≡ x ∷ []
copies-children doc p x d h =
    let there : is_in x (numbers doc) ≡ true = sym (is_element-numbers doc x) ∙ parent_of-element doc x p h in
    ap (copies x) (children-hangs doc p d) ∙ (filter_comm (λ y. y == x) (hangs_on doc p) (numbers doc) ∙ (ap (filter (hangs_on doc p)) (copies_distinct x (numbers doc) d there) ∙ cond-true (hangs_on doc p x) (x ∷ []) [] (hangs_on-some doc p p x h ∙ same_number p)))

-- the elements of another list of numbers

pub cond_none : {X : Type 0} (b : Bool) (o : Option X) → o ≡ None → cond b o None ≡ o
cond_none true o h = refl
cond_none false o h = sym h

again_none : (doc : List Element) (xs : List ℕ) (x y : ℕ) (b : Bool) → (y == x) ≡ b → element_at doc y ≡ None → element_at (filter_map (element_at doc) xs) x ≡ cond (is_in x xs) (element_at doc x) None → element_at (filter_map (element_at doc) xs) x ≡ cond (b || is_in x xs) (element_at doc x) None
again_none doc xs x y true e n h = h ∙ cond_none (is_in x xs) (element_at doc x) (sym (ap (element_at doc) (eqb-true y x e)) ∙ n)
again_none doc xs x y false e n h = h

again_some : (doc : List Element) (xs : List ℕ) (x y : ℕ) (f : Element) (b : Bool) → (y == x) ≡ b → element_at doc y ≡ Some f → element_at (filter_map (element_at doc) xs) x ≡ cond (is_in x xs) (element_at doc x) None → element_at (f ∷ filter_map (element_at doc) xs) x ≡ cond (b || is_in x xs) (element_at doc x) None
again_some doc xs x y f true e n h =
    cond-true (f.number == x) (Some f) (element_at (filter_map (element_at doc) xs) x) (ap (λ m. m == x) (element_at-number doc y f n) ∙ e) ∙ (sym n ∙ ap (element_at doc) (eqb-true y x e))
again_some doc xs x y f false e n h =
    cond-false (f.number == x) (Some f) (element_at (filter_map (element_at doc) xs) x) (ap (λ m. m == x) (element_at-number doc y f n) ∙ e) ∙ h

again : (doc : List Element) (xs : List ℕ) (x y : ℕ) (o : Option Element) → element_at doc y ≡ o → element_at (filter_map (element_at doc) xs) x ≡ cond (is_in x xs) (element_at doc x) None → element_at (cons_option o (filter_map (element_at doc) xs)) x ≡ cond (is_in x (y ∷ xs)) (element_at doc x) None
again doc xs x y None e h = again_none doc xs x y (y == x) refl e h
again doc xs x y (Some f) e h = again_some doc xs x y f (y == x) refl e h

pub element_at-filter_map : (doc : List Element) (xs : List ℕ) (x : ℕ) → element_at (filter_map (element_at doc) xs) x ≡ cond (is_in x xs) (element_at doc x) None
element_at-filter_map doc [] x = refl
element_at-filter_map doc (y ∷ xs) x = again doc xs x y (element_at doc y) refl (element_at-filter_map doc xs x)

numbered_one : (doc : List Element) (y : ℕ) (es : List Element) (o : Option Element) → element_at doc y ≡ o → is_some o ≡ true → numbers (cons_option o es) ≡ y ∷ numbers es
numbered_one doc y es None e h = cc
numbered_one doc y es (Some f) e h = ap (λ n. n ∷ numbers es) (element_at-number doc y f e)

pub numbers-filter_map : (doc : List Element) (xs : List ℕ) → AllByRecursion (IsElement doc) xs → numbers (filter_map (element_at doc) xs) ≡ xs
numbers-filter_map doc [] h = refl
numbers-filter_map doc (y ∷ xs) h =
    numbered_one doc y (filter_map (element_at doc) xs) (element_at doc y) refl (sym (is_element-at doc y) ∙ h.0) ∙ ap (λ l. y ∷ l) (numbers-filter_map doc xs h.1)
