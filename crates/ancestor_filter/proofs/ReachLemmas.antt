-- For `Ancestors::reach`: the list of what was added, step by step, with the filter.
use Rattle.std.proofs.Common.{◌≡◌, ◌⊎◌, ℕ, zero, suc, ◌+◌, ◌<◌, ◌≤◌, ◌==◌, List, [], ◌∷◌, ◌++◌, length, drop, take, reverse, get_or, slice_get, true, false}
use Rattle.std.proofs.Common.{Option, Some, None, option_to_list, refl, sym, ap, ◌∙◌, subst, arith, inl, inr, append-nil}
use Rattle.std.specs.List.{AllByRecursion}
use Rattle.std.specs.Option.{option_map_or}
use Rattle.std.proofs.lemmas.Grind.{take_at_read}
use Rattle.std.proofs.lemmas.Bool.{eqb-true, false≢true}
use Rattle.std.proofs.lemmas.List.{drop_more, take_all, append_assoc, reverse-reverse, reverse-append}
use Rattle.std.proofs.lemmas.Option.{none-some, same_Some}
use Rattle.base_model.proofs.Lists.{each-append}
use Rattle.scene_model.specs.Element.{Element}
use Rattle.scene_model.specs.Lookups.{IsElement, parent_of}
use Rattle.scene_model.specs.Ancestors.{ancestors}
use Rattle.scene_model.specs.Valid.{IsValid}
use Rattle.scene_model.proofs.Climbing.{ancestors-child, ancestors-root, ancestors_each}
use Rattle.ancestor_model.specs.Counts.{all_at}
use Rattle.ancestor_model.specs.Path.{IsPath}
use Rattle.ancestor_model.proofs.PathLemmas.{path_up, path_reaches, ancestors_path}
use Rattle.ancestor_filter.specs.Names.{CountsNothing, StandsFor}
use Rattle.ancestor_filter.specs.Paths.{Pushed, IsNext, IsRight, IsRightIn, nothing_pushed}
use Rattle.ancestor_filter.proofs.NameLemmas.{nothing_counted}

-- what is seen of the elements, from the root on, and of the filter
abbrev pub seen : List ℕ → List ℕ → Pushed
seen items filter = record { elements = reverse items; filter = filter }

-- all is taken away

pub seen_nothing : (items filter : List ℕ) (n : ℕ) → items ≡ [] → filter ≡ all_at n → seen items filter ≡ nothing_pushed n
seen_nothing items filter n e h = ap (λ l. seen l filter) e ∙ ap (λ f. seen [] f) h

pub none_left : (items filter : List ℕ) (n : ℕ) → seen items filter ≡ nothing_pushed n → items ≡ []
none_left items filter n e = sym (reverse-reverse items) ∙ ap (λ (p : Pushed). reverse p.elements) e

pub none_counted : (items filter : List ℕ) → seen items filter ≡ nothing_pushed 0 → CountsNothing filter
none_counted items filter e = nothing_counted filter (ap (λ (p : Pushed). p.filter) e)

pub right_nothing : (doc : List Element) (items filter : List ℕ) → items ≡ [] → StandsFor doc [] filter → IsRight doc (seen items filter)
right_nothing doc items filter e stands = subst (λ l. IsRight doc (seen l filter)) (sym e) (tt, stands)

-- one more at the end, and one less

pub pushed_last : (xs : List ℕ) (x : ℕ) → reverse (xs ++ x ∷ []) ≡ x ∷ reverse xs
pushed_last xs x = reverse-append xs (x ∷ [])

pub popped_first : (items rest : List ℕ) (x : ℕ) → items ≡ rest ++ option_to_list (Some x) → reverse items ≡ x ∷ reverse rest
popped_first items rest x e = ap reverse e ∙ pushed_last rest x

module _ (doc : List Element) (pushed : Pushed) (items before : List ℕ) (view : seen items before ≡ pushed) where
  pub left : IsRightIn doc pushed → (rest after : List ℕ) (x : ℕ) → items ≡ rest ++ option_to_list (Some x) → ((l : List ℕ) → StandsFor doc (x ∷ l) before → StandsFor doc l after)
      → IsRight doc (seen rest after)
  left was rest after x e stands =
      let first : reverse items ≡ x ∷ reverse rest = popped_first items rest x e in
      let now : IsRight doc (seen items before) = subst (IsRight doc) (sym view) was.right in
      let path : IsPath doc (x ∷ reverse rest) = subst (IsPath doc) first now.0 in
      (path_up doc was.valid x (reverse rest) path, stands (reverse rest) (subst (λ l. StandsFor doc l before) first now.1))

  pub entered : (x : ℕ) → IsNext doc x pushed → (more after : List ℕ) → more ≡ items ++ x ∷ [] → ((l : List ℕ) → StandsFor doc l before → StandsFor doc (x ∷ l) after)
      → IsRight doc (seen more after)
  entered x was more after e stands =
      let first : x ∷ reverse items ≡ reverse more = sym (ap reverse e ∙ pushed_last items x) in
      let now : IsRight doc (seen items before) = subst (IsRight doc) (sym view) was.right in
      let above : reverse items ≡ ancestors doc x = ap (λ (p : Pushed). p.elements) view ∙ was.above in
      (subst (IsPath doc) first (was.there, above), subst (λ l. StandsFor doc l after) first (stands (reverse items) now.1))

-- where the first is the parent, they are the ancestors

first_is : (o : Option ℕ) (p : ℕ) → option_map_or (λ y. y == p) o false ≡ true → o ≡ Some p
first_is None p h = absurd (false≢true h)
first_is (Some y) p h = ap Some (eqb-true y p h)

module _ (doc : List Element) (v : IsValid doc) (x p : ℕ) (parent : parent_of doc x ≡ Some p) where
  pub reached : (elements : List ℕ) → IsPath doc elements → slice_get elements 0 ≡ Some p → elements ≡ ancestors doc x
  reached [] h e = absurd (none-some p e)
  reached (y ∷ ys) h e =
      let same : y ≡ p = same_Some y p e in
      ap (λ z. z ∷ ys) same ∙ path_reaches doc v x p ys parent (subst (λ z. IsPath doc (z ∷ ys)) same h)

  pub reached_at : (pushed : Pushed) → IsRight doc pushed → option_map_or (λ y. y == p) (slice_get pushed.elements 0) false ≡ true → pushed.elements ≡ ancestors doc x
  reached_at pushed right e = reached pushed.elements right.0 (first_is (slice_get pushed.elements 0) p e)

pub settled : (l : List ℕ) (y p : ℕ) → Some y ≡ slice_get l 0 → (l ≡ []) ⊎ (slice_get l 0 ≡ Some p) → slice_get l 0 ≡ Some p
settled l y p h (inl e) = absurd (none-some y (sym (h ∙ ap (λ k. slice_get k 0) e)))
settled l y p h (inr e) = e

-- the ancestors of an element, found from its parent on, turned round and added

module _ (doc : List Element) (v : IsValid doc) where
  pub climbed : (at p : ℕ) (items more all : List ℕ) → parent_of doc at ≡ Some p → more ≡ items ++ p ∷ [] → items ++ ancestors doc at ≡ all → more ++ ancestors doc p ≡ all
  climbed at p items more all parent e h =
      ap (λ l. l ++ ancestors doc p) e
      ∙ (append_assoc items (p ∷ []) (ancestors doc p) ∙ (ap (λ l. items ++ l) (sym (ancestors-child doc v at p parent)) ∙ h))

  pub climbed_all : (at : ℕ) (items all : List ℕ) → parent_of doc at ≡ None → items ++ ancestors doc at ≡ all → items ≡ all
  climbed_all at items all parent h =
      sym (append-nil items) ∙ (ap (λ l. items ++ l) (sym (ancestors-root doc v at parent)) ∙ h)

  each_turned : (P : ℕ → Type 0) (xs : List ℕ) → AllByRecursion P xs → AllByRecursion P (reverse xs)
  each_turned P [] h = tt
  each_turned P (x ∷ xs) h =
      subst (AllByRecursion P) (sym (reverse-append (x ∷ []) xs)) (each-append P (reverse xs) (x ∷ []) (each_turned P xs h.1) (h.0, tt))

  pub elements_turned : (x : ℕ) (items : List ℕ) → items ≡ reverse (ancestors doc x) → AllByRecursion (IsElement doc) items
  elements_turned x items e =
      subst (AllByRecursion (IsElement doc)) (sym e) (each_turned (IsElement doc) (ancestors doc x) (ancestors_each doc v x))

  pub descended : (x : ℕ) (items added filter : List ℕ) → items ≡ reverse (ancestors doc x) → added ≡ items → StandsFor doc (reverse added ++ []) filter → IsRight doc (seen items filter)
  descended x items added filter e same stands =
      let path : IsPath doc (reverse items) = subst (IsPath doc) (sym (ap reverse e ∙ reverse-reverse (ancestors doc x))) (ancestors_path doc v x) in
      (path, subst (λ l. StandsFor doc l filter) (append-nil (reverse added) ∙ ap reverse same) stands)

-- elements are added, one after another

-- within a list the item that stands for none makes no difference
any_default : (xs : List ℕ) (k d e : ℕ) → k < length xs → get_or xs k d ≡ get_or xs k e
any_default [] k d e l = absurd (omega (arith, l))
any_default (x ∷ xs) zero d e l = refl
any_default (x ∷ xs) (suc k) d e l = any_default xs k d e (omega (arith, l))

-- those up to an index are added, to those that were there, and the others are elements
pub record AreAdded (doc : List Element) (all old new : List ℕ) (k : ℕ) : Type 0 where
  pub there : AllByRecursion (IsElement doc) (drop k all)
  pub stands : (l : List ℕ) → StandsFor doc l old → StandsFor doc (reverse (take k all) ++ l) new

pub added_all : (doc : List Element) (all old new : List ℕ) (k : ℕ) → AreAdded doc all old new k → length all ≤ k → (l : List ℕ) → StandsFor doc l old
    → StandsFor doc (reverse all ++ l) new
added_all doc all old new k are e l h = subst (λ xs. StandsFor doc (reverse xs ++ l) new) (take_all k all e) (are.stands l h)

module _ (doc : List Element) (all old before after : List ℕ) (k : ℕ) (within : k < length all) where
  abbrev here : ℕ
  here = get_or all k 0

  pub added_next : AreAdded doc all old before k → ((l : List ℕ) → StandsFor doc l before → StandsFor doc (here ∷ l) after) → AreAdded doc all old after (k + 1)
  added_next was push =
      let same : here ≡ get_or all k here = any_default all k 0 here within in
      let first : drop k all ≡ here ∷ drop (k + 1) all = drop_more all k here within ∙ ap (λ y. y ∷ drop (k + 1) all) (sym same) in
      let more : take (k + 1) all ≡ take k all ++ here ∷ [] = (take_at_read all k here within).1 ∙ ap (λ y. take k all ++ y ∷ []) (sym same) in
      let turned_more : reverse (take (k + 1) all) ≡ here ∷ reverse (take k all) = ap reverse more ∙ pushed_last (take k all) here in
      record {
        there = (subst (AllByRecursion (IsElement doc)) first was.there).1;
        stands = λ l h. subst (λ r. StandsFor doc (r ++ l) after) (sym turned_more) (push (reverse (take k all) ++ l) (was.stands l h));
      }
