-- The classes that are in just one of two values, from the words of each.
use Rattle.std.proofs.Common.{◌≡◌, ◌||◌, ◌&&◌, Bool, true, false, cond, not, List, [], ◌∷◌, ◌++◌, map, filter, Option, Some, None, refl, sym, ap, ◌∙◌, append-nil}
use Rattle.std.specs.Bool.{beq}
use Rattle.std.specs.List.{AllByRecursion}
use Rattle.std.proofs.lemmas.List.{append_assoc, map-append}
use Rattle.std.proofs.lemmas.Slice.Eq.{bytes_eq-Decides}
use Rattle.base_model.specs.Text.{Characters, same_text}
use Rattle.scene_model.specs.Words.{words}
use Rattle.scene_model.proofs.Lists.{filter_same, filter-filter, each_weaker}
use Rattle.stylo_base.specs.NameList.{interned, is_among}
use Rattle.dom_tree.specs.Classes.{distinct_from}
use Rattle.dom_tree.specs.Labels.{class_words}
use Rattle.dom_tree.proofs.WordsOnce.{any-last}
use Rattle.edit_model.specs.Touched.{Touch, class}
use Rattle.edit_model.specs.TouchedBy.{has_class_in}
use Rattle.edit_model.specs.TouchedPairs.{classes_between, each_once, words_in}
use Rattle.edit_model.proofs.TouchedPairLemmas.{any-once, text_turned}

-- filters

filter-append : (p : Characters → Bool) (xs ys : List Characters) → filter p (xs ++ ys) ≡ filter p xs ++ filter p ys
filter-append p [] ys = refl
filter-append p (x ∷ xs) ys = by (p x) (filter-append p xs ys)
  where
    by : (c : Bool) → filter p (xs ++ ys) ≡ filter p xs ++ filter p ys → cond c (x ∷ filter p (xs ++ ys)) (filter p (xs ++ ys)) ≡ cond c (x ∷ filter p xs) (filter p xs) ++ filter p ys
    by true e = ap (λ l. x ∷ l) e
    by false e = e

filter-both : (p q : Characters → Bool) (xs : List Characters) → filter p (filter q xs) ≡ filter (λ x. q x && p x) xs
filter-both p q [] = refl
filter-both p q (x ∷ xs) = by (q x) (p x) refl (filter-both p q xs)
  where
    by : (c d : Bool) → p x ≡ d → filter p (filter q xs) ≡ filter (λ x. q x && p x) xs → filter p (cond c (x ∷ filter q xs) (filter q xs)) ≡ cond (c && d) (x ∷ filter (λ x. q x && p x) xs) (filter (λ x. q x && p x) xs)
    by true true e r = ap (λ b. cond b (x ∷ filter p (filter q xs)) (filter p (filter q xs))) e ∙ ap (λ l. x ∷ l) r
    by true false e r = ap (λ b. cond b (x ∷ filter p (filter q xs)) (filter p (filter q xs))) e ∙ r
    by false d e r = r

filter_like : (p q : Characters → Bool) → ((x : Characters) → p x ≡ q x) → (xs : List Characters) → filter p xs ≡ filter q xs
filter_like p q same [] = refl
filter_like p q same (x ∷ xs) = ap (λ b. cond b (x ∷ filter p xs) (filter p xs)) (same x) ∙ ap (λ l. cond (q x) (x ∷ l) l) (filter_like p q same xs)

filter_all : (xs : List Characters) → filter (λ _. true) xs ≡ xs
filter_all [] = refl
filter_all (x ∷ xs) = ap (λ l. x ∷ l) (filter_all xs)

-- each once

abbrev other_than : Characters → Characters → Bool
other_than w y = not (same_text w y)

abbrev misses : List Characters → Characters → Bool
misses found y = not (is_among y found)

not_or : (a b : Bool) → not (a || b) ≡ (not b && not a)
not_or true true = refl
not_or true false = refl
not_or false true = refl
not_or false false = refl

and_turned : (a b : Bool) → (a && b) ≡ (b && a)
and_turned true true = refl
and_turned true false = refl
and_turned false true = refl
and_turned false false = refl

-- the words of two texts in turn
once-append : (xs ys : List Characters) → each_once (xs ++ ys) ≡ each_once xs ++ filter (misses xs) (each_once ys)
once-append [] ys = sym (filter_all (each_once ys))
once-append (x ∷ xs) ys =
    ap (λ l. x ∷ l)
    (ap (filter (other_than x)) (once-append xs ys)
    ∙ (filter-append (other_than x) (each_once xs) (filter (misses xs) (each_once ys))
    ∙ ap (λ l. filter (other_than x) (each_once xs) ++ l)
    (filter-both (other_than x) (misses xs) (each_once ys)
    ∙ filter_like (λ y. misses xs y && other_than x y) (misses (x ∷ xs)) (λ y. ap (λ b. misses xs y && not b) (text_turned x y) ∙ sym (not_or (same_text y x) (is_among y xs))) (each_once ys))))

-- the words that are found one after the other
distinct-once : (found rest : List Characters) → distinct_from found rest ≡ found ++ filter (misses found) (each_once rest)
distinct-once found [] = sym (append-nil found)
distinct-once found (w ∷ rest) = by (is_among w found) refl (distinct-once (interned found w) rest)
  where
    wider : is_among w found ≡ true → (y : Characters) → misses found y ≡ true → other_than w y ≡ true
    wider e y h = apart (same_text w y) refl
      where
        apart : (b : Bool) → same_text w y ≡ b → not b ≡ true
        apart true f = sym (ap not (ap (λ t. is_among t found) (sym ((bytes_eq-Decides w y).0 f)) ∙ e)) ∙ h
        apart false f = refl

    by : (b : Bool) → is_among w found ≡ b → distinct_from (cond b found (found ++ w ∷ [])) rest ≡ cond b found (found ++ w ∷ []) ++ filter (misses (cond b found (found ++ w ∷ []))) (each_once rest) → distinct_from (cond b found (found ++ w ∷ [])) rest ≡ found ++ filter (misses found) (w ∷ filter (other_than w) (each_once rest))
    by true e r =
        r ∙ ap (λ l. found ++ l)
        (sym (filter-filter (misses found) (other_than w) (wider e) (each_once rest))
        ∙ ap (λ c. cond (not c) (w ∷ filter (misses found) (filter (other_than w) (each_once rest))) (filter (misses found) (filter (other_than w) (each_once rest)))) (sym e))
    by false e r =
        r ∙ (append_assoc found (w ∷ []) (filter (misses (found ++ w ∷ [])) (each_once rest))
        ∙ ap (λ l. found ++ l)
        (ap (λ l. w ∷ l)
        (filter_like (misses (found ++ w ∷ [])) (λ y. other_than w y && misses found y) (λ y. ap not (any-last (same_text y) found w) ∙ (not_or (is_among y found) (same_text y w) ∙ ap (λ c. not c && misses found y) (text_turned y w))) (each_once rest)
        ∙ sym (filter-both (misses found) (other_than w) (each_once rest)))
        ∙ ap (λ c. cond (not c) (w ∷ filter (misses found) (filter (other_than w) (each_once rest))) (filter (misses found) (filter (other_than w) (each_once rest)))) (sym e)))

words-once : (value : Option Characters) → class_words value ≡ each_once (words_in value)
words-once None = refl
words-once (Some text) = distinct-once [] (words text) ∙ filter_all (each_once (words text))

-- each member of a list is in it
each_in : (xs : List Characters) → AllByRecursion (λ y. is_among y xs ≡ true) xs
each_in [] = tt
each_in (x ∷ xs) = (ap (λ b. b || is_among x xs) ((bytes_eq-Decides x x).1 refl), each_weaker (λ y. is_among y xs ≡ true) (λ y. is_among y (x ∷ xs) ≡ true) (λ y h. ap (λ b. same_text y x || b) h ∙ or_yes (same_text y x)) xs (each_in xs))
  where
    or_yes : (b : Bool) → (b || true) ≡ true
    or_yes true = refl
    or_yes false = refl

-- the classes of the one that the other has not, and then the other way round
pub classes_apart : (before now : Option Characters) → classes_between before now ≡ filter (λ w. not (is_among w (class_words now))) (class_words before) ++ filter (λ w. not (is_among w (class_words before))) (class_words now)
classes_apart before now =
    ap (filter differs) (once-append old new)
    ∙ (filter-append differs (each_once old) (filter (misses old) (each_once new)) ∙ λ i. first i ++ second i)
  where
    old : List Characters
    old = words_in before

    new : List Characters
    new = words_in now

    differs : Characters → Bool
    differs w = not (beq (has_class_in w before) (has_class_in w now))

    asked : (w : Characters) (value : Option Characters) → has_class_in w value ≡ is_among w (words_in value)
    asked w None = refl
    asked w (Some value) = refl

    among : (w : Characters) (value : Option Characters) → has_class_in w value ≡ is_among w (class_words value)
    among w value = asked w value ∙ (sym (any-once w (words_in value)) ∙ ap (is_among w) (sym (words-once value)))

    gone : (a b : Bool) → a ≡ true → not (beq a b) ≡ not b
    gone true true h = refl
    gone true false h = refl
    gone false b h = absurd (cc)

    came : (a b : Bool) → b ≡ true → (not a && not (beq a b)) ≡ not a
    came true b h = refl
    came false true h = refl
    came false false h = absurd (cc)

    first : filter differs (each_once old) ≡ filter (λ w. not (is_among w (class_words now))) (class_words before)
    first =
        filter_same differs (λ w. not (is_among w (class_words now))) (each_once old)
        (each_weaker (λ w. is_among w (each_once old) ≡ true) (λ w. differs w ≡ not (is_among w (class_words now))) (λ w h. gone (has_class_in w before) (has_class_in w now) (asked w before ∙ (sym (any-once w old) ∙ h)) ∙ ap not (among w now)) (each_once old) (each_in (each_once old)))
        ∙ ap (filter (λ w. not (is_among w (class_words now)))) (sym (words-once before))

    second : filter differs (filter (misses old) (each_once new)) ≡ filter (λ w. not (is_among w (class_words before))) (class_words now)
    second =
        filter-both differs (misses old) (each_once new)
        ∙ (filter_same (λ w. misses old w && differs w) (λ w. not (is_among w (class_words before))) (each_once new)
        (each_weaker (λ w. is_among w (each_once new) ≡ true) (λ w. (misses old w && differs w) ≡ not (is_among w (class_words before))) (λ w h. ap (λ b. not b && differs w) (sym (asked w before)) ∙ (came (has_class_in w before) (has_class_in w now) (asked w now ∙ (sym (any-once w new) ∙ h)) ∙ ap not (among w before))) (each_once new) (each_in (each_once new)))
        ∙ ap (filter (λ w. not (is_among w (class_words before)))) (sym (words-once now)))

-- touches once those of both are appended
pub pushed_classes : (first second third : List Touch) (before now : Option Characters) (old new : List Characters) → old ≡ class_words before → new ≡ class_words now → second ≡ first ++ map class (filter (λ w. not (is_among w new)) old) → third ≡ second ++ map class (filter (λ w. not (is_among w old)) new) → third ≡ first ++ map class (classes_between before now)
pushed_classes first second third before now old new e f g h =
    h ∙ (ap (λ l. l ++ map class (filter (λ w. not (is_among w old)) new)) g
    ∙ (append_assoc first (map class (filter (λ w. not (is_among w new)) old)) (map class (filter (λ w. not (is_among w old)) new))
    ∙ ap (λ l. first ++ l)
    (sym (map-append class (filter (λ w. not (is_among w new)) old) (filter (λ w. not (is_among w old)) new))
    ∙ ap (map class) ((λ i. filter (λ w. not (is_among w (f i))) (e i) ++ filter (λ w. not (is_among w (e i))) (f i)) ∙ sym (classes_apart before now)))))
