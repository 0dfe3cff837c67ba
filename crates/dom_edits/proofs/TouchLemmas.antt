-- Touches that are sorted by their keys, and the pairs of touches with elements.
use Rattle.std.proofs.Common.{◌≡◌, ◌≢◌, ℕ, zero, suc, ◌+◌, ◌<◌, ◌≤◌, ◌==◌, ◌||◌, ◌&&◌, Bool, true, false, List, [], ◌∷◌, ◌++◌, map, length, take, drop, get_or, refl, sym, ap, ◌∙◌, subst, arith, length-drop, ltb}
use Rattle.std.specs.List.{list_any}
use Rattle.std.specs.List.Sorted.{IsPartitionedBy, IsPermutation}
use Rattle.std.proofs.lemmas.List.Sorted.{IsPermutation-map}
use Rattle.std.proofs.lemmas.Bool.{and_from, and_parts, eq-eqb, eqb-true, false_from_ne_true, lt-ltb, ltb-true}
use Rattle.std.proofs.lemmas.List.{drop_more, get_or-drop, get_or-take, length-take, map-append, take-append-drop}
use Rattle.std.proofs.lemmas.List.Folds.{list_any-append}
use Rattle.std.proofs.lemmas.Slice.Eq.{bytes_eq-Decides}
use Rattle.base_model.specs.Text.{same_text}
use Rattle.scene_model.specs.Numbers.{is_in}
use Rattle.edit_model.proofs.Lists.{equal_turned}
use Rattle.edit_model.specs.Touched as model
use Rattle.edit_model.specs.TouchedBy.{same_touch, touch_code, same_pair, is_listed}
use Rattle.edit_model.specs.TouchedPairs.{at_element}
use Rattle.dom_edits.specs.declared.touch.Touch.{Touch}
use Rattle.dom_edits.specs.TouchView.{AreAllTouches, AreSorted, touch_key, touch_seen, touch_told, told_code, pairs_at}

pub same_sound : (k l : model.Touch) → same_touch k l ≡ true → k ≡ l
same_sound k l h =
    let parts = and_parts ((touch_code k).0 == (touch_code l).0) (same_text (touch_code k).1 (touch_code l).1) h in
    sym (told_code k)
    ∙ (ap (λ n. touch_told n (touch_code k).1) (eqb-true (touch_code k).0 (touch_code l).0 parts.0)
    ∙ (ap (λ t. touch_told (touch_code l).0 t) ((bytes_eq-Decides (touch_code k).1 (touch_code l).1).0 parts.1) ∙ told_code l))

pub same_self : (k : model.Touch) → same_touch k k ≡ true
same_self k =
    and_from ((touch_code k).0 == (touch_code k).0) (same_text (touch_code k).1 (touch_code k).1) (eq-eqb (touch_code k).0 (touch_code k).0 refl)
    ((bytes_eq-Decides (touch_code k).1 (touch_code k).1).1 refl)

-- touches of two keys are two
pub keys_differ : (k l : model.Touch) → touch_key k ≢ touch_key l → same_touch k l ≡ false
keys_differ k l other = false_from_ne_true (same_touch k l) (λ t. other (ap touch_key (same_sound k l t)))

-- whether a touch is among some
abbrev pub among : model.Touch → List Touch → Bool
among k list = list_any (λ (touch : Touch). same_touch k (touch_seen touch)) list

pub among-seen : (k : model.Touch) (list : List Touch) → list_any (same_touch k) (map touch_seen list) ≡ among k list
among-seen k [] = refl
among-seen k (touch ∷ list) = ap (λ b. same_touch k (touch_seen touch) || b) (among-seen k list)

none_among : (k : model.Touch) (list : List Touch) → ((i : ℕ) (d : Touch) → i < length list → same_touch k (touch_seen (get_or list i d)) ≡ false) → among k list ≡ false
none_among k [] h = refl
none_among k (touch ∷ list) h =
    ap (λ b. b || among k list) (h 0 touch (omega arith)) ∙ none_among k list (λ i d l. h (suc i) d (omega arith))

or_no : (b : Bool) → (b || false) ≡ b
or_no true = refl
or_no false = refl

-- what is passed over is not among them
pub near_among : (list near : List Touch) (first i : ℕ) (k : model.Touch) → near ≡ drop first list → ((j : ℕ) (d : Touch) → j < length (take first list) → same_touch k (touch_seen (get_or (take first list) j d)) ≡ false) → ((j : ℕ) (d : Touch) → j < length (drop i near) → same_touch k (touch_seen (get_or (drop i near) j d)) ≡ false) → among k (take i near) ≡ among k list
near_among list near first i k e before after =
    let f = λ (touch : Touch). same_touch k (touch_seen touch) in
    sym (or_no (among k (take i near)))
    ∙ (ap (λ b. among k (take i near) || b) (sym (none_among k (drop i near) after))
    ∙ (sym (list_any-append f (take i near) (drop i near))
    ∙ (ap (λ l. among k l) (take-append-drop i near ∙ e)
    ∙ (ap (λ b. b || among k (drop first list)) (sym (none_among k (take first list) before))
    ∙ (sym (list_any-append f (take first list) (drop first list))
    ∙ ap (λ l. among k l) (take-append-drop first list))))))

abbrev key_at : Touch → ℕ
key_at touch = touch_key (touch_seen touch)

-- a smaller key stays smaller to the left
pub parted : (list shown : List Touch) (h : ℕ) → AreSorted list → shown ≡ list → IsPartitionedBy (λ (touch : Touch). ltb (key_at touch) h) shown
parted list shown h sorted e i j d l m t =
    let more : j < length list = omega (arith, ap length e, m) in
    let rises : key_at (get_or shown i d) ≤ key_at (get_or shown j d) = subst (λ ks. key_at (get_or ks i d) ≤ key_at (get_or ks j d)) (sym e) (sorted i j d l more) in
    let less : key_at (get_or shown j d) < h = ltb-true (key_at (get_or shown j d)) h t in
    lt-ltb (key_at (get_or shown i d)) h (omega (arith, rises, less))

pub before_all : (list shown : List Touch) (first h : ℕ) (k : model.Touch) → shown ≡ list → first ≤ length shown → h ≡ touch_key k → ((j : ℕ) (d : Touch) → j < first → ltb (key_at (get_or shown j d)) h ≡ true) → (j : ℕ) (d : Touch) → j < length (take first list) → same_touch k (touch_seen (get_or (take first list) j d)) ≡ false
before_all list shown first h k e few is less j d l =
    let low : j < first = omega (arith, length-take first list) in
    let small : key_at (get_or list j d) < h = ltb-true (key_at (get_or list j d)) h (subst (λ ks. ltb (key_at (get_or ks j d)) h ≡ true) e (less j d low)) in
    subst (λ (touch : Touch). same_touch k (touch_seen touch) ≡ false) (sym (get_or-take first list j d low))
    (keys_differ k (touch_seen (get_or list j d)) (λ same. omega (arith, same, small, is)))

get_or-any : (xs : List Touch) (n : ℕ) (c d : Touch) → n < length xs → get_or xs n c ≡ get_or xs n d
get_or-any [] n c d l = absurd (omega arith)
get_or-any (x ∷ xs) zero c d l = refl
get_or-any (x ∷ xs) (suc n) c d l = get_or-any xs n c d (omega arith)

pub after_all : (list near : List Touch) (first i h : ℕ) (touch : Touch) (k : model.Touch) → AreSorted list → near ≡ drop first list → touch ≡ get_or near i touch → h ≡ touch_key k → h < key_at touch → (j : ℕ) (d : Touch) → j < length (drop i near) → same_touch k (touch_seen (get_or (drop i near) j d)) ≡ false
after_all list near first i h touch k sorted e is same larger j d l =
    let there : first + (i + j) < length list = omega (arith, l, length-drop i near, length-drop first list, ap length e) in
    let place : get_or (drop i near) j d ≡ get_or list (first + (i + j)) d = get_or-drop i near j d ∙ (ap (λ ks. get_or ks (i + j) d) e ∙ get_or-drop first list (i + j) d) in
    let first_at : get_or near i touch ≡ get_or list (first + i) touch = ap (λ ks. get_or ks i touch) e ∙ get_or-drop first list i touch in
    let any_default : get_or list (first + i) touch ≡ get_or list (first + i) d = get_or-any list (first + i) touch d (omega (arith, there)) in
    let low : key_at touch ≡ key_at (get_or list (first + i) d) = ap {B = ℕ} key_at (is ∙ (first_at ∙ any_default)) in
    let rises : key_at (get_or list (first + i) d) ≤ key_at (get_or list (first + (i + j)) d) = sorted (first + i) (first + (i + j)) d (omega arith) there in
    subst (λ (touch : Touch). same_touch k (touch_seen touch) ≡ false) (sym place)
    (keys_differ k (touch_seen (get_or list (first + (i + j)) d)) (λ alike. omega (arith, alike, rises, low, larger, same)))

-- one that is met is among them
pub met_among : (list near : List Touch) (first i : ℕ) (touch : Touch) (k : model.Touch) → near ≡ drop first list → i < length near → touch ≡ get_or near i touch → same_touch k (touch_seen touch) ≡ true → among k list ≡ true
met_among list near first i touch k e l is same =
    let f = λ (touch : Touch). same_touch k (touch_seen touch) in
    let here : among k (drop i near) ≡ true =
    ap (among k) (drop_more near i touch l ∙ ap (λ t. t ∷ drop (i + 1) near) (sym is)) ∙ ap (λ b. b || among k (drop (i + 1) near)) same in
    let there : among k near ≡ true =
    ap (among k) (sym (take-append-drop i near)) ∙ (list_any-append f (take i near) (drop i near) ∙ (ap (λ b. among k (take i near) || b) here ∙ or_yes (among k (take i near)))) in
    ap (among k) (sym (take-append-drop first list))
    ∙ (list_any-append f (take first list) (drop first list) ∙ (ap (λ b. among k (take first list) || b) (ap (among k) (sym e) ∙ there) ∙ or_yes (among k (take first list))))
  where
    or_yes : (b : Bool) → (b || true) ≡ true
    or_yes true = refl
    or_yes false = refl

pub none_left : (near : List Touch) (i : ℕ) (k : model.Touch) → length near ≤ i → (j : ℕ) (d : Touch) → j < length (drop i near) → same_touch k (touch_seen (get_or (drop i near) j d)) ≡ false
none_left near i k h j d l = absurd (omega (arith, length-drop i near))

-- pairs

pub pairs_at-one : (list : List model.Touch) (x : ℕ) → pairs_at list (x ∷ []) ≡ at_element x list
pairs_at-one [] x = refl
pairs_at-one (touch ∷ list) x = ap (λ rest. (touch, x) ∷ rest) (pairs_at-one list x)

one_touch : (k touch : model.Touch) (y : ℕ) (elements : List ℕ) → list_any (same_pair (k, y)) (map (λ z. (touch, z)) elements) ≡ (same_touch k touch && is_in y elements)
one_touch k touch y [] = none (same_touch k touch)
  where
    none : (b : Bool) → false ≡ (b && false)
    none true = refl
    none false = refl
one_touch k touch y (z ∷ elements) =
    ap (λ b. (same_touch k touch && (y == z)) || b) (one_touch k touch y elements)
    ∙ (both (same_touch k touch) (y == z) (is_in y elements) ∙ ap (λ b. same_touch k touch && (b || is_in y elements)) (equal_turned y z))
  where
    both : (a b c : Bool) → ((a && b) || (a && c)) ≡ (a && (b || c))
    both true b c = refl
    both false b c = refl

pub listed_at : (k : model.Touch) (y : ℕ) (list : List model.Touch) (elements : List ℕ) → is_listed (pairs_at list elements) k y ≡ (list_any (same_touch k) list && is_in y elements)
listed_at k y [] elements = refl
listed_at k y (touch ∷ list) elements =
    list_any-append (same_pair (k, y)) (map (λ z. (touch, z)) elements) (pairs_at list elements)
    ∙ ((λ i. one_touch k touch y elements i || listed_at k y list elements i) ∙ either (same_touch k touch) (list_any (same_touch k) list) (is_in y elements))
  where
    either : (a b c : Bool) → ((a && c) || (b && c)) ≡ ((a || b) && c)
    either true true true = refl
    either true true false = refl
    either true false true = refl
    either true false false = refl
    either false b c = refl

-- the elements, where the touch is among those, else none
pub at_given : (list : List Touch) (elements : List ℕ) (now : List (model.Touch × ℕ)) (k : model.Touch) (b : Bool) → pairs_at (map touch_seen list) elements ≡ now → list_any (same_touch k) (map touch_seen list) ≡ b → (y : ℕ) → (b && is_in y elements) ≡ is_listed now k y
at_given list elements now k b view has y =
    ap (λ c. c && is_in y elements) (sym has) ∙ (sym (listed_at k y (map touch_seen list) elements) ∙ ap (λ pairs. is_listed pairs k y) view)

-- there are no others
pub all_touches : (list shown : List Touch) (elements : List ℕ) (now : List (model.Touch × ℕ)) → pairs_at (map touch_seen list) elements ≡ now → shown ≡ list → AreAllTouches (map touch_seen shown) now
all_touches list shown elements now view same touch y h =
    ap (λ l. list_any (same_touch touch) (map touch_seen l)) same
    ∙ (and_parts (list_any (same_touch touch) (map touch_seen list)) (is_in y elements) (sym (listed_at touch y (map touch_seen list) elements) ∙ (ap (λ pairs. is_listed pairs touch y) view ∙ h))).0

-- the pairs of touches in another order, at one element
pub one_sorted : (list sorted : List Touch) (x : ℕ) (elements : List ℕ) → elements ≡ x ∷ [] → IsPermutation list sorted → IsPermutation (at_element x (map touch_seen list)) (pairs_at (map touch_seen sorted) elements)
one_sorted list sorted x elements e moved =
    subst (λ (l : List (model.Touch × ℕ)). IsPermutation (at_element x (map touch_seen list)) l) (sym (ap (pairs_at (map touch_seen sorted)) e ∙ pairs_at-one (map touch_seen sorted) x))
    (IsPermutation-map (λ (touch : model.Touch). (touch, x)) (map touch_seen list) (map touch_seen sorted) (IsPermutation-map touch_seen list sorted moved))

-- one touch more
pub pushed_touch : (list longer : List Touch) (touch : Touch) (k : model.Touch) → longer ≡ list ++ touch ∷ [] → touch_seen touch ≡ k → map touch_seen longer ≡ map touch_seen list ++ k ∷ []
pushed_touch list longer touch k e is =
    ap (map touch_seen) e ∙ (map-append touch_seen list (touch ∷ []) ∙ ap (λ t. map touch_seen list ++ t ∷ []) is)
