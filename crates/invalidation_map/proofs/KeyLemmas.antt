-- For `Invalidator::mark_by_touch`: rows with the keys of their touches; those of one key are found, all others mark nothing.
use Rattle.std.proofs.Common.{◌≡◌, ℕ, zero, suc, ◌+◌, ◌<◌, ◌≤◌, ◌==◌, ◌||◌, ◌&&◌, Bool, true, false, List, [], ◌∷◌, ◌++◌, length, map, take, drop, get_or, refl, sym, ap, ◌∙◌}
use Rattle.std.proofs.Common.{subst, inl, inr, arith, length-drop}
use Rattle.std.specs.List.{list_any}
use Rattle.std.proofs.Math.Bool.{or_assoc}
use Rattle.std.proofs.lemmas.Bool.{and_from, and_parts, and_right, eq-eqb, false≢true, or_cases, or_left, or_right}
use Rattle.std.proofs.lemmas.List.{get_or-drop, get_or-map, get_or-take, length-map, length-take, take-append-drop, take_all, take_more}
use Rattle.std.proofs.lemmas.List.Folds.{list_any-append}
use Rattle.scene_model.specs.Element.{Element}
use Rattle.scene_model.specs.Lookups.{numbers}
use Rattle.scene_model.specs.Numbers.{is_in}
use Rattle.scene_model.proofs.Any.{any_in}
use Rattle.scene_model.proofs.Found.{any-map}
use Rattle.edit_model.specs.Touched as model
use Rattle.edit_model.specs.TouchedBy.{is_listed, same_touch}
use Rattle.edit_model.specs.Dependencies.{reaches}
use Rattle.edit_model.specs.MarkedAfter.{bears_around}
use Rattle.edit_model.proofs.AfterLemmas.{never, never_by}
use Rattle.dom_edits.specs.declared.touch.Touch.{Touch}
use Rattle.dom_edits.specs.declared.touch.Touch.TheVariants as kinds
use Rattle.dom_edits.proofs.TouchLemmas.{among-seen, at_given, keys_differ, met_among, same_self}
use Rattle.dom_edits.specs.TouchView.{AreAllTouches, pairs_at, touch_key, touch_seen}
use Rattle.dom_edits.specs.TouchedView.{list_touches}
use Rattle.invalidation_map.specs.declared.shared.DependencyRow.{DependencyRow}
use Rattle.invalidation_map.specs.declared.shared.Shared.{Shared}
use Rattle.invalidation_map.specs.Members.{Members}
use Rattle.invalidation_map.specs.Rows.{Row, is_led_to, marks_by_row, marks_by_touch}
use Rattle.invalidation_map.specs.SharedRows.{row_seen, rows_seen}
use Rattle.invalidation_map.specs.KeyBuckets.{IsNear}
use Rattle.invalidation_map.specs.Marks.{IsGrown}
use Rattle.invalidation_map.proofs.SetLemmas.{or_no}
use Rattle.invalidation_map.proofs.GrowthLemmas.{grown_itself, grown_same}
use Rattle.invalidation_map.proofs.MarkLemmas.{any_alike}

-- in any list

none_at : {X : Type 0} (f : X → Bool) (xs : List X) → ((i : ℕ) (d : X) → i < length xs → f (get_or xs i d) ≡ false) → list_any f xs ≡ false
none_at f [] h = refl
none_at f (x ∷ xs) h =
    ap (λ b. b || list_any f xs) (h 0 x (omega arith)) ∙ none_at f xs (λ i d l. h (suc i) d (omega arith))

any_weaker : {X : Type 0} (p q : X → Bool) → ((x : X) → p x ≡ true → q x ≡ true) → (xs : List X) → list_any p xs ≡ true → list_any q xs ≡ true
any_weaker p q w [] h = h
any_weaker p q w (x ∷ xs) h = elim (or_cases (p x) (list_any p xs) h) [
  | inl e ↦ or_left (q x) (list_any q xs) (w x e)
  | inr e ↦ or_right (q x) (list_any q xs) (any_weaker p q w xs e)
]

four : (a b c d : Bool) → ((a || b) || (c || d)) ≡ ((a || c) || (b || d))
four true b c d = refl
four false true true d = refl
four false true false d = refl
four false false c d = refl

pub or_each : {X : Type 0} (p q : X → Bool) (xs : List X) → list_any (λ x. p x || q x) xs ≡ (list_any p xs || list_any q xs)
or_each p q [] = refl
or_each p q (x ∷ xs) = ap (λ b. (p x || q x) || b) (or_each p q xs) ∙ four (p x) (q x) (list_any p xs) (list_any q xs)

-- some of the one with some of the other, either way round
exchange : {X Y : Type 0} (r : X → Y → Bool) (xs : List X) (ys : List Y) → list_any (λ x. list_any (r x) ys) xs ≡ list_any (λ y. list_any (λ x. r x y) xs) ys
exchange r [] ys = sym (never ys)
exchange r (x ∷ xs) ys =
    ap (λ b. list_any (r x) ys || b) (exchange r xs ys) ∙ sym (or_each (r x) (λ y. list_any (λ z. r z y) xs) ys)

get_any : {X : Type 0} (xs : List X) (n : ℕ) (c d : X) → n < length xs → get_or xs n c ≡ get_or xs n d
get_any [] n c d l = absurd (omega arith)
get_any (x ∷ xs) zero c d l = refl
get_any (x ∷ xs) (suc n) c d l = get_any xs n c d (omega arith)

-- a set that grows by something, and then by each of a list
pub grown_next : {X : Type 0} (base : ℕ → Bool) (f : X → ℕ → Bool) (near : List X) (i : ℕ) (x : X) (g : ℕ → Bool) (m n o : Members) → i < length near → x ≡ get_or near i x → ((y : ℕ) → g y ≡ f x y)
    → IsGrown (λ y. base y || list_any (λ x. f x y) (take i near)) m n → IsGrown g n o → IsGrown (λ y. base y || list_any (λ x. f x y) (take (i + 1) near)) m o
grown_next base f near i x g m n o l is same grown more = record {
  room = more.room ∙ grown.room;
  each = λ y.
      more.each y ∙ (ap (λ b. b || g y) (grown.each y) ∙ (or_assoc (is_in y m.items) (base y || list_any (λ x. f x y) (take i near)) (g y)
      ∙ ap (λ b. is_in y m.items || b) (or_assoc (base y) (list_any (λ x. f x y) (take i near)) (g y) ∙ ap (λ b. base y || b) (longer y))));
}
  where
    longer : (y : ℕ) → (list_any (λ x. f x y) (take i near) || g y) ≡ list_any (λ x. f x y) (take (i + 1) near)
    longer y =
        ap (λ b. list_any (λ x. f x y) (take i near) || b) (same y ∙ or_no (f x y))
        ∙ (sym (list_any-append (λ x. f x y) (take i near) (x ∷ []))
        ∙ ap (list_any (λ x. f x y)) (sym (take_more near i x l ∙ ap (λ z. take i near ++ z ∷ []) (sym is))))

-- rows

abbrev pub key_at : DependencyRow → ℕ
key_at row = touch_key (touch_seen row.touch)

-- touches

-- one with another key is another
pub other_key : (k l : model.Touch) (h : ℕ) → h ≡ touch_key l → (touch_key k == h) ≡ false → same_touch k l ≡ false
other_key k l h is differ = keys_differ k l (λ e. false≢true (sym differ ∙ eq-eqb (touch_key k) h (e ∙ sym is)))

-- each of the touches of an edit is at each of its elements
pub part_listed : (touches : List Touch) (elements : List ℕ) (pairs : List (model.Touch × ℕ)) (i : ℕ) (touch : Touch) → pairs ≡ pairs_at (map touch_seen touches) elements
    → i < length touches → touch ≡ get_or touches i touch → (y : ℕ) → is_in y elements ≡ is_listed pairs (touch_seen touch) y
part_listed touches elements pairs i touch e l is y =
    let k = touch_seen touch in
    at_given touches elements pairs k true (sym e) (among-seen k touches ∙ met_among touches touches 0 i touch k refl l is (same_self k)) y

module _ (doc : List Element) (pairs : List (model.Touch × ℕ)) where
  -- what a row marks, if it is one of the touch
  abbrev pub hits : Shared → model.Touch → DependencyRow → ℕ → Bool
  hits shared k row x = same_touch (touch_seen row.touch) k && marks_by_row doc pairs (row_seen shared row) x

  pub hit_same : (shared : Shared) (k : model.Touch) (row : DependencyRow) → same_touch (touch_seen row.touch) k ≡ true → (x : ℕ) → marks_by_row doc pairs (row_seen shared row) x ≡ hits shared k row x
  hit_same shared k row e x = ap (λ b. b && marks_by_row doc pairs (row_seen shared row) x) (sym e)

  pub hit_none : (shared : Shared) (k : model.Touch) (row : DependencyRow) → same_touch (touch_seen row.touch) k ≡ false → (x : ℕ) → false ≡ hits shared k row x
  hit_none shared k row e x = ap (λ b. b && marks_by_row doc pairs (row_seen shared row) x) (sym e)

  -- one that is not of the touch marks nothing
  pub grown_passed : (shared : Shared) (k : model.Touch) (rows : List DependencyRow) (i : ℕ) (m n : Members) → i < length rows
      → ((d : DependencyRow) → same_touch (touch_seen (get_or rows i d).touch) k ≡ false) → IsGrown (λ x. list_any (λ row. hits shared k row x) (take i rows)) m n
      → IsGrown (λ x. list_any (λ row. hits shared k row x) (take (i + 1) rows)) m n
  grown_passed shared k [] i m n l other grown = absurd (omega arith)
  grown_passed shared k (first ∷ rest) i m n l other grown =
      let rows = first ∷ rest in
      let row = get_or rows i first in
      grown_next (λ (y : ℕ). false) (hits shared k) rows i row (λ (y : ℕ). false) m n n l (get_any rows i first row l) (hit_none shared k row (other first)) grown (grown_itself n)

  module _ (shared : Shared) (k : model.Touch) (h : ℕ) (is_key : h ≡ touch_key k) (rows : List DependencyRow) (keys : List ℕ) (keyed : keys ≡ map key_at rows)
      (first past : ℕ) (near : IsNear h keys first past) where
    as_many : length keys ≡ length rows
    as_many = ap length keyed ∙ length-map rows key_at

    pub in_rows : (i : ℕ) → i < past → i < length rows
    in_rows i l = omega (arith, near.within, as_many)

    missed : (i : ℕ) (d : DependencyRow) → i < length rows → (get_or keys i 0 == h) ≡ false → (x : ℕ) → hits shared k (get_or rows i d) x ≡ false
    missed i d l other x =
        let here : get_or keys i 0 ≡ key_at (get_or rows i d) = ap (λ ks. get_or ks i 0) keyed ∙ get_or-map key_at rows i d 0 l in
        sym (hit_none shared k (get_or rows i d) (other_key (touch_seen (get_or rows i d).touch) k h is_key (subst (λ n. (n == h) ≡ false) here other)) x)

    -- those before the bucket of the touch mark nothing
    pub begun : (m : Members) → IsGrown (λ x. list_any (λ row. hits shared k row x) (take first rows)) m m
    begun m = grown_same (λ x. false) (λ x. list_any (λ row. hits shared k row x) (take first rows)) m m (λ x. sym (none_at (λ row. hits shared k row x) (take first rows) (none x))) (grown_itself m)
      where
        none : (x i : ℕ) (d : DependencyRow) → i < length (take first rows) → hits shared k (get_or (take first rows) i d) x ≡ false
        none x i d l =
            let low : i < first = omega (arith, l, length-take first rows) in
            let there : i < length rows = omega (arith, l, length-take first rows) in
            subst (λ row. hits shared k row x ≡ false) (sym (get_or-take first rows i d low))
            (missed i d there (near.before i 0 low (omega (arith, there, as_many))) x)

    -- nor do those after it
    pub by_touch_all : (i : ℕ) (m n : Members) → past ≤ i → IsGrown (λ x. list_any (λ row. hits shared k row x) (take i rows)) m n → IsGrown (marks_by_touch doc pairs (rows_seen shared rows) k) m n
    by_touch_all i m n ends grown =
        grown_same (λ x. list_any (λ row. hits shared k row x) (take i rows)) (marks_by_touch doc pairs (rows_seen shared rows) k) m n
        (λ x. all x ∙ sym (any-map (λ (row : Row). same_touch row.touch k && marks_by_row doc pairs row x) (row_seen shared) rows)) grown
      where
        none : (x j : ℕ) (d : DependencyRow) → j < length (drop i rows) → hits shared k (get_or (drop i rows) j d) x ≡ false
        none x j d l =
            let there : i + j < length rows = omega (arith, l, length-drop i rows) in
            subst (λ row. hits shared k row x ≡ false) (sym (get_or-drop i rows j d))
            (missed (i + j) d there (near.behind (i + j) 0 (omega (arith, ends)) (omega (arith, there, as_many))) x)

        all : (x : ℕ) → list_any (λ row. hits shared k row x) (take i rows) ≡ list_any (λ row. hits shared k row x) rows
        all x =
            or_no (list_any (λ row. hits shared k row x) (take i rows))
            ∙ (ap (λ b. list_any (λ row. hits shared k row x) (take i rows) || b) (sym (none_at (λ row. hits shared k row x) (drop i rows) (none x)))
            ∙ (sym (list_any-append (λ row. hits shared k row x) (take i rows) (drop i rows))
            ∙ ap (list_any (λ row. hits shared k row x)) (take-append-drop i rows)))

  -- by all that is touched

  module _ (touches : List Touch) (all : AreAllTouches (map touch_seen touches) pairs) (x : ℕ) where
    row_found : (row : Row) (m : Bool) → marks_by_row doc pairs row x ≡ m → list_any (λ (touch : Touch). same_touch row.touch (touch_seen touch) && m) touches ≡ m
    row_found row false h =
        never_by (λ (touch : Touch). same_touch row.touch (touch_seen touch) && false) (λ touch. and_right (same_touch row.touch (touch_seen touch)) false refl) touches
    row_found row true h =
        let led = (and_parts (bears_around (is_listed pairs) doc row.key x) (is_led_to doc pairs row.touch row.path x) h).1 in
        let (y, (i, t)) = any_in (λ y. is_listed pairs row.touch y && reaches doc row.path y x) (numbers doc) led in
        let here = (and_parts (is_listed pairs row.touch y) (reaches doc row.path y x) t).0 in
        any_weaker (λ (touch : Touch). same_touch row.touch (touch_seen touch)) (λ (touch : Touch). same_touch row.touch (touch_seen touch) && true)
        (λ touch s. and_from (same_touch row.touch (touch_seen touch)) true s refl) touches
        (sym (any-map (same_touch row.touch) touch_seen touches) ∙ all row.touch y here)

    -- no other row marks anything
    pub by_touches : (rows : List Row) → list_any (λ (touch : Touch). marks_by_touch doc pairs rows (touch_seen touch) x) touches ≡ list_any (λ row. marks_by_row doc pairs row x) rows
    by_touches rows =
        exchange (λ (touch : Touch) (row : Row). same_touch row.touch (touch_seen touch) && marks_by_row doc pairs row x) touches rows
        ∙ any_alike (λ (row : Row). list_any (λ (touch : Touch). same_touch row.touch (touch_seen touch) && marks_by_row doc pairs row x) touches) (λ row. marks_by_row doc pairs row x) rows
        (λ row. row_found row (marks_by_row doc pairs row x) refl)

  pub by_all_touches : (style : ℕ → Bool) (touches : List Touch) (i : ℕ) (rows : List Row) (m n : Members) → AreAllTouches (map touch_seen touches) pairs → length touches ≤ i
      → IsGrown (λ x. style x || list_any (λ touch. marks_by_touch doc pairs rows (touch_seen touch) x) (take i touches)) m n
      → IsGrown (λ x. style x || list_any (λ row. marks_by_row doc pairs row x) rows) m n
  by_all_touches style touches i rows m n all l grown =
      grown_same (λ x. style x || list_any (λ (touch : Touch). marks_by_touch doc pairs rows (touch_seen touch) x) (take i touches))
      (λ x. style x || list_any (λ row. marks_by_row doc pairs row x) rows) m n
      (λ x. ap (λ b. style x || b) (ap (list_any (λ (touch : Touch). marks_by_touch doc pairs rows (touch_seen touch) x)) (take_all i touches l) ∙ by_touches touches all x rows)) grown

-- the three touches of lists
abbrev pub code_touches : List Touch
code_touches = kinds.Empty ∷ kinds.Positional ∷ kinds.Sibling ∷ []

-- what the three touches of lists add, one after the other
pub grown_three : (f : model.Touch → ℕ → Bool) (m n o q : Members) → IsGrown (f model.empty) m n → IsGrown (f model.positional) n o → IsGrown (f model.sibling) o q
    → IsGrown (λ x. list_any (λ touch. f touch x) list_touches) m q
grown_three f m n o q first second third = record {
  room = third.room ∙ (second.room ∙ first.room);
  each = λ x.
      third.each x
      ∙ (ap (λ b. b || f model.sibling x) (second.each x ∙ ap (λ b. b || f model.positional x) (first.each x))
      ∙ turned (is_in x m.items) (f model.empty x) (f model.positional x) (f model.sibling x));
}
  where
    turned : (a b c d : Bool) → (((a || b) || c) || d) ≡ (a || (b || (c || (d || false))))
    turned true b c d = refl
    turned false true c d = refl
    turned false false true d = refl
    turned false false false true = refl
    turned false false false false = refl

-- where lists changed: what the style's rows add, and then those
pub grown_lists : (style : ℕ → Bool) (by : Touch → ℕ → Bool) (f : model.Touch → ℕ → Bool) (touches : List Touch) (i : ℕ) (m n o : Members)
    → ((touch : Touch) (x : ℕ) → by touch x ≡ f (touch_seen touch) x) → length touches ≡ 0
    → IsGrown (λ x. style x || list_any (λ touch. by touch x) (take i touches)) m n → IsGrown (λ x. list_any (λ touch. f touch x) list_touches) n o
    → IsGrown (λ x. style x || list_any (λ touch. f (touch_seen touch) x) code_touches) m o
grown_lists style by f touches i m n o same none first second = record {
  room = second.room ∙ first.room;
  each = λ x. second.each x ∙ (ap (λ b. b || list_any (λ touch. f touch x) list_touches)
      (first.each x ∙ ap (λ l. is_in x m.items || (style x || list_any (λ touch. by touch x) l)) (nothing i touches none))
      ∙ turned (is_in x m.items) (style x) (list_any (λ touch. f touch x) list_touches));
}
  where
    nothing : (i : ℕ) (l : List Touch) → length l ≡ 0 → take i l ≡ []
    nothing zero l h = refl
    nothing (suc i) [] h = refl
    nothing (suc i) (t ∷ l) h = absurd (omega (arith, h))

    turned : (a b c : Bool) → ((a || (b || false)) || c) ≡ (a || (b || c))
    turned true b c = refl
    turned false true c = refl
    turned false false c = refl
