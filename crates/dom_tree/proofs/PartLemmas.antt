-- Parts of one flat list, of which one is changed in place, or written anew at its end.
use Rattle.std.proofs.Common.{◌≡◌, ◌≢◌, ℕ, zero, suc, ◌+◌, ◌-◌, ◌<◌, ◌≤◌, ◌⊎◌, List, [], ◌∷◌, ◌++◌, map, set, take, drop, length, get_or, Some, IfSome, option_map, slice_get}
use Rattle.std.proofs.Common.{sym, ap, ◌∙◌, subst, refl, inl, inr, arith, append_assoc, length-append, length-take-le, length-drop, drop-drop, take-append-drop}
use Rattle.std.specs.List.{AllByRecursion}
use Rattle.std.proofs.Math.Seq.{drop-append_seam, drop-append-add}
use Rattle.std.proofs.lemmas.Bool.{cases_eq}
use Rattle.std.proofs.lemmas.List.{length-set, map-set, take-append-le, take-take, take_all, drop-append-le, drop-take}
use Rattle.std.proofs.lemmas.Option.{same_Some, slice_get-map, slice_get_within}
use Rattle.scene_model.proofs.Lists.{each_weaker}
use Rattle.dom_tree.specs.declared.span.Span.{Span}
use Rattle.dom_tree.specs.ChildLists.{AreParts, IsBefore, list_moved, list_with, list_without, lists_of}
use Rattle.dom_tree.specs.Kept.{part_of}
use Rattle.dom_tree.specs.Turned.{between, turned}
use Rattle.dom_tree.proofs.ColumnLemmas.{IsWithin, last_within, part_last, still_within}
use Rattle.dom_tree.proofs.FlatLemmas.{lists_kept}
use Rattle.dom_tree.proofs.Places.{at_some, each_at, get_set_other, get_set_same, if_some, item_at, read_at, set_same}
use Rattle.dom_tree.proofs.TurnLemmas.{cut_at, length-turned, moved_earlier, moved_later, turned_after, turned_before}

-- items by index, elsewhere than at one

module _ {X : Type 0} where
  each_set : (P : X → Type 0) (xs : List X) (i : ℕ) (y : X) → P y → AllByRecursion P xs → AllByRecursion P (set xs i y)
  each_set P [] i y new h = tt
  each_set P (x ∷ xs) zero y new h = (new, h.1)
  each_set P (x ∷ xs) (suc i) y new h = (h.0, each_set P xs i y new h.1)

  map_alike : {Y : Type 0} (f g : X → Y) (xs : List X) → ((j : ℕ) (x : X) → slice_get xs j ≡ Some x → f x ≡ g x) → map f xs ≡ map g xs
  map_alike f g [] h = refl
  map_alike f g (x ∷ xs) h = λ i. h 0 x refl i ∷ map_alike f g xs (λ j y e. h (suc j) y e) i

  set_alike : {Y : Type 0} (f g : X → Y) (xs : List X) (i : ℕ) (y : Y) → ((j : ℕ) (x : X) → slice_get xs j ≡ Some x → j ≢ i → f x ≡ g x) → set (map f xs) i y ≡ set (map g xs) i y
  set_alike f g [] i y h = refl
  set_alike f g (x ∷ xs) zero y h = ap (λ l. y ∷ l) (map_alike f g xs (λ j z e. h (suc j) z e (λ c. omega arith)))
  set_alike f g (x ∷ xs) (suc i) y h = λ t. h 0 x refl (λ c. omega arith) t ∷ set_alike f g xs i y (λ j z e c. h (suc j) z e (λ d. c (omega arith))) t

-- the span that was read, and its list

pub span_at : (spans : List Span) (i : ℕ) {s : Span} → i < length spans → s ≡ get_or spans i s → slice_get spans i ≡ Some s
span_at spans i l is = read_at spans l is

pub list_at : (flat : List ℕ) (spans : List Span) (i : ℕ) {s : Span} → slice_get spans i ≡ Some s → slice_get (lists_of flat spans) i ≡ Some (part_of flat s)
list_at flat spans i at = slice_get-map (part_of flat) spans i ∙ ap (option_map (part_of flat)) at

-- what is known of it, and what became of it

pub told_at : (flat : List ℕ) (spans : List Span) (i : ℕ) {s : Span} (P : List ℕ → Type 0) → slice_get spans i ≡ Some s → IfSome (slice_get (lists_of flat spans) i) P → P (part_of flat s)
told_at flat spans i P at h = at_some P (list_at flat spans i at) h

pub became : (flat : List ℕ) (spans : List Span) (i : ℕ) {s : Span} {new : List (List ℕ)} (f : List ℕ → List ℕ) → slice_get spans i ≡ Some s → new ≡ set (lists_of flat spans) i (f (part_of flat s))
    → IfSome (slice_get (lists_of flat spans) i) (λ list. new ≡ set (lists_of flat spans) i (f list))
became flat spans i {new = new} f at e = if_some (λ (list : List ℕ). new ≡ set (lists_of flat spans) i (f list)) (list_at flat spans i at) e

-- a list in three, of which the middle is a part

module _ (a m b : List ℕ) (s : Span) (first : s.first ≡ length a) where
  pub own_part : s.count ≤ length m → part_of (a ++ (m ++ b)) s ≡ take s.count m
  own_part l = ap (take s.count) (ap (λ n. drop n (a ++ (m ++ b))) first ∙ drop-append_seam a (m ++ b)) ∙ take-append-le s.count m b l

module _ (a m n b : List ℕ) (same : length m ≡ length n) (t : Span) where
  other_part : (t.first + t.count ≤ length a) ⊎ (length a + length m ≤ t.first) → part_of (a ++ (m ++ b)) t ≡ part_of (a ++ (n ++ b)) t
  other_part (inl early) = alone m ∙ sym (alone n)
    where
      alone : (x : List ℕ) → part_of (a ++ (x ++ b)) t ≡ part_of a t
      alone x = ap (take t.count) (drop-append-le t.first a (x ++ b) (omega (arith, early))) ∙ take-append-le t.count (drop t.first a) (x ++ b) (omega (arith, early, length-drop t.first a))
  other_part (inr late) = alone m refl ∙ sym (alone n same)
    where
      alone : (x : List ℕ) → length m ≡ length x → part_of (a ++ (x ++ b)) t ≡ take t.count (drop (t.first - (length a + length m)) b)
      alone x e =
          let split : t.first ≡ length (a ++ x) + (t.first - (length a + length m)) = omega (arith, late, e, length-append a x) in
          ap (take t.count) (ap (drop t.first) (sym (append_assoc a x b)) ∙ (ap (λ k. drop k ((a ++ x) ++ b)) split ∙ drop-append-add (a ++ x) b (t.first - (length a + length m))))

-- a part changed in place, whose span is no longer than it was

module _ {flat : List ℕ} {spans : List Span} (are : AreParts flat spans) (i : ℕ) {s : Span} (at : slice_get spans i ≡ Some s) where
  pub inside : s.first + s.count ≤ length flat
  inside = each_at (λ (s : Span). s.first + s.count ≤ length flat) spans i s are.within at

  abbrev front : List ℕ
  front = take s.first flat

  abbrev back : List ℕ
  back = drop (s.first + s.count) flat

  front_long : length front ≡ s.first
  front_long = length-take-le s.first flat (omega (arith, inside))

  pub part_long : length (part_of flat s) ≡ s.count
  part_long = length-take-le s.count (drop s.first flat) (omega (arith, inside, length-drop s.first flat))

  pub in_three : front ++ (part_of flat s ++ back) ≡ flat
  in_three = ap (λ l. front ++ (part_of flat s ++ l)) (sym (drop-drop s.count s.first flat)) ∙ (ap (λ l. front ++ l) (take-append-drop s.count (drop s.first flat)) ∙ take-append-drop s.first flat)

  module _ (m : List ℕ) (long : length m ≡ s.count) (t : Span) (first : t.first ≡ s.first) (count : t.count ≤ s.count) where
    abbrev changed : List ℕ
    changed = front ++ (m ++ back)

    changed_long : length changed ≡ length flat
    changed_long = omega (arith, inside, length-append front (m ++ back), length-append m back, front_long, long, length-drop (s.first + s.count) flat)

    elsewhere : (j : ℕ) (u : Span) → slice_get spans j ≡ Some u → j ≢ i → part_of changed u ≡ part_of flat u
    elsewhere j u there other =
        other_part front m (part_of flat s) back (omega (arith, long, part_long)) u (elim (are.apart j i u s there at other) [
          | inl early ↦ inl (omega (arith, early, front_long))
          | inr late ↦ inr (omega (arith, late, front_long, long))
        ]) ∙ ap (λ l. part_of l u) in_three

    pub lists_changed : lists_of changed (set spans i t) ≡ set (lists_of flat spans) i (take t.count m)
    lists_changed =
        map-set (part_of changed) spans i t
        ∙ (ap (set (map (part_of changed) spans) i) (own_part front m back t (omega (arith, first, front_long)) (omega (arith, count, long)))
        ∙ set_alike (part_of changed) (part_of flat) spans i (take t.count m) elsewhere)

    now : (j : ℕ) (u : Span) → slice_get (set spans i t) j ≡ Some u → (v : Span) × (slice_get spans j ≡ Some v) × (u.first ≡ v.first) × (u.count ≤ v.count)
    now j u e = elim (cases_eq i j) [
      | inl same ↦
          let u_is : t ≡ u = same_Some t u (sym (get_set_same spans i t (slice_get_within spans i s at)) ∙ (ap (slice_get (set spans i t)) same ∙ e)) in
          (s, ap (slice_get spans) (sym same) ∙ at, ap (λ (r : Span). r.first) (sym u_is) ∙ first, omega (arith, ap (λ (r : Span). r.count) u_is, count))
      | inr other ↦ (u, sym (get_set_other spans i j t other) ∙ e, refl, omega arith)
    ]

    pub parts_changed : AreParts changed (set spans i t)
    parts_changed = record {
      within = subst (λ n. AllByRecursion (λ (r : Span). r.first + r.count ≤ n) (set spans i t)) (sym changed_long)
          (each_set (λ (r : Span). r.first + r.count ≤ length flat) spans i t (omega (arith, inside, first, count)) are.within);
      apart = λ j k u w e f other. (let (v, is, a, b) = now j u e in let (x, also, c, d) = now k w f in elim (are.apart j k v x is also other) [
        | inl l ↦ inl (omega (arith, l, a, b, c, d))
        | inr l ↦ inr (omega (arith, l, a, b, c, d))
      ]);
    }

  -- a turn within the part
  pub turned_part : (from to count : ℕ) → from ≤ to → to ≤ s.count → turned (s.first + from) (s.first + to) count flat ≡ front ++ (turned from to count (part_of flat s) ++ back)
  turned_part from to count l h =
      (λ i. turned (sym front_long i + from) (sym front_long i + to) count (sym in_three i))
      ∙ (turned_after front (part_of flat s ++ back) from to count ∙ ap (λ l. front ++ l) (turned_before (part_of flat s) back from to count l (omega (arith, h, part_long))))

  module _ (index : ℕ) (l : index < length (part_of flat s)) where
    abbrev less : Span
    less = record { first = s.first; count = s.count - 1 }

    abbrev turn_out : List ℕ
    turn_out = turned (s.first + index) (s.first + s.count) 1 flat

    moved_last : turn_out ≡ front ++ (turned index s.count 1 (part_of flat s) ++ back)
    moved_last = turned_part index s.count 1 (omega (arith, l, part_long)) (omega arith)

    last_long : length (turned index s.count 1 (part_of flat s)) ≡ s.count
    last_long = length-turned index s.count 1 (part_of flat s) (omega (arith, l, part_long)) (omega (arith, part_long)) ∙ part_long

    pub parts_without : AreParts turn_out (set spans i (record { first = s.first; count = s.count - 1 }))
    parts_without = subst (λ f. AreParts f (set spans i less)) (sym moved_last) (parts_changed (turned index s.count 1 (part_of flat s)) last_long less refl (omega arith))

    pub lists_without : lists_of turn_out (set spans i (record { first = s.first; count = s.count - 1 })) ≡ set (lists_of flat spans) i (list_without index (part_of flat s))
    lists_without =
        let cut : take (s.count - 1) (turned index s.count 1 (part_of flat s)) ≡ list_without index (part_of flat s) =
        (λ k. take (sym part_long k - 1) (turned index (sym part_long k) 1 (part_of flat s))) ∙ cut_at (part_of flat s) index 1 (omega (arith, l)) in
        ap (λ f. lists_of f (set spans i less)) moved_last ∙ (lists_changed (turned index s.count 1 (part_of flat s)) last_long less refl (omega arith) ∙ ap (set (lists_of flat spans) i) cut)

  -- an item moved to another index, of so many
  module _ (m : List ℕ) (from to count : ℕ) (e : turned from to count (part_of flat s) ≡ m) (l : from + count ≤ to) (h : to ≤ s.count) where
    turned_to : turned (s.first + from) (s.first + to) count flat ≡ front ++ (m ++ back)
    turned_to = turned_part from to count (omega (arith, l)) h ∙ ap (λ l. front ++ (l ++ back)) e

    still_long : length m ≡ s.count
    still_long = sym (ap length e) ∙ (length-turned from to count (part_of flat s) l (omega (arith, h, part_long)) ∙ part_long)

    set_itself : set spans i s ≡ spans
    set_itself = set_same spans i s at

    pub parts_turned : AreParts (turned (s.first + from) (s.first + to) count flat) spans
    parts_turned = back_parts (parts_changed m still_long s refl (omega arith))
      where
        back_parts : AreParts (front ++ (m ++ back)) (set spans i s) → AreParts (turned (s.first + from) (s.first + to) count flat) spans
        back_parts h = subst (λ f. AreParts f spans) (sym turned_to) (subst (AreParts (front ++ (m ++ back))) set_itself h)

    pub lists_turned : lists_of (turned (s.first + from) (s.first + to) count flat) spans ≡ set (lists_of flat spans) i m
    lists_turned =
        (λ k. lists_of (turned_to k) (sym set_itself k)) ∙ (lists_changed m still_long s refl (omega arith) ∙ ap (set (lists_of flat spans) i) (take_all s.count m (omega (arith, still_long))))

-- an item moved within its list

module _ {flat : List ℕ} {spans : List Span} (are : AreParts flat spans) (i : ℕ) {s : Span} (at : slice_get spans i ≡ Some s) (from to : ℕ) (l : from < length (part_of flat s)) (m : to < length
    (part_of flat s)) where
  abbrev list : List ℕ
  list = part_of flat s

  abbrev moved_list : List ℕ
  moved_list = list_moved from to list

  within_part : to + 1 ≤ s.count
  within_part = omega (arith, m, part_long are i at)

  pub parts_later : from < to → AreParts (turned (s.first + from) (s.first + (to + 1)) 1 flat) spans
  parts_later h = parts_turned are i at moved_list from (to + 1) 1 (moved_later list from 1 to (omega (arith, h)) (omega (arith, m))) (omega (arith, h)) within_part

  pub lists_later : from < to → lists_of (turned (s.first + from) (s.first + (to + 1)) 1 flat) spans ≡ set (lists_of flat spans) i moved_list
  lists_later h = lists_turned are i at moved_list from (to + 1) 1 (moved_later list from 1 to (omega (arith, h)) (omega (arith, m))) (omega (arith, h)) within_part

  within_too : from + 1 ≤ s.count
  within_too = omega (arith, l, part_long are i at)

  pub parts_earlier : to ≤ from → AreParts (turned (s.first + to) (s.first + (from + 1)) (from - to) flat) spans
  parts_earlier h = parts_turned are i at moved_list to (from + 1) (from - to) (moved_earlier list from 1 to h (omega (arith, l))) (omega (arith, h)) within_too

  pub lists_earlier : to ≤ from → lists_of (turned (s.first + to) (s.first + (from + 1)) (from - to) flat) spans ≡ set (lists_of flat spans) i moved_list
  lists_earlier h = lists_turned are i at moved_list to (from + 1) (from - to) (moved_earlier list from 1 to h (omega (arith, l))) (omega (arith, h)) within_too

-- a list with one more item

pub length-with : (index item : ℕ) (list : List ℕ) → index ≤ length list → length (list_with index item list) ≡ length list + 1
length-with index item list l =
    omega (arith, length-append (take index list) (item ∷ drop index list), length-take-le index list l, length-drop index list)

-- a list written anew at the end, with this span

module _ {flat : List ℕ} {spans : List Span} (are : AreParts flat spans) (i : ℕ) (l : i < length spans) (more : List ℕ) {later : List ℕ} (e : later ≡ flat ++ more)
    (t : Span) (first : t.first ≡ length flat) (count : t.count ≡ length more) where
  old_or_new : (j : ℕ) (u : Span) → slice_get (set spans i t) j ≡ Some u → ((j ≢ i) × (slice_get spans j ≡ Some u)) ⊎ ((j ≡ i) × (u ≡ t))
  old_or_new j u at = elim (cases_eq j i) [
    | inl same ↦ inr (same, same_Some u t (sym at ∙ (ap (slice_get (set spans i t)) same ∙ get_set_same spans i t l)))
    | inr other ↦ inl (other, sym (get_set_other spans i j t (λ e. other (sym e))) ∙ at)
  ]

  before_new : (j : ℕ) (u : Span) → slice_get spans j ≡ Some u → IsBefore u t
  before_new j u at = omega (arith, each_at (IsWithin flat) spans j u are.within at, first)

  pub parts_anew : AreParts later (set spans i t)
  parts_anew = record {
    within = each_set (IsWithin later) spans i t (last_within flat more e t first count) (each_weaker (IsWithin flat) (IsWithin later) (λ u h. still_within flat more e u h) spans are.within);
    apart = λ j k u w at also other. elim (old_or_new j u at) [
      | inl h ↦ elim (old_or_new k w also) [
        | inl g ↦ are.apart j k u w h.1 g.1 other
        | inr g ↦ inl (subst (IsBefore u) (sym g.1) (before_new j u h.1))
      ]
      | inr h ↦ elim (old_or_new k w also) [
        | inl g ↦ inr (subst (IsBefore w) (sym h.1) (before_new k w g.1))
        | inr g ↦ absurd (other (h.0 ∙ sym g.0))
      ]
    ];
  }

  pub lists_anew : lists_of later (set spans i t) ≡ set (lists_of flat spans) i more
  lists_anew = map-set (part_of later) spans i t ∙ (λ k. set (lists_kept flat more e spans are.within k) i (part_last flat more e t first count k))

-- the list with one more item, of which each side is a part of the flat list

module _ {flat : List ℕ} {spans : List Span} (are : AreParts flat spans) (i : ℕ) {s : Span} (at : slice_get spans i ≡ Some s) (index item : ℕ) (l : index ≤ length (part_of flat s)) where
  front_part : between s.first (s.first + index) flat ≡ take index (part_of flat s)
  front_part =
      let n : (s.first + index) - s.first ≡ index = omega arith in
      ap (λ n. take n (drop s.first flat)) n ∙ sym (take-take index s.count (drop s.first flat) (omega (arith, l, part_long are i at)))

  back_part : between (s.first + index) (s.first + s.count) flat ≡ drop index (part_of flat s)
  back_part =
      let n : (s.first + s.count) - (s.first + index) ≡ s.count - index = omega arith in
      let split : s.count ≡ index + (s.count - index) = omega (arith, l, part_long are i at) in
      (λ k. take (n k) (sym (drop-drop index s.first flat) k))
      ∙ (sym (drop-take index (s.count - index) (drop s.first flat)) ∙ ap (λ n. drop index (take n (drop s.first flat))) (sym split))

  -- after the first side and the item were appended
  pub with_item : {one two three : List ℕ} → one ≡ flat ++ between s.first (s.first + index) flat → two ≡ one ++ item ∷ [] → three ≡ two ++ between (s.first + index) (s.first + s.count) two
      → three ≡ flat ++ list_with index item (part_of flat s)
  with_item {one} {two} {three} e f g =
      let kept : between (s.first + index) (s.first + s.count) two ≡ drop index (part_of flat s) = still two (between s.first (s.first + index) flat ++ item ∷ []) (f ∙ (ap (λ l. l ++ item ∷ []) e
      ∙ append_assoc flat (between s.first (s.first + index) flat) (item ∷ []))) ∙ back_part in
      g ∙ ((λ k. (f ∙ (λ j. (e ∙ ap (λ l. flat ++ l) front_part) j ++ item ∷ [])) k ++ kept k)
      ∙ (append_assoc (flat ++ take index (part_of flat s)) (item ∷ []) (drop index (part_of flat s)) ∙ append_assoc flat (take index (part_of flat s)) (item ∷ drop index (part_of flat s))))
    where
      still : (later more : List ℕ) → later ≡ flat ++ more → between (s.first + index) (s.first + s.count) later ≡ between (s.first + index) (s.first + s.count) flat
      still later more e =
          ap (between (s.first + index) (s.first + s.count)) e
          ∙ (ap (take ((s.first + s.count) - (s.first + index))) (drop-append-le (s.first + index) flat more (omega (arith, l, part_long are i at, inside are i at)))
          ∙ take-append-le ((s.first + s.count) - (s.first + index)) (drop (s.first + index) flat) more (omega (arith, length-drop (s.first + index) flat, inside are i at)))

-- two lists changed, one after the other

module _ (lists mid : List (List ℕ)) (i j : ℕ) (f : List ℕ → List ℕ) (apart : i ≢ j) (in_i : i < length lists) (in_j : j < length lists)
    (first : IfSome (slice_get lists j) (λ list. mid ≡ set lists j (f list))) where
  changed_first : (list : List ℕ) × (slice_get lists j ≡ Some list) × (mid ≡ set lists j (f list))
  changed_first = item_at lists j (λ (list : List ℕ). mid ≡ set lists j (f list)) in_j first

  same_there : slice_get mid i ≡ slice_get lists i
  same_there = let (list, at, e) = changed_first in ap (λ l. slice_get l i) e ∙ get_set_other lists j i (f list) (λ g. apart (sym g))

  pub still_told : (P : List ℕ → Type 0) → IfSome (slice_get lists i) P → IfSome (slice_get mid i) P
  still_told P h = subst (λ o. IfSome o P) (sym same_there) h

  pub still_many : length mid ≡ length lists
  still_many = let (list, at, e) = changed_first in ap length e ∙ length-set lists j (f list)

  pub both_changed : (new : List (List ℕ)) (g : List ℕ → List ℕ) → IfSome (slice_get mid i) (λ list. new ≡ set mid i (g list))
      → IfSome (slice_get lists j) (λ there. IfSome (slice_get lists i) (λ here. new ≡ set (set lists j (f there)) i (g here)))
  both_changed new g second =
      let (list, at, e) = changed_first in
      let (here, there, told) = item_at lists i (λ (list : List ℕ). new ≡ set mid i (g list)) in_i (subst (λ o. IfSome o (λ (list : List ℕ). new ≡ set mid i (g list))) same_there second) in
      if_some (λ (there : List ℕ). IfSome (slice_get lists i) (λ here. new ≡ set (set lists j (f there)) i (g here))) at
      (if_some (λ (here : List ℕ). new ≡ set (set lists j (f list)) i (g here)) there (told ∙ ap (λ l. set l i (g here)) e))
