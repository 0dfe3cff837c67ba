-- Lists as parts of one flat list, to which those of another were appended.
use Rattle.std.proofs.Common.{◌≡◌, ℕ, zero, suc, ◌+◌, ◌-◌, ◌<◌, ◌≤◌, ◌⊎◌, List, [], ◌∷◌, ◌++◌, map, take, drop, length, Some, option_map, slice_get}
use Rattle.std.proofs.Common.{sym, ap, ◌∙◌, subst, refl, inl, inr, arith, length-append}
use Rattle.std.specs.List.{AllByRecursion}
use Rattle.std.proofs.Math.Seq.{drop-append-add}
use Rattle.std.proofs.lemmas.List.{drop-map, length-map, map-append, take-map}
use Rattle.std.proofs.lemmas.Option.{same_Some, slice_get-map, slice_get_within}
use Rattle.base_model.proofs.Lists.{each-append, slice_get_some}
use Rattle.scene_model.proofs.Lists.{each_weaker}
use Rattle.dom_tree.specs.declared.span.Span.{Span}
use Rattle.dom_tree.specs.ChildLists.{AreParts, IsBefore, lists_of, shifted}
use Rattle.dom_tree.specs.Kept.{part_of}
use Rattle.dom_tree.proofs.ColumnLemmas.{IsWithin, still_within}
use Rattle.dom_tree.proofs.FlatLemmas.{lists_kept}
use Rattle.dom_tree.proofs.Places.{each_at}

-- an item of two lists is one of the first, or one of the second
pub item_of : {X : Type 0} (xs ys : List X) (i : ℕ) (x : X) → slice_get (xs ++ ys) i ≡ Some x
    → ((i < length xs) × (slice_get xs i ≡ Some x)) ⊎ ((length xs ≤ i) × (slice_get ys (i - length xs) ≡ Some x))
item_of [] ys i x at = let none : i - 0 ≡ i = omega arith in inr (omega arith, ap (slice_get ys) none ∙ at)
item_of (z ∷ zs) ys zero x at = inl (omega arith, at)
item_of (z ∷ zs) ys (suc i) x at = elim (item_of zs ys i x at) [
  | inl h ↦ inl (omega (arith, h.0), h.1)
  | inr h ↦ let same : suc i - length (z ∷ zs) ≡ i - length zs = omega arith in inr (omega (arith, h.0), ap (slice_get ys) same ∙ h.1)
]

-- what was mapped comes from an item
mapped_from : {X Y : Type 0} (f : X → Y) (xs : List X) (i : ℕ) (y : Y) → slice_get (map f xs) i ≡ Some y → (x : X) × (slice_get xs i ≡ Some x) × (f x ≡ y)
mapped_from f xs i y at =
    let (x, here) = slice_get_some xs i (subst (λ n. i < n) (length-map xs f) (slice_get_within (map f xs) i y at)) in
    (x, here, same_Some (f x) y (sym (slice_get-map f xs i ∙ ap (option_map f) here) ∙ at))

module _ {flat more : List ℕ} {spans found : List Span} (are : AreParts flat spans) (also : AreParts more found) (r : ℕ → ℕ) {later : List ℕ} {longer : List Span} {start : ℕ}
    (e : later ≡ flat ++ map r more) (f : longer ≡ spans ++ map (shifted start) found) (begins : start ≡ length flat) where
  later_long : length later ≡ length flat + length more
  later_long = ap length e ∙ (length-append flat (map r more) ∙ ap (λ n. length flat + n) (length-map more r))

  new_within : (xs : List Span) → AllByRecursion (IsWithin more) xs → AllByRecursion (IsWithin later) (map (shifted start) xs)
  new_within [] h = tt
  new_within (x ∷ xs) h = (omega (arith, h.0, later_long, begins), new_within xs h.1)

  -- an old part, or one of the others
  old_or_other : (i : ℕ) (s : Span) → slice_get (spans ++ map (shifted start) found) i ≡ Some s
      → (slice_get spans i ≡ Some s) ⊎ ((t : Span) × (length spans ≤ i) × (slice_get found (i - length spans) ≡ Some t) × (shifted start t ≡ s))
  old_or_other i s at = elim (item_of spans (map (shifted start) found) i s at) [
    | inl h ↦ inl h.1
    | inr h ↦ let (t, here, same) = mapped_from (shifted start) found (i - length spans) s h.1 in inr (t, h.0, here, same)
  ]

  old_first : (i : ℕ) (s t : Span) → slice_get spans i ≡ Some s → IsBefore s (shifted start t)
  old_first i s t at = omega (arith, each_at (IsWithin flat) spans i s are.within at, begins)

  pub parts_appended : AreParts later longer
  parts_appended = subst (AreParts later) (sym f) (record {
    within = each-append (IsWithin later) spans (map (shifted start) found) (each_weaker (IsWithin flat) (IsWithin later) (λ span h. still_within flat (map r more) e span h) spans are.within)
        (new_within found also.within);
    apart = λ i j s t at there other. elim (old_or_other i s at) [
      | inl h ↦ elim (old_or_other j t there) [
        | inl k ↦ are.apart i j s t h k other
        | inr (u, l, k, same) ↦ inl (subst (IsBefore s) same (old_first i s u h))
      ]
      | inr (v, l, h, alike) ↦ elim (old_or_other j t there) [
        | inl k ↦ inr (subst (IsBefore t) alike (old_first j t v k))
        | inr (u, m, k, same) ↦ elim (also.apart (i - length spans) (j - length spans) v u h k (λ g. other (omega (arith, l, m, g)))) [
          | inl b ↦ inl (both_before v u s t alike same b)
          | inr b ↦ inr (both_before u v t s same alike b)
        ]
      ]
    ];
  })
    where
      both_before : (v u s t : Span) → shifted start v ≡ s → shifted start u ≡ t → IsBefore v u → IsBefore s t
      both_before v u s t alike same b = omega (arith, b, ap (λ (s : Span). s.first) alike, ap (λ (s : Span). s.count) alike, ap (λ (s : Span). s.first) same)

  part_raised : (t : Span) → part_of later (shifted start t) ≡ map r (part_of more t)
  part_raised t =
      (λ i. take t.count (drop (begins i + t.first) (e i)))
      ∙ (ap (take t.count) (drop-append-add flat (map r more) t.first ∙ drop-map r t.first more) ∙ take-map r t.count (drop t.first more))

  lists_raised : (xs : List Span) → map (part_of later) (map (shifted start) xs) ≡ map (map r) (lists_of more xs)
  lists_raised [] = refl
  lists_raised (x ∷ xs) = λ i. part_raised x i ∷ lists_raised xs i

  pub lists_appended : lists_of later longer ≡ lists_of flat spans ++ map (map r) (lists_of more found)
  lists_appended =
      ap (lists_of later) f ∙ (map-append (part_of later) spans (map (shifted start) found) ∙ (λ i. lists_kept flat (map r more) e spans are.within i ++ lists_raised found i))

-- each part begins within the flat list, which is short
pub each_begins : (flat : List ℕ) (start : ℕ) {most : ℕ} (spans : List Span) → AllByRecursion (IsWithin flat) spans → start + length flat < most
    → AllByRecursion (λ span. start + span.first < most) spans
each_begins flat start {most} spans within few =
    each_weaker (IsWithin flat) (λ (span : Span). start + span.first < most) (λ (span : Span) h. omega (arith, h, few)) spans within

pub get_behind : {X : Type 0} (xs ys : List X) (i : ℕ) → slice_get (xs ++ ys) (length xs + i) ≡ slice_get ys i
get_behind [] ys i = let none : 0 + i ≡ i = omega arith in ap (slice_get ys) none
get_behind (x ∷ xs) ys i = let more : length (x ∷ xs) + i ≡ suc (length xs + i) = omega arith in ap (slice_get (x ∷ (xs ++ ys))) more ∙ get_behind xs ys i
