-- Where a place of the document is once a subtree is taken out.
use Rattle.std.proofs.Common.{◌≡◌, ℕ, ◌+◌, ◌<◌, ◌≤◌, ◌⊎◌, length, slice_get, true, false, not, ◌-◌, ◌&&◌, List, Option, Some, None, refl, sym, ap, ◌∙◌, inl, inr, arith}
use Rattle.std.specs.Option.{option_map_or}
use Rattle.std.proofs.lemmas.Bool.{cases_lt}
use Rattle.scene_model.specs.Element.{Element}
use Rattle.scene_model.specs.Lookups.{parent_of, is_element, IsElement, children}
use Rattle.scene_model.specs.Ancestors.{position_of}
use Rattle.scene_model.specs.Valid.{IsValid}
use Rattle.scene_model.proofs.Found.{parent_of-element}
use Rattle.change_model.specs.Sound.{is_below, subtree_of, without, AreRuns}
use Rattle.change_model.specs.ChildLists.{spot}
use Rattle.change_model.proofs.Below.{below_itself, below_below}
use Rattle.change_model.proofs.Spots.{subtree_ends, subtree_holds, subtree_within}
use Rattle.change_model.proofs.Ends.{element_in, in_child}
use Rattle.change_model.proofs.PlaceOfIndex.{get_in}
use Rattle.change_model.proofs.Removed.{HasParent, is_element-without, IsValid-without, AreRuns-without, is_below-without}
use Rattle.change_model.proofs.Stays.{length-without, position_of-before, position_of-behind, outside, remains}

-- a place of the document, and where it is without the numbers from `at` on, of which there are `size`
abbrev pub IsLowered : ℕ → ℕ → ℕ → ℕ → Type 0
IsLowered at size t s = ((t ≤ at) × (s ≡ t)) ⊎ ((at + size ≤ t) × (s + size ≡ t))

module _ {doc : List Element} {n o : ℕ} (child : HasParent doc n o) (runs : AreRuns doc) where
  v : IsValid doc
  v = child.valid

  there : IsElement doc n
  there = parent_of-element doc n o child.parent

  abbrev rest : List Element
  rest = without doc n

  valid_rest : IsValid rest
  valid_rest = IsValid-without child

  runs_rest : AreRuns rest
  runs_rest = AreRuns-without child runs

  abbrev at : ℕ
  at = position_of doc n

  abbrev size : ℕ
  size = length (subtree_of doc n)

  -- an element that is left
  lowered : (w : ℕ) → is_below doc n w ≡ false → ((position_of doc w < at) × (position_of rest w ≡ position_of doc w)) ⊎ ((at + size ≤ position_of doc w) × (position_of rest w + size ≡ position_of doc w))
  lowered w out = elim (outside child runs w out) [
    | inl less ↦ inl (less, position_of-before child runs w less)
    | inr more ↦ inr (more, position_of-behind child runs w more)
  ]

  module _ (p : ℕ) (here : IsElement doc p) (out : is_below doc n p ≡ false) where
    abbrev end : ℕ
    end = position_of doc p + length (subtree_of doc p)

    abbrev end_left : ℕ
    end_left = position_of rest p + length (subtree_of rest p)

    stays : IsElement rest p
    stays = is_element-without child p ∙ (ap (λ b. not b && is_element doc p) out ∙ here)

    -- what is left at a place up to the end is below p, and what is below p is up to the end
    inside : (w : ℕ) → IsElement rest w → position_of rest p ≤ position_of rest w → position_of doc w < end → position_of rest w < end_left
    inside w left l m =
        let (apart, old) = remains child runs w left in
        let low : position_of doc p ≤ position_of doc w = elim (lowered p out) [
          | inl a ↦ (elim (lowered w apart) [ inl b ↦ omega (arith, a, b) | inr b ↦ omega (arith, a, b) ])
          | inr a ↦ (elim (lowered w apart) [ inl b ↦ omega (arith, a, b) | inr b ↦ omega (arith, a, b) ])
        ] in
        subtree_ends rest valid_rest runs_rest p stays w left (is_below-without child p w out apart ∙ subtree_holds doc v runs p here w low m)

    below : (w : ℕ) → IsElement rest w → position_of rest p ≤ position_of rest w → position_of rest w < end_left → position_of doc w < end
    below w left l m =
        let (apart, old) = remains child runs w left in
        subtree_ends doc v runs p here w old (sym (is_below-without child p w out apart) ∙ subtree_holds rest valid_rest runs_rest p stays w l m)

    -- the subtree of p ends before that of n, or not before its end
    end_outside : (end ≤ at) ⊎ (at + size ≤ end)
    end_outside = elim (cases_lt at end) [
      | inr near ↦ inl near
      | inl far ↦ (elim (cases_lt end (at + size)) [
        | inr past ↦ inr past
        | inl gap ↦ (
            let (w, is, k) = element_in doc v end (omega (arith, subtree_within doc v runs n there)) in
            elim (lowered p out) [
              | inl a ↦ (
                  let above : is_below doc p n ≡ true = subtree_holds doc v runs p here n (omega (arith, a)) far in
                  let under : is_below doc n w ≡ true = subtree_holds doc v runs n there w (omega (arith, k)) (omega (arith, k)) in
                  let m = subtree_ends doc v runs p here w is (below_below doc v p n w above under) in
                  absurd (omega (arith, k, m)))
              | inr a ↦ absurd (omega (arith, a))
            ])
      ])
    ]

    end_lowered : IsLowered at size end end_left
    end_lowered = elim end_outside [
      | inl near ↦ inl (near, both (λ gap. before near gap) (λ gap. past near gap))
      | inr far ↦ inr (far, both (λ gap. before' far gap) (λ gap. past' far gap))
    ]
      where
        both : {m k : ℕ} → (m < k → ⊥) → (k < m → ⊥) → m ≡ k
        both {m} {k} f g = elim (cases_lt m k) [ inl less ↦ absurd (f less) | inr more ↦ (elim (cases_lt k m) [ inl less ↦ absurd (g less) | inr same ↦ omega arith ]) ]

        low : position_of doc p < end
        low = subtree_ends doc v runs p here p here (below_itself doc p)

        low_left : position_of rest p < end_left
        low_left = subtree_ends rest valid_rest runs_rest p stays p stays (below_itself rest p)

        before : end ≤ at → end_left < end → ⊥
        before near gap =
            let (w, left, k) = element_in rest valid_rest end_left (omega (arith, length-without child runs, subtree_within doc v runs n there)) in
            let (apart, old) = remains child runs w left in
            let m : position_of doc w < end = elim (lowered w apart) [ inl b ↦ omega (arith, b, k) | inr b ↦ omega (arith, b, k) ] in
            let e = inside w left (omega (arith, k, low_left)) m in omega (arith, k, e)

        past : end ≤ at → end < end_left → ⊥
        past near gap =
            let (w, left, k) = element_in rest valid_rest end (omega (arith, subtree_within rest valid_rest runs_rest p stays)) in
            let (apart, old) = remains child runs w left in
            let l : position_of rest p ≤ end = elim (lowered p out) [ inl a ↦ omega (arith, a, low) | inr a ↦ omega (arith, a, low) ] in
            let e = below w left (omega (arith, k, l)) (omega (arith, k)) in
            elim (lowered w apart) [ inl b ↦ omega (arith, b, k, e) | inr b ↦ omega (arith, b, k, e) ]

        before' : at + size ≤ end → end_left + size < end → ⊥
        before' far gap =
            let (w, left, k) = element_in rest valid_rest end_left (omega (arith, length-without child runs, subtree_within doc v runs p here)) in
            let (apart, old) = remains child runs w left in
            let m : position_of doc w < end = elim (lowered w apart) [ inl b ↦ omega (arith, b, k) | inr b ↦ omega (arith, b, k) ] in
            let e = inside w left (omega (arith, k, low_left)) m in omega (arith, k, e)

        past' : at + size ≤ end → end < end_left + size → ⊥
        past' far gap =
            let (w, left, k) = element_in rest valid_rest (end - size) (omega (arith, far, subtree_within rest valid_rest runs_rest p stays)) in
            let (apart, old) = remains child runs w left in
            let l : position_of rest p ≤ end - size = elim (lowered p out) [ inl a ↦ omega (arith, a, far) | inr a ↦ omega (arith, a, low) ] in
            let e = below w left (omega (arith, k, l)) (omega (arith, k, far, gap)) in
            elim (lowered w apart) [ inl b ↦ omega (arith, b, k, far) | inr b ↦ omega (arith, b, k, e) ]

    -- the place of a child of p, or of the end, as it is in the document
    abbrev pub spot_before : ℕ → ℕ
    spot_before index = option_map_or (position_of doc) (slice_get (children rest p) index) end

    pub spot-without : (index : ℕ) → IsLowered at size (spot_before index) (spot rest p index)
    spot-without index = by (slice_get (children rest p) index) (λ c e. c_left c e)
      where
        c_left : (c : ℕ) → slice_get (children rest p) index ≡ Some c → is_below doc n c ≡ false
        c_left c e = (remains child runs c (parent_of-element rest c p (in_child rest valid_rest p c (get_in (children rest p) index c e)))).0

        by : (a : Option ℕ) → ((c : ℕ) → a ≡ Some c → is_below doc n c ≡ false) → IsLowered at size (option_map_or (position_of doc) a end) (option_map_or (position_of rest) a end_left)
        by None h = end_lowered
        by (Some c) h = elim (lowered c (h c refl)) [ inl b ↦ inl (omega (arith, b), b.1) | inr b ↦ inr b ]
