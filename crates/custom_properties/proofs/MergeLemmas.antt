-- Two sorted lists of entries as one.
use Rattle.std.proofs.Common.{◌≡◌, List, [], ◌∷◌, ◌++◌, Bool, true, false, cond, ◌&&◌, Option, Some, None, Ordering, Less, Equal, Greater, ◌⊎◌, inl, inr, ⊎_elim, refl, sym, ap, subst, ◌∙◌}
use lib.Dec.{T}
use Rattle.std.specs.Option.{option_or}
use Rattle.std.specs.Ordering.{eq_by_cmp, is_lt, is_eq, ordering_reverse}
use Rattle.std.specs.Cmp.Lexicographic.{nat_list_cmp_total}
use Rattle.std.specs.FinMap as finmap
use Rattle.std.specs.FinMap.Entries.{below_all, by_order}
use Rattle.std.proofs.lemmas.Cmp.{tied_itself}
use Rattle.std.proofs.lemmas.Option.{none-some}
use Rattle.base_model.specs.Text.{Characters}
use Rattle.custom_model.specs.Value.{CustomValue}
use Rattle.custom_properties.specs.Merged.{Pair, lesser, beyond, put, merged}
use Rattle.custom_properties.specs.Entry.{Entry}
use Rattle.css_tokens.proofs.PlaceLemmas.{order, less, first_part, second_part}

pub both : (a b : Bool) → T a → T b → T (a && b)
both true b p q = q
both false b p q = absurd p

at_less : (o : Ordering) → o ≡ Less → T (is_lt o)
at_less o e = subst (λ p. T (is_lt p)) (sym e) tt

module _ {X : Type 0} where
  -- a name that is before one that is before others
  below_trans : (x y : Characters) (es : List (Characters × X)) → order x y ≡ Less → T (below_all order y es) → T (below_all order x es)
  below_trans x y [] l h = tt
  below_trans x y (e ∷ es) l h =
      both _ _ (at_less _ (nat_list_cmp_total.trans x y e.0 l (less _ (first_part _ _ h)))) (below_trans x y es l (second_part _ _ h))

  below-append : (x : Characters) (es fs : List (Characters × X)) → T (below_all order x es) → T (below_all order x fs) → T (below_all order x (es ++ fs))
  below-append x [] fs h k = k
  below-append x (e ∷ es) fs h k = both _ _ (first_part _ _ h) (below-append x es fs (second_part _ _ h) k)

  -- each of these names is before all others
  EachBelow : List (Characters × X) → List (Characters × X) → Type 0
  EachBelow [] fs = Unit {0}
  EachBelow (e ∷ es) fs = T (below_all order e.0 fs) × EachBelow es fs

  sorted-append : (es fs : List (Characters × X)) → T (finmap.is_sorted order es) → T (finmap.is_sorted order fs) → EachBelow es fs → T (finmap.is_sorted order (es ++ fs))
  unfolding EachBelow
  sorted-append [] fs h k each = k
  sorted-append (e ∷ es) fs h k each =
      both _ _ (below-append e.0 es fs (first_part _ _ h) each.0) (sorted-append es fs (second_part _ _ h) k each.1)

  -- a name before all is not found
  unfound : (q : Characters) (es : List (Characters × X)) → T (below_all order q es) → finmap.find order q es ≡ None
  unfound q [] h = refl
  unfound q (e ∷ es) h =
      ap (λ o. cond (is_eq o) (Some e.1) (finmap.find order q es)) (less _ (first_part _ _ h)) ∙ unfound q es (second_part _ _ h)

  find-append : (q : Characters) (es fs : List (Characters × X)) → finmap.find order q (es ++ fs) ≡ option_or (finmap.find order q es) (finmap.find order q fs)
  find-append q [] fs = refl
  find-append q (e ∷ es) fs = by (eq_by_cmp order q e.0) (find-append q es fs)
    where
      by : (b : Bool) → finmap.find order q (es ++ fs) ≡ option_or (finmap.find order q es) (finmap.find order q fs) → cond b (Some e.1) (finmap.find order q (es ++ fs)) ≡ option_or (cond b (Some e.1) (finmap.find order q es)) (finmap.find order q fs)
      by true h = refl
      by false h = h

turned : (x y : Characters) (o : Ordering) → order x y ≡ o → order y x ≡ ordering_reverse o
turned x y o e = nat_list_cmp_total.antisymm y x ∙ ap ordering_reverse e

same_name : (x y : Characters) → order x y ≡ Equal → x ≡ y
same_name x y e = finmap.slice_cmp-IsAntisymmetric finmap.nat_cmp-IsAntisymmetric x y e

module _ (p : Characters) where
  -- the parts before and behind a name

  below-lesser : (x : Characters) (hs : List Pair) → T (below_all order x hs) → T (below_all order x (lesser p hs))
  below-lesser x [] h = tt
  below-lesser x (e ∷ hs) h = by (order e.0 p) (below-lesser x hs (second_part _ _ h))
    where
      by : (o : Ordering) → T (below_all order x (lesser p hs)) → T (below_all order x (by_order o (e ∷ lesser p hs) [] []))
      by Less k = both _ _ (first_part _ _ h) k
      by Equal k = tt
      by Greater k = tt

  below-beyond : (x : Characters) (hs : List Pair) → T (below_all order x hs) → T (below_all order x (beyond p hs))
  below-beyond x [] h = tt
  below-beyond x (e ∷ hs) h = by (order e.0 p) (below-beyond x hs (second_part _ _ h))
    where
      by : (o : Ordering) → T (below_all order x (beyond p hs)) → T (below_all order x (by_order o (beyond p hs) hs (e ∷ hs)))
      by Less k = k
      by Equal k = second_part _ _ h
      by Greater k = h

  sorted-lesser : (hs : List Pair) → T (finmap.is_sorted order hs) → T (finmap.is_sorted order (lesser p hs))
  sorted-lesser [] h = tt
  sorted-lesser (e ∷ hs) h = by (order e.0 p) (sorted-lesser hs (second_part _ _ h))
    where
      by : (o : Ordering) → T (finmap.is_sorted order (lesser p hs)) → T (finmap.is_sorted order (by_order o (e ∷ lesser p hs) [] []))
      by Less k = both _ _ (below-lesser e.0 hs (first_part _ _ h)) k
      by Equal k = tt
      by Greater k = tt

  sorted-beyond : (hs : List Pair) → T (finmap.is_sorted order hs) → T (finmap.is_sorted order (beyond p hs))
  sorted-beyond [] h = tt
  sorted-beyond (e ∷ hs) h = by (order e.0 p) (sorted-beyond hs (second_part _ _ h))
    where
      by : (o : Ordering) → T (finmap.is_sorted order (beyond p hs)) → T (finmap.is_sorted order (by_order o (beyond p hs) hs (e ∷ hs)))
      by Less k = k
      by Equal k = second_part _ _ h
      by Greater k = h

  tied_below : (x : Characters) (hs : List Pair) → order x p ≡ Equal → T (below_all order x hs) → T (below_all order p hs)
  tied_below x [] e h = tt
  tied_below x (f ∷ hs) e h =
      both _ _ (subst (λ o. T (is_lt o)) (nat_list_cmp_total.congr x p f.0 e) (first_part _ _ h)) (tied_below x hs e (second_part _ _ h))

  above-beyond : (hs : List Pair) → T (finmap.is_sorted order hs) → T (below_all order p (beyond p hs))
  above-beyond [] h = tt
  above-beyond (e ∷ hs) h = by (order e.0 p) refl (above-beyond hs (second_part _ _ h))
    where
      by : (o : Ordering) → order e.0 p ≡ o → T (below_all order p (beyond p hs)) → T (below_all order p (by_order o (beyond p hs) hs (e ∷ hs)))
      by Less is k = k
      by Equal is k = tied_below e.0 hs is (first_part _ _ h)
      by Greater is k =
          let after : order p e.0 ≡ Less = turned e.0 p Greater is in
          both _ _ (at_less _ after) (below_trans p e.0 hs after (first_part _ _ h))

  -- those before it are before all that it is before, and before itself
  each_lesser : (hs : List Pair) (v : Option CustomValue) (fs : List Pair) → T (below_all order p fs) → EachBelow (lesser p hs) (put p v ++ fs)
  unfolding EachBelow
  each_lesser [] v fs k = tt
  each_lesser (e ∷ hs) v fs k = by (order e.0 p) refl (each_lesser hs v fs k)
    where
      before : (w : Option CustomValue) → order e.0 p ≡ Less → T (below_all order e.0 (put p w ++ fs))
      before None is = below_trans e.0 p fs is k
      before (Some x) is = both _ _ (at_less _ is) (below_trans e.0 p fs is k)

      by : (o : Ordering) → order e.0 p ≡ o → EachBelow (lesser p hs) (put p v ++ fs) → EachBelow (by_order o (e ∷ lesser p hs) [] []) (put p v ++ fs)
      by Less is rest = (before v is, rest)
      by Equal is rest = tt
      by Greater is rest = tt

  sorted-put : (v : Option CustomValue) (fs : List Pair) → T (below_all order p fs) → T (finmap.is_sorted order fs) → T (finmap.is_sorted order (put p v ++ fs))
  sorted-put None fs k h = h
  sorted-put (Some x) fs k h = both _ _ k h

  -- another name is found before or behind it
  found_or : {X : Type 0} (b : Bool) (x all front back : Option X) → all ≡ option_or front back → (is_x : (y : Option X) → option_or x y ≡ x) → cond b x all ≡ option_or (cond b x front) back
  found_or true x all front back h is_x = sym (is_x back)
  found_or false x all front back h is_x = h

  split_found : (q : Characters) (hs : List Pair) → eq_by_cmp order q p ≡ false → finmap.find order q hs ≡ option_or (finmap.find order q (lesser p hs)) (finmap.find order q (beyond p hs))
  split_found q [] apart = refl
  split_found q (e ∷ hs) apart = by (order e.0 p) refl (split_found q hs apart)
    where
      by : (o : Ordering) → order e.0 p ≡ o → finmap.find order q hs ≡ option_or (finmap.find order q (lesser p hs)) (finmap.find order q (beyond p hs)) → finmap.find order q (e ∷ hs) ≡ option_or (finmap.find order q (by_order o (e ∷ lesser p hs) [] [])) (finmap.find order q (by_order o (beyond p hs) hs (e ∷ hs)))
      by Less is rest = found_or (eq_by_cmp order q e.0) (Some e.1) (finmap.find order q hs) (finmap.find order q (lesser p hs)) (finmap.find order q (beyond p hs)) rest (λ y. refl)
      by Equal is rest = ap (λ b. cond b (Some e.1) (finmap.find order q hs)) (ap (eq_by_cmp order q) (same_name e.0 p is) ∙ apart)
      by Greater is rest = refl

  -- none of those before it is it, nor one behind it
  no_lesser : (q : Characters) (hs : List Pair) → (order p q ≡ Less) ⊎ (order p q ≡ Equal) → finmap.find order q (lesser p hs) ≡ None
  no_lesser q [] above = refl
  no_lesser q (e ∷ hs) above = by (order e.0 p) refl (no_lesser q hs above)
    where
      before : order e.0 p ≡ Less → order e.0 q ≡ Less
      before is = ⊎_elim (λ l. nat_list_cmp_total.trans e.0 p q is l) (λ s. ap (order e.0) (sym (same_name p q s)) ∙ is) above

      by : (o : Ordering) → order e.0 p ≡ o → finmap.find order q (lesser p hs) ≡ None → finmap.find order q (by_order o (e ∷ lesser p hs) [] []) ≡ None
      by Less is rest = ap (λ r. cond (is_eq r) (Some e.1) (finmap.find order q (lesser p hs))) (turned e.0 q Less (before is)) ∙ rest
      by Equal is rest = refl
      by Greater is rest = refl

-- what is declared stands before what is inherited
abbrev pub over : Option (Option CustomValue) → Option CustomValue → Option CustomValue
over None other = other
over (Some value) other = value

below-merged : (x : Characters) (ds : List Entry) (hs : List Pair) → T (below_all order x ds) → T (below_all order x hs) → T (below_all order x (merged ds hs))
below-merged x [] hs h k = k
below-merged x (d ∷ ds) hs h k =
    below-append x (lesser d.0 hs) (put d.0 d.1 ++ merged ds (beyond d.0 hs)) (below-lesser d.0 x hs k)
    (below-append x (put d.0 d.1) (merged ds (beyond d.0 hs)) (by d.1) (below-merged x ds (beyond d.0 hs) (second_part _ _ h) (below-beyond d.0 x hs k)))
  where
    by : (v : Option CustomValue) → T (below_all order x (put d.0 v))
    by None = tt
    by (Some v) = both (is_lt (order x d.0)) true (first_part (is_lt (order x d.0)) (below_all order x ds) h) tt

pub sorted-merged : (ds : List Entry) (hs : List Pair) → T (finmap.is_sorted order ds) → T (finmap.is_sorted order hs) → T (finmap.is_sorted order (merged ds hs))
sorted-merged [] hs h k = k
sorted-merged (d ∷ ds) hs h k =
    let rest = merged ds (beyond d.0 hs) in
    let below = below-merged d.0 ds (beyond d.0 hs) (first_part _ _ h) (above-beyond d.0 hs k) in
    sorted-append (lesser d.0 hs) (put d.0 d.1 ++ rest) (sorted-lesser d.0 hs k)
    (sorted-put d.0 d.1 rest below (sorted-merged ds (beyond d.0 hs) (second_part _ _ h) (sorted-beyond d.0 hs k)))
    (each_lesser d.0 hs d.1 rest below)

-- at the name itself
here : (v : Option CustomValue) (name : Characters) (rest : List Pair) → finmap.find order name rest ≡ None → finmap.find order name (put name v ++ rest) ≡ v
here None name rest h = h
here (Some x) name rest h = ap (λ o. cond (is_eq o) (Some x) (finmap.find order name rest)) (tied_itself nat_list_cmp_total name)

elsewhere : (v : Option CustomValue) (name q : Characters) (rest : List Pair) → eq_by_cmp order q name ≡ false → finmap.find order q (put name v ++ rest) ≡ finmap.find order q rest
elsewhere None name q rest apart = refl
elsewhere (Some x) name q rest apart = ap (λ b. cond b (Some x) (finmap.find order q rest)) apart

over_or : (o : Option (Option CustomValue)) (front back : Option CustomValue) → (o ≡ None) ⊎ (front ≡ None) → option_or front (over o back) ≡ over o (option_or front back)
over_or None front back h = refl
over_or (Some v) front back h = ⊎_elim (λ e. absurd (none-some v (sym e))) (λ e. ap (λ f. option_or f v) e) h

pub find-merged : (q : Characters) (ds : List Entry) (hs : List Pair) → T (finmap.is_sorted order ds) → T (finmap.is_sorted order hs) → finmap.find order q (merged ds hs) ≡ over (finmap.find order q ds) (finmap.find order q hs)
find-merged q [] hs h k = refl
find-merged q (d ∷ ds) hs h k =
    find-append q (lesser d.0 hs) (put d.0 d.1 ++ merged ds (beyond d.0 hs))
    ∙ by (order q d.0) refl (find-merged q ds (beyond d.0 hs) (second_part _ _ h) (sorted-beyond d.0 hs k))
  where
    rest : List Pair
    rest = merged ds (beyond d.0 hs)

    other : eq_by_cmp order q d.0 ≡ false → (finmap.find order q ds ≡ None) ⊎ (finmap.find order q (lesser d.0 hs) ≡ None) → finmap.find order q rest ≡ over (finmap.find order q ds) (finmap.find order q (beyond d.0 hs)) → option_or (finmap.find order q (lesser d.0 hs)) (finmap.find order q (put d.0 d.1 ++ rest)) ≡ over (finmap.find order q ds) (finmap.find order q hs)
    other apart none again =
        ap (option_or (finmap.find order q (lesser d.0 hs))) (elsewhere d.1 d.0 q rest apart ∙ again)
        ∙ (over_or (finmap.find order q ds) (finmap.find order q (lesser d.0 hs)) (finmap.find order q (beyond d.0 hs)) none
        ∙ ap (over (finmap.find order q ds)) (sym (split_found d.0 q hs apart)))

    by : (o : Ordering) → order q d.0 ≡ o → finmap.find order q rest ≡ over (finmap.find order q ds) (finmap.find order q (beyond d.0 hs)) → option_or (finmap.find order q (lesser d.0 hs)) (finmap.find order q (put d.0 d.1 ++ rest)) ≡ over (cond (is_eq o) (Some d.1) (finmap.find order q ds)) (finmap.find order q hs)
    by Less is again = other (ap is_eq is) (inl (unfound q ds (below_trans q d.0 ds is (first_part _ _ h)))) again
    by Greater is again = other (ap is_eq is) (inr (no_lesser d.0 q hs (inl (turned q d.0 Greater is)))) again
    by Equal is again =
        let same : q ≡ d.0 = same_name q d.0 is in
        ap (λ f. option_or f (finmap.find order q (put d.0 d.1 ++ rest))) (no_lesser d.0 q hs (inr (turned q d.0 Equal is)))
        ∙ (ap (λ n. finmap.find order n (put d.0 d.1 ++ rest)) same
        ∙ here d.1 d.0 rest (unfound d.0 rest (below-merged d.0 ds (beyond d.0 hs) (first_part _ _ h) (above-beyond d.0 hs k))))
