-- The winner as declarations come one by one.
use Rattle.std.proofs.Common.{◌≡◌, Bool, true, false, ◌&&◌, cond, if◌then◌else◌, List, [], ◌∷◌, ◌++◌, Option, Some, None, fold, find, filter, refl, sym, ap, ◌∙◌, ◌⊎◌, inl, inr, ⊎_elim, append_assoc}
use Rattle.std.proofs.lemmas.Bool.{true≢false, cond-true, cond-false, cases_Bool, and_parts, and_from, and_right, false_from_ne_true}
use Rattle.std.proofs.lemmas.Cmp.{upto, tied_itself}
use Rattle.std.proofs.lemmas.Grind.{fold-append}
use Rattle.std.proofs.lemmas.List.{append-nil}
use Rattle.std.proofs.lemmas.List.Elements.{filter-append}
use Rattle.std.proofs.lemmas.List.Folds.{find-append, list_all-append}
use Rattle.std.proofs.lemmas.Option.{none-some, same_Some}
use Rattle.std.specs.Cmp.{IsTotalOrder}
use Rattle.std.specs.declared.cmp.Ordering.{Ordering}
use Rattle.std.specs.declared.cmp.Ordering.TheVariants.{Less, Equal, Greater}
use Rattle.std.specs.List.{list_all}
use Rattle.std.specs.Option.{option_or}
use Rattle.std.specs.Ordering.{ordering_reverse, is_lt, is_le, is_gt}
use Rattle.std.proofs.Math.Bool.{and-true}
use Rattle.cascade_model.specs.Key.{Matched, key_cmp}
use Rattle.cascade_model.specs.Winner.{greatest_of, winner}
use Rattle.cascade_model.proofs.KeyOrder.{key_cmp-total}
use Rattle.base_model.proofs.Lists.{find_passes}

and_implied : (a b : Bool) → (a ≡ true → b ≡ true) → (a && b) ≡ a
and_implied true b h = h refl
and_implied false b h = refl

pub not_gt : (o : Ordering) → is_le o ≡ true → is_gt o ≡ false
not_gt Less h = refl
not_gt Equal h = refl
not_gt Greater h = sym h

pub le_from_not_gt : (o : Ordering) → is_gt o ≡ false → is_le o ≡ true
le_from_not_gt Less h = refl
le_from_not_gt Equal h = refl
le_from_not_gt Greater h = sym h

le_back : (o : Ordering) → is_lt o ≡ false → is_le (ordering_reverse o) ≡ true
le_back Less h = sym h
le_back Equal h = refl
le_back Greater h = refl

le_from_lt : (o : Ordering) → is_lt o ≡ true → is_le o ≡ true
le_from_lt Less h = refl
le_from_lt Equal h = refl
le_from_lt Greater h = h

not_back : (o : Ordering) → is_lt o ≡ true → is_le (ordering_reverse o) ≡ false
not_back Less h = refl
not_back Equal h = sym h
not_back Greater h = sym h

-- the first of a list is found, or what is found in the rest
pub first_or_rest : {K : Type 0} (b : Bool) (y x : K) (rest : Option K) → cond b (Some y) rest ≡ Some x → ((b ≡ true) × (y ≡ x)) ⊎ (rest ≡ Some x)
first_or_rest true y x rest h = inl (refl, same_Some y x h)
first_or_rest false y x rest h = inr h

module _ {K : Type 0} where
  -- what all pass, what is found passes too
  pub found_within : (p q : K → Bool) (xs : List K) (x : K) → find p xs ≡ Some x → list_all q xs ≡ true → q x ≡ true
  found_within p q [] x h all = absurd (none-some x h)
  found_within p q (y ∷ ys) x h all =
      let parts = and_parts (q y) (list_all q ys) all in
      ⊎_elim (λ (e : (p y ≡ true) × (y ≡ x)). ap q (sym e.1) ∙ parts.0) (λ (e : find p ys ≡ Some x). found_within p q ys x e parts.1) (first_or_rest (p y) y x (find p ys) h)

  -- where each one fails, none is found
  none_found : (p q : K → Bool) → ((x : K) → p x ≡ true → q x ≡ false) → (xs : List K) → list_all p xs ≡ true → find q xs ≡ None
  none_found p q fails [] all = refl
  none_found p q fails (y ∷ ys) all =
      let parts = and_parts (p y) (list_all p ys) all in
      ap (λ b. cond b (Some y) (find q ys)) (fails y parts.0) ∙ none_found p q fails ys parts.1

  -- tests that agree find the same
  pub found_alike : (p q : K → Bool) → ((x : K) → p x ≡ q x) → (xs : List K) → find p xs ≡ find q xs
  found_alike p q alike [] = refl
  found_alike p q alike (y ∷ ys) =
      ap (λ b. cond b (Some y) (find p ys)) (alike y) ∙ ap (cond (q y) (Some y)) (found_alike p q alike ys)

  pub all_through : (p q : K → Bool) → ((x : K) → p x ≡ true → q x ≡ true) → (xs : List K) → list_all p xs ≡ true → list_all q xs ≡ true
  all_through p q through [] all = refl
  all_through p q through (y ∷ ys) all =
      let parts = and_parts (p y) (list_all p ys) all in
      and_from (q y) (list_all q ys) (through y parts.0) (all_through p q through ys parts.1)

-- In a total order of anything: the first of those that none is greater than.
module _ {K : Type 0} (R : K → K → Ordering) (o : IsTotalOrder R) where
  abbrev pub is_top : List K → K → Bool
  is_top ds d = list_all (λ other. is_le (R other d)) ds

  abbrev pub top_of : List K → Option K
  top_of ds = find (is_top ds) ds

  -- of two the greater, and of equal ones the first
  abbrev greater_of : K → K → K
  greater_of w d = if is_lt (R w d) then d else w

  abbrev with_one : Option K → K → Option K
  with_one None d = Some d
  with_one (Some w) d = Some (greater_of w d)

  pub at_most-trans : (x y z : K) → is_le (R x y) ≡ true → is_le (R y z) ≡ true → is_le (R x z) ≡ true
  at_most-trans x y z h k =
      le_from_not_gt (R x z) (upto o x y z (not_gt (R x y) h) (not_gt (R y z) k))

  is_top-push : (ds : List K) (d x : K) → is_top (ds ++ d ∷ []) x ≡ (is_top ds x && is_le (R d x))
  is_top-push ds d x =
      list_all-append (λ other. is_le (R other x)) ds (d ∷ []) ∙ ap (λ b. is_top ds x && b) (and-true (is_le (R d x)))

  -- a greater one takes the place of the first greatest
  push_greater : (ds : List K) (w d : K) → top_of ds ≡ Some w → is_lt (R w d) ≡ true → top_of (ds ++ d ∷ []) ≡ Some d
  push_greater ds w d found lt =
      let top : is_top ds w ≡ true = find_passes (is_top ds) ds w found in
      let below_d : (x : K) → is_le (R x w) ≡ true → is_le (R x d) ≡ true = λ x h. at_most-trans x w d h (le_from_lt (R w d) lt) in
      let not_above : is_le (R d w) ≡ false = ap is_le (o.antisymm d w) ∙ not_back (R w d) lt in
      let fails : (x : K) → is_le (R x w) ≡ true → is_top (ds ++ d ∷ []) x ≡ false = λ x h. is_top-push ds d x ∙ and_right (is_top ds x) (is_le (R d x)) (false_from_ne_true _ (λ e. true≢false (sym (at_most-trans d x w e h) ∙ not_above))) in
      let none : find (is_top (ds ++ d ∷ [])) ds ≡ None = none_found (λ x. is_le (R x w)) (is_top (ds ++ d ∷ [])) fails ds top in
      let last : is_top (ds ++ d ∷ []) d ≡ true = is_top-push ds d d ∙ and_from (is_top ds d) (is_le (R d d)) (all_through (λ x. is_le (R x w)) (λ x. is_le (R x d)) below_d ds top) (ap is_le (tied_itself o d)) in
      find-append (is_top (ds ++ d ∷ [])) ds (d ∷ [])
      ∙ (ap (λ first. option_or first (find (is_top (ds ++ d ∷ [])) (d ∷ []))) none ∙ ap (λ b. cond b (Some d) None) last)

  -- the first greatest stays before one that is not greater
  push_other : (ds : List K) (w d : K) → top_of ds ≡ Some w → is_lt (R w d) ≡ false → top_of (ds ++ d ∷ []) ≡ Some w
  push_other ds w d found not_lt =
      let at_most_w : is_le (R d w) ≡ true = ap is_le (o.antisymm d w) ∙ le_back (R w d) not_lt in
      let within : (x : K) → is_top ds x ≡ true → is_le (R d x) ≡ true = λ x top. at_most-trans d w x at_most_w (found_within (is_top ds) (λ other. is_le (R other x)) ds w found top) in
      let alike : (x : K) → is_top (ds ++ d ∷ []) x ≡ is_top ds x = λ x. is_top-push ds d x ∙ and_implied (is_top ds x) (is_le (R d x)) (within x) in
      find-append (is_top (ds ++ d ∷ [])) ds (d ∷ [])
      ∙ ap (λ first. option_or first (find (is_top (ds ++ d ∷ [])) (d ∷ []))) (found_alike (is_top (ds ++ d ∷ [])) (is_top ds) alike ds ∙ found)

  push_some : (ds : List K) (w d : K) → top_of ds ≡ Some w → top_of (ds ++ d ∷ []) ≡ Some (greater_of w d)
  push_some ds w d found =
      ⊎_elim (λ (lt : is_lt (R w d) ≡ true). push_greater ds w d found lt ∙ ap (λ b. Some (cond b d w)) (sym lt)) (λ (lt : is_lt (R w d) ≡ false). push_other ds w d found lt ∙ ap (λ b. Some (cond b d w)) (sym lt)) (cases_Bool (is_lt (R w d)))

  onwards : (rest ds : List K) (w : K) → top_of ds ≡ Some w → top_of (ds ++ rest) ≡ fold with_one (Some w) rest
  onwards [] ds w found = ap top_of (append-nil ds) ∙ found
  onwards (d ∷ rest) ds w found =
      ap top_of (sym (append_assoc ds (d ∷ []) rest)) ∙ onwards rest (ds ++ d ∷ []) (greater_of w d) (push_some ds w d found)

  top_of-single : (x : K) → top_of (x ∷ []) ≡ Some x
  top_of-single x = ap (λ b. cond (b && true) (Some x) None) (ap is_le (tied_itself o x))

  top_of-fold : (ds : List K) → top_of ds ≡ fold with_one None ds
  top_of-fold [] = refl
  top_of-fold (x ∷ xs) = onwards xs (x ∷ []) x (top_of-single x)

  top_of-push : (ds : List K) (d : K) → top_of (ds ++ d ∷ []) ≡ with_one (top_of ds) d
  top_of-push ds d =
      top_of-fold (ds ++ d ∷ [])
      ∙ (fold-append with_one None ds (d ∷ []) ∙ ap (λ best. with_one best d) (sym (top_of-fold ds)))

-- of the winner so far, if there is one, and one more declaration
abbrev better : Option Matched → Matched → Option Matched
better None d = Some d
better (Some w) d = Some (if is_lt (key_cmp w d) then d else w)

better_alike : (best : Option Matched) (d : Matched) → with_one key_cmp key_cmp-total best d ≡ better best d
better_alike None d = refl
better_alike (Some w) d = refl

greatest_of-push : (ds : List Matched) (d : Matched) → greatest_of (ds ++ d ∷ []) ≡ better (greatest_of ds) d
greatest_of-push ds d =
    top_of-push key_cmp key_cmp-total ds d ∙ better_alike (greatest_of ds) d

greatest_of-more : (ds : List Matched) (d : Matched) (b : Bool) → greatest_of (ds ++ cond b (d ∷ []) []) ≡ cond b (better (greatest_of ds) d) (greatest_of ds)
greatest_of-more ds d true = greatest_of-push ds d
greatest_of-more ds d false = ap greatest_of (append-nil ds)

winner-push : (passes : Matched → Bool) (ds : List Matched) (d : Matched) → winner passes (ds ++ d ∷ []) ≡ (if passes d then better (winner passes ds) d else winner passes ds)
unfolding winner
winner-push passes ds d =
    ap greatest_of (filter-append passes ds (d ∷ []))
    ∙ greatest_of-more (filter passes ds) d (passes d)

-- a declaration that does not pass changes nothing
pub winner_other : (passes : Matched → Bool) (ds : List Matched) (d : Matched) → passes d ≡ false → winner passes (ds ++ d ∷ []) ≡ winner passes ds
winner_other passes ds d other = winner-push passes ds d ∙ cond-false (passes d) _ _ other

winner_better : (passes : Matched → Bool) (ds : List Matched) (d : Matched) → passes d ≡ true → winner passes (ds ++ d ∷ []) ≡ better (winner passes ds) d
winner_better passes ds d h = winner-push passes ds d ∙ cond-true (passes d) _ _ h

-- the first declaration that passes wins
pub winner_first : (passes : Matched → Bool) (ds : List Matched) (d : Matched) → passes d ≡ true → winner passes ds ≡ None → winner passes (ds ++ d ∷ []) ≡ Some d
winner_first passes ds d h none = winner_better passes ds d h ∙ ap (λ best. better best d) none

-- and then each one that is greater
pub winner_greater : (passes : Matched → Bool) (ds : List Matched) (d w : Matched) → passes d ≡ true → winner passes ds ≡ Some w → is_lt (key_cmp w d) ≡ true → winner passes (ds ++ d ∷ []) ≡ Some d
winner_greater passes ds d w h wins lt =
    winner_better passes ds d h ∙ (ap (λ best. better best d) wins ∙ ap (λ b. Some (cond b d w)) lt)

-- and not one that is not
pub winner_stays : (passes : Matched → Bool) (ds : List Matched) (d w : Matched) → passes d ≡ true → winner passes ds ≡ Some w → is_lt (key_cmp w d) ≡ false → winner passes (ds ++ d ∷ []) ≡ Some w
winner_stays passes ds d w h wins not_lt =
    winner_better passes ds d h ∙ (ap (λ best. better best d) wins ∙ ap (λ b. Some (cond b d w)) not_lt)
