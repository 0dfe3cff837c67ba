-- The walk in tree order ends with the style that each element has now, and cascades those that are cascaded, and no
-- other.
use Rattle.std.proofs.Common.{◌≡◌, ℕ, ◌+◌, ◌<◌, ◌==◌, nat_eq, List, [], ◌∷◌, ◌++◌, map, filter, length, Bool, true, false, cond, not, ◌||◌, if◌then◌else◌, Option, Some, None, find, option_map, unwrap_or, refl, sym, ap, subst, ◌∙◌, arith}
use Rattle.std.specs.List.{IsDistinct}
use Rattle.std.specs.Option.{option_map_or, option_or}
use Rattle.std.proofs.lemmas.Bool.{or_parts, eqb-true}
use Rattle.std.proofs.lemmas.List.{append_assoc, length-map}
use Rattle.std.proofs.lemmas.List.Folds.{list_any-append}
use Rattle.scene_model.specs.Element.{Element}
use Rattle.scene_model.specs.Lookups.{numbers, IsElement, parent_of}
use Rattle.scene_model.specs.Ancestors.{position_of}
use Rattle.scene_model.specs.Valid.{IsValid}
use Rattle.scene_model.specs.Scene.{elements_of}
use Rattle.scene_model.proofs.Lists.{filter-map, filter-filter}
use Rattle.scene_model.proofs.Numbers.{index_in, same_number}
use Rattle.scene_model.proofs.Found.{is_element-numbers, position_of-numbers}
use Rattle.value_model.specs.Style.{Style, initial_style, initial_size, font_size_of}
use Rattle.sheet_model.specs.Sources.{sources_of}
use Rattle.cascade_model.specs.Cascade.{cascaded}
use Rattle.cascade_model.specs.StyleOf.{root_of, root_size_at, root_size_of, styled_over, parent_style}
use Rattle.cascade_model.proofs.StyleAlong.{style_of-over, style_of-root, root_size_of-root, parent_of-root}
use Rattle.session_model.specs.Standing.{Standing, matching_in, style_in, root_size_in, listed_at, kept_at, is_matched, is_style, has_size, parent_differs, root_size_differs, is_cascaded, matched_count, cascaded_count}
use Rattle.scene_model.specs.Numbers.{is_in}
use Rattle.session_model.specs.StandingInvariant.{AllKeep}
use Rattle.session_model.specs.Walk.{first_style, first_size, new_at, new_parent, cascades, new_style, walked_from, walked, Styled, with_result, results_from, results, result_at, committed}
use Rattle.session_model.proofs.ListedLemmas.{among-numbers, listed-own, listed-other}
use Rattle.session_model.proofs.KeepsLemmas.{has_size-own, kept-not_cascaded, root_element}
use Rattle.session_model.proofs.OpenLemmas.{kept_root, root-cascaded, differs_by}
use Rattle.scene_model.proofs.Any.{in_middle}
use Rattle.change_model.proofs.Distinct.{IsDistinct-filter}

-- what comes before an element in a list is among those before it

steps : (p x y : ℕ) (ys before : List ℕ) (b c : Bool) → cond (not b) (1 + index_in ys p) 0 < cond (not c) (1 + index_in ys x) 0 → (index_in ys p < index_in ys x → is_in p before ≡ true) → (b || is_in p before) ≡ true
steps p x y ys before true c h r = refl
steps p x y ys before false true h r = absurd (omega (arith, h))
steps p x y ys before false false h r = r (omega (arith, h))

no_less : (n : ℕ) (b : Bool) → b ≡ true → (m : ℕ) → n < cond (not b) m 0 → ⊥
no_less n b h m l = let none : n < 0 = rw h at l in omega (arith, none)

among_before : (p x : ℕ) (before after : List ℕ) → index_in (before ++ x ∷ after) p < index_in (before ++ x ∷ after) x → is_in p before ≡ true
among_before p x [] after h = absurd (no_less _ (x == x) (same_number x) _ h)
among_before p x (y ∷ before) after h =
    steps p x y (before ++ x ∷ after) before (y == p) (y == x) h (among_before p x before after)

last_or_before : (P : ℕ → Type 0) (x y : ℕ) (before : List ℕ) → is_in y (before ++ x ∷ []) ≡ true → P x → (is_in y before ≡ true → P y) → P y
last_or_before P x y before h own r =
    split (is_in y before) (x == y) refl refl (sym (list_any-append (λ z. z == y) before (x ∷ [])) ∙ h)
  where
    split : (a b : Bool) → is_in y before ≡ a → (x == y) ≡ b → (a || (b || false)) ≡ true → P y
    split true b e f g = r e
    split false true e f g = subst P (eqb-true x y f) own
    split false false e f g = absurd (cc)

abbrev first_of : List ℕ → Option ℕ
first_of [] = None
first_of (x ∷ xs) = Some x

root_of-numbers : (els : List Element) → first_of (numbers els) ≡ root_of els
root_of-numbers [] = refl
root_of-numbers (e ∷ els) = refl

append-nil : (xs : List ℕ) → xs ++ [] ≡ xs
append-nil [] = refl
append-nil (x ∷ xs) = ap (λ l. x ∷ l) (append-nil xs)

module _ (st : Standing) (v : IsValid (elements_of st.scene)) (all : AllKeep st) where
  -- the root comes first

  first_kept : (r : ℕ) (b : Bool) → root_of (elements_of st.scene) ≡ Some r → is_matched st r ≡ b → (if b then cascaded true initial_style initial_size (matching_in st.scene r) else unwrap_or (kept_at st r) initial_style) ≡ style_in st.scene r
  first_kept r true is h =
      sym (style_of-root (elements_of st.scene) (sources_of st.scene.sheets) v r (parent_of-root (elements_of st.scene) v r is))
  first_kept r false is h =
      let there = root_element (elements_of st.scene) r is in
      ap (λ o. unwrap_or o initial_style) (kept_root st v r there (all r there h) (parent_of-root (elements_of st.scene) v r is)).0

  pub first_style-now : (r : ℕ) → root_of (elements_of st.scene) ≡ Some r → first_style st r ≡ style_in st.scene r
  first_style-now r is = first_kept r (is_matched st r) is refl

  size_by : (o : Option ℕ) → root_of (elements_of st.scene) ≡ o → option_map_or (λ r. font_size_of (first_style st r).values) o initial_size ≡ root_size_in st.scene
  unfolding root_size_of
  size_by None is = ap (λ o. option_map_or (root_size_at (elements_of st.scene) (sources_of st.scene.sheets)) o initial_size) (sym is)
  size_by (Some r) is =
      ap (λ (s : Style). font_size_of s.values) (first_style-now r is)
      ∙ sym (root_size_of-root (elements_of st.scene) (sources_of st.scene.sheets) v r is)

  pub first_size-now : first_size st ≡ root_size_in st.scene
  first_size-now = size_by (root_of (elements_of st.scene)) refl

  -- what has been handed on so far is what the elements so far have now
  abbrev IsRight : List ℕ → List (ℕ × Style) → Type 0
  IsRight so_far news = (y : ℕ) → is_in y so_far ≡ true → listed_at news y ≡ Some (style_in st.scene y)

  module _ (so_far : List ℕ) (news : List (ℕ × Style)) (right : IsRight so_far news) (x : ℕ) (rest : List ℕ) (order : numbers (elements_of st.scene) ≡ so_far ++ x ∷ rest) where
    there_now : IsElement (elements_of st.scene) x
    there_now = is_element-numbers (elements_of st.scene) x ∙ (ap (is_in x) order ∙ in_middle x so_far rest)

    -- the parent comes before it in tree order, whatever its number is
    parent_new : (p : ℕ) → parent_of (elements_of st.scene) x ≡ Some p → new_at news p ≡ style_in st.scene p
    parent_new p h =
        let els = elements_of st.scene in
        let before : position_of els p < position_of els x = (v.parents x p h).1 in
        let at : (y : ℕ) → position_of els y ≡ index_in (so_far ++ x ∷ rest) y = λ y. position_of-numbers els y ∙ ap (λ l. index_in l y) order in
        let less : index_in (so_far ++ x ∷ rest) p < index_in (so_far ++ x ∷ rest) x = rw (at p, at x) at before in
        ap (λ o. unwrap_or o initial_style) (right p (among_before p x so_far rest less))

    over_new : (o : Option ℕ) → parent_of (elements_of st.scene) x ≡ o → new_parent news o ≡ parent_style (elements_of st.scene) (sources_of st.scene.sheets) o
    over_new None h = refl
    over_new (Some p) h = parent_new p h

    same_test : (o : Option ℕ) → parent_of (elements_of st.scene) x ≡ o → option_map_or (λ p. not (is_style (new_at news p) (kept_at st p))) o false ≡ option_map_or (λ p. not (is_style (style_in st.scene p) (kept_at st p))) o false
    same_test None h = refl
    same_test (Some p) h = ap (λ s. not (is_style s (kept_at st p))) (parent_new p h)

    cascades-now : cascades st (root_size_in st.scene) news x ≡ is_cascaded st x
    cascades-now = ap (λ b. is_matched st x || (b || root_size_differs st)) (same_test (parent_of (elements_of st.scene) x) refl)

    new_by : (b : Bool) → is_cascaded st x ≡ b → (if b then styled_over (elements_of st.scene) (sources_of st.scene.sheets) (root_size_in st.scene) (new_parent news (parent_of (elements_of st.scene) x)) x else unwrap_or (kept_at st x) initial_style) ≡ style_in st.scene x
    new_by true h =
        ap (λ s. styled_over (elements_of st.scene) (sources_of st.scene.sheets) (root_size_in st.scene) s x) (over_new (parent_of (elements_of st.scene) x) refl)
        ∙ sym (style_of-over (elements_of st.scene) (sources_of st.scene.sheets) v x)
    new_by false h =
        let own = (or_parts (is_matched st x) _ h).0 in
        ap (λ o. unwrap_or o initial_style) (kept-not_cascaded st v x (all x there_now own) h)

    new-now : new_style st (root_size_in st.scene) news x ≡ style_in st.scene x
    new-now =
        ap (λ b. if b then styled_over (elements_of st.scene) (sources_of st.scene.sheets) (root_size_in st.scene) (new_parent news (parent_of (elements_of st.scene) x)) x else unwrap_or (kept_at st x) initial_style) cascades-now
        ∙ new_by (is_cascaded st x) refl

    right_after : IsRight (so_far ++ x ∷ []) ((x, new_style st (root_size_in st.scene) news x) ∷ news)
    right_after y h = by_number (x == y) refl
      where
        or_none : (a : Bool) → (a || (false || false)) ≡ true → a ≡ true
        or_none true k = refl
        or_none false k = absurd (cc)

        still : (z : ℕ) → is_in z (so_far ++ x ∷ []) ≡ true → (x == z) ≡ false → is_in z so_far ≡ true
        still z k e = or_none (is_in z so_far) (sym (ap (λ b. is_in z so_far || (b || false)) e) ∙ (sym (list_any-append (λ w. w == z) so_far (x ∷ [])) ∙ k))

        by_number : (b : Bool) → (x == y) ≡ b → listed_at ((x, new_style st (root_size_in st.scene) news x) ∷ news) y ≡ Some (style_in st.scene y)
        by_number true e = subst (λ z. listed_at ((x, new_style st (root_size_in st.scene) news x) ∷ news) z ≡ Some (style_in st.scene z)) (eqb-true x y e) (listed-own x _ news ∙ ap Some new-now)
        by_number false e = listed-other y x _ news e ∙ right y (still y h e)

    order_after : numbers (elements_of st.scene) ≡ (so_far ++ x ∷ []) ++ rest
    order_after = order ∙ sym (append_assoc so_far (x ∷ []) rest)

  walked_right : (so_far : List ℕ) (news : List (ℕ × Style)) (rest : List ℕ) → IsRight so_far news → numbers (elements_of st.scene) ≡ so_far ++ rest → IsRight (numbers (elements_of st.scene)) (walked_from st (root_size_in st.scene) news rest)
  walked_right so_far news [] right order = λ y h. right y (sym (ap (is_in y) (order ∙ append-nil so_far)) ∙ h)
  walked_right so_far news (x ∷ rest) right order =
      walked_right (so_far ++ x ∷ []) ((x, new_style st (root_size_in st.scene) news x) ∷ news) rest (right_after so_far news right x rest order) (order_after so_far news right x rest order)

  -- The walk ends with the style that each element has now.
  pub walked-now : (x : ℕ) → IsElement (elements_of st.scene) x → listed_at (walked st) x ≡ Some (style_in st.scene x)
  unfolding walked
  walked-now x there =
      ap (λ z. listed_at (walked_from st z [] (numbers (elements_of st.scene))) x) first_size-now
      ∙ walked_right [] [] (numbers (elements_of st.scene)) (λ y h. absurd (cc)) refl x (sym (is_element-numbers (elements_of st.scene) x) ∙ there)

  -- the element as the walk hands it on
  abbrev pub styled_now : ℕ → Styled
  styled_now x = record { number = x; style = style_in st.scene x; matched = is_matched st x }

  kept_result : (x : ℕ) (xs : List ℕ) (b : Bool) → with_result b (styled_now x) (map styled_now (filter (is_cascaded st) xs)) ≡ map styled_now (cond b (x ∷ filter (is_cascaded st) xs) (filter (is_cascaded st) xs))
  kept_result x xs true = refl
  kept_result x xs false = refl

  results_right : (so_far : List ℕ) (news : List (ℕ × Style)) (rest : List ℕ) → IsRight so_far news → numbers (elements_of st.scene) ≡ so_far ++ rest → results_from st (root_size_in st.scene) news rest ≡ map styled_now (filter (is_cascaded st) rest)
  results_right so_far news [] right order = refl
  results_right so_far news (x ∷ rest) right order =
      let size = root_size_in st.scene in
      let more = results_from st size ((x, new_style st size news x) ∷ news) rest in
      ap (λ b. with_result b (record { number = x; style = new_style st size news x; matched = is_matched st x }) more) (cascades-now so_far news right x rest order)
      ∙ (ap (λ s. with_result (is_cascaded st x) (record { number = x; style = s; matched = is_matched st x }) more) (new-now so_far news right x rest order)
      ∙ (ap (with_result (is_cascaded st x) (styled_now x)) (results_right (so_far ++ x ∷ []) ((x, new_style st size news x) ∷ news) rest (right_after so_far news right x rest order) (order_after so_far news right x rest order))
      ∙ kept_result x rest (is_cascaded st x)))

  -- It cascades exactly those that are cascaded, in tree order, each with the style that it has now.
  pub results-now : results st ≡ map styled_now (filter (is_cascaded st) (numbers (elements_of st.scene)))
  unfolding results
  results-now =
      ap (λ z. results_from st z [] (numbers (elements_of st.scene))) first_size-now
      ∙ results_right [] [] (numbers (elements_of st.scene)) (λ y h. absurd (cc)) refl

  -- The counts are the lengths of its list and of those in it that are matched.
  pub length-results : length (results st) ≡ cascaded_count st
  length-results = ap length results-now ∙ length-map (filter (is_cascaded st) (numbers (elements_of st.scene))) styled_now

  matched_too : (x : ℕ) → is_matched st x ≡ true → is_cascaded st x ≡ true
  matched_too x h = ap (λ b. b || (parent_differs st x || root_size_differs st)) h

  pub matched-results : length (filter (λ (s : Styled). s.matched) (results st)) ≡ matched_count st
  matched-results =
      let els = numbers (elements_of st.scene) in
      ap (λ l. length (filter (λ (s : Styled). s.matched) l)) results-now
      ∙ (ap length (filter-map (λ (s : Styled). s.matched) styled_now (filter (is_cascaded st) els))
      ∙ (length-map (filter (is_matched st) (filter (is_cascaded st) els)) styled_now
      ∙ ap length (filter-filter (is_matched st) (is_cascaded st) matched_too els)))

  -- Until a style has come out different from the kept one, the sets alone tell what is cascaded.
  pub cascaded-calm : (so_far : List ℕ) (x : ℕ) (rest : List ℕ) → numbers (elements_of st.scene) ≡ so_far ++ x ∷ rest → ((y : ℕ) → is_in y so_far ≡ true → kept_at st y ≡ Some (style_in st.scene y)) → is_cascaded st x ≡ is_matched st x
  cascaded-calm [] x rest order same = root-cascaded st v all x (sym (root_of-numbers (elements_of st.scene)) ∙ ap first_of order)
  cascaded-calm (r ∷ so_far) x rest order same =
      let els = elements_of st.scene in
      let is : root_of els ≡ Some r = sym (root_of-numbers els) ∙ ap first_of order in
      let at : (y : ℕ) → position_of els y ≡ index_in ((r ∷ so_far) ++ x ∷ rest) y = λ y. position_of-numbers els y ∙ ap (λ l. index_in l y) order in
      let parent : parent_differs st x ≡ false = differs_by st (parent_of els x) (λ p h.
      let before : position_of els p < position_of els x = (v.parents x p h).1 in
      let less : index_in ((r ∷ so_far) ++ x ∷ rest) p < index_in ((r ∷ so_far) ++ x ∷ rest) x = rw (at p, at x) at before in
      same p (among_before p x (r ∷ so_far) rest less)) in
      let kept : kept_at st r ≡ Some (style_in st.scene r) = same r (ap (λ b. b || is_in r so_far) (same_number r)) in
      let size : root_size_differs st ≡ false =
      ap (λ o. option_map_or (λ q. not (has_size (root_size_in st.scene) (kept_at st q))) o false) is
      ∙ ap not (has_size-own (root_size_in st.scene) (style_in st.scene r) (kept_at st r) kept (sym (root_size_of-root els (sources_of st.scene.sheets) v r is))) in
      ap (λ b. is_matched st x || (b || root_size_differs st)) parent ∙ (ap (λ b. is_matched st x || b) size ∙ or_false (is_matched st x))
    where
      or_false : (b : Bool) → (b || false) ≡ b
      or_false true = refl
      or_false false = refl

  -- The commit: what the walk handed on, and else what was kept, is the style that each element has now.

  one_result : (x y : ℕ) (xs : List ℕ) (b : Bool) → (y == x) ≡ b → result_at (map styled_now xs) x ≡ cond (is_in x xs) (Some (style_in st.scene x)) None → option_map (λ (one : Styled). one.style) (cond b (Some (styled_now y)) (find (λ (one : Styled). one.number == x) (map styled_now xs))) ≡ cond (b || is_in x xs) (Some (style_in st.scene x)) None
  one_result x y xs true h r = ap (λ z. Some (style_in st.scene z)) (eqb-true y x h)
  one_result x y xs false h r = r

  result-among : (x : ℕ) (xs : List ℕ) → result_at (map styled_now xs) x ≡ cond (is_in x xs) (Some (style_in st.scene x)) None
  result-among x [] = refl
  result-among x (y ∷ xs) = one_result x y xs (y == x) refl (result-among x xs)

  commits : (x : ℕ) (b : Bool) → IsElement (elements_of st.scene) x → is_cascaded st x ≡ b → option_or (cond b (Some (style_in st.scene x)) None) (kept_at st x) ≡ Some (style_in st.scene x)
  commits x true there h = refl
  commits x false there h = kept-not_cascaded st v x (all x there (or_parts (is_matched st x) _ h).0) h

  pub committed-now : (x : ℕ) → IsElement (elements_of st.scene) x → committed st x ≡ Some (style_in st.scene x)
  committed-now x there =
      ap (λ l. option_or (result_at l x) (kept_at st x)) results-now
      ∙ (ap (λ o. option_or o (kept_at st x)) (result-among x (filter (is_cascaded st) (numbers (elements_of st.scene))) ∙ ap (λ b. cond b (Some (style_in st.scene x)) None) (among-numbers (elements_of st.scene) (is_cascaded st) x there))
      ∙ commits x (is_cascaded st x) there refl)

-- each once
pub distinct-cascaded : (st : Standing) → IsValid (elements_of st.scene) → IsDistinct nat_eq (filter (is_cascaded st) (numbers (elements_of st.scene)))
distinct-cascaded st v = IsDistinct-filter (is_cascaded st) (numbers (elements_of st.scene)) v.distinct

pub distinct-matched : (st : Standing) → IsValid (elements_of st.scene) → IsDistinct nat_eq (filter (is_matched st) (numbers (elements_of st.scene)))
distinct-matched st v = IsDistinct-filter (is_matched st) (numbers (elements_of st.scene)) v.distinct
